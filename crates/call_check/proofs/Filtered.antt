-- What a test picks of a list.
use Rattle.std.proofs.Common.{◌≡◌, inl, inr, Bool, true, false, cond, List, [], ◌∷◌, refl, ap, sym, ◌∙◌}
use Rattle.std.specs.Prelude.{filter}
use Rattle.std.proofs.lemmas.Bool.{cond-true, cond-false}
use Rattle.turn_order.proofs.Members.{IsAmong}

pub keeps_all : {A : Type 0} (p : A → Bool) (xs : List A) → ((x : A) → IsAmong x xs → p x ≡ true) → filter p xs ≡ xs
keeps_all p [] each = refl
keeps_all p (x ∷ xs) each = cond-true (p x) (x ∷ filter p xs) (filter p xs) (each x (inl refl)) ∙ ap (λ (l : List _). x ∷ l) (keeps_all p xs (λ y there. each y (inr there)))

pub keeps_none : {A : Type 0} (p : A → Bool) (xs : List A) → ((x : A) → IsAmong x xs → p x ≡ false) → filter p xs ≡ []
keeps_none p [] each = refl
keeps_none p (x ∷ xs) each = cond-false (p x) (x ∷ filter p xs) (filter p xs) (each x (inl refl)) ∙ keeps_none p xs (λ y there. each y (inr there))

-- of what one test picks another one picks what it picks of all, where it picks less
pub picks_less : {A : Type 0} (p q : A → Bool) (xs : List A) → ((x : A) → IsAmong x xs → p x ≡ true → q x ≡ true) → filter p (filter q xs) ≡ filter p xs
picks_less p q [] less = refl
picks_less p q (x ∷ xs) less = by (p x) refl (q x) refl (picks_less p q xs (λ y there. less y (inr there)))
  where
    by : (b : Bool) → p x ≡ b → (c : Bool) → q x ≡ c → filter p (filter q xs) ≡ filter p xs → filter p (cond c (x ∷ filter q xs) (filter q xs)) ≡ cond b (x ∷ filter p xs) (filter p xs)
    by true is true is_too rest = cond-true (p x) (x ∷ filter p (filter q xs)) (filter p (filter q xs)) is ∙ ap (λ (l : List _). x ∷ l) rest
    by true is false is_not rest = absurd (let no : true ≡ false = sym (less x (inl refl) is) ∙ is_not in cc)
    by false is true is_too rest = cond-false (p x) (x ∷ filter p (filter q xs)) (filter p (filter q xs)) is ∙ rest
    by false is false is_not rest = rest
