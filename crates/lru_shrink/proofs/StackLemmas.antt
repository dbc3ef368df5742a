-- Bodies that come on a stack one after another.
use Rattle.std.proofs.Common.{◌≡◌, ℕ, ◌+◌, ◌-◌, ◌≤◌, List, [], ◌∷◌, ◌++◌, length, refl, ap, sym, ◌∙◌, arith, append_assoc}
use Rattle.std.specs.Prelude.{reverse}
use Rattle.std.proofs.lemmas.List.{reverse-append, map-append, length-append}
use Rattle.std.proofs.lemmas.List.Elements.{All-append, All-weaker, All-nil, All-cons}
use Rattle.map_types.specs.Stored.{Stored}
use Rattle.percpu_values.specs.BodyList.{BodyList}
use Rattle.lru_shrink.specs.Shrunk.{AreStacked}
use Rattle.place_words.specs.Bodies.{numbers}

pub stacked_none : (gives : Stored → Type 0) (out : BodyList) → AreStacked gives [] out out
stacked_none gives out = record { bodies = []; numbers = refl; given = All-nil gives; fits = omega arith; stacked = ap (λ (n : ℕ). record { bodies = out.bodies; spare = n }) (let same : out.spare ≡ out.spare - 0 = omega arith in same) }

pub stacked_one : (gives : Stored → Type 0) (e : ℕ) (body : Stored) (before after : BodyList) → body.element ≡ e → gives body → 1 ≤ before.spare → after ≡ record { bodies = body ∷ before.bodies; spare = before.spare - 1 } → AreStacked gives (e ∷ []) before after
stacked_one gives e body before after is given room pushed = record {
  bodies = body ∷ [];
  numbers = ap (λ (n : ℕ). n ∷ []) is;
  given = All-cons gives body [] given (All-nil gives);
  fits = room;
  stacked = pushed;
}

-- where nothing came, the stack is as before
pub stacked_nothing : (gives : Stored → Type 0) (elements : List ℕ) (before after : BodyList) → elements ≡ [] → AreStacked gives elements before after → after ≡ before
stacked_nothing gives elements before after none stacked = from stacked.bodies (stacked.numbers ∙ none) stacked.stacked
  where
    from : (bodies : List Stored) → numbers bodies ≡ [] → after ≡ record { bodies = reverse bodies ++ before.bodies; spare = before.spare - length bodies } → after ≡ before
    from [] empty is = is ∙ ap (λ (n : ℕ). let stack : BodyList = record { bodies = before.bodies; spare = n } in stack) (let same : before.spare - 0 ≡ before.spare = omega arith in same)
    from (body ∷ bodies) empty is = absurd cc

less_twice : (n a b : ℕ) → (n - a) - b ≡ n - (a + b)
less_twice n a b = omega arith

joined : (a b c : BodyList) (one two : List Stored) → b ≡ record { bodies = reverse one ++ a.bodies; spare = a.spare - length one } → c ≡ record { bodies = reverse two ++ b.bodies; spare = b.spare - length two } → c ≡ record { bodies = reverse (one ++ two) ++ a.bodies; spare = a.spare - length (one ++ two) }
joined a b c one two first second =
    let bodies : reverse two ++ b.bodies ≡ reverse (one ++ two) ++ a.bodies =
    ap (λ (s : BodyList). reverse two ++ s.bodies) first ∙ sym (append_assoc (reverse two) (reverse one) a.bodies) ∙ ap (λ (xs : List Stored). xs ++ a.bodies) (sym (reverse-append one two)) in
    let spare : b.spare - length two ≡ a.spare - length (one ++ two) =
    ap (λ (s : BodyList). s.spare - length two) first ∙ less_twice a.spare (length one) (length two) ∙ ap (λ (n : ℕ). a.spare - n) (sym (length-append one two)) in
    second ∙ rw (bodies, spare) refl

pub stacked_more : (gives then : Stored → Type 0) (one two : List ℕ) (a b c : BodyList) → ((body : Stored) → gives body → then body) → AreStacked gives one a b → AreStacked then two b c → AreStacked then (one ++ two) a c
stacked_more gives then one two a b c keeps first second = record {
  bodies = first.bodies ++ second.bodies;
  numbers = map-append (λ (body : Stored). body.element) first.bodies second.bodies ∙ ap (λ (xs : List ℕ). xs ++ numbers second.bodies) first.numbers ∙ ap (λ (ys : List ℕ). one ++ ys) second.numbers;
  given = All-append then first.bodies second.bodies (All-weaker gives then keeps first.bodies first.given) second.given;
  fits =
      let left = ap (λ (s : BodyList). s.spare) first.stacked in
      let long = length-append first.bodies second.bodies in
      let one_fits = first.fits in
      let two_fits = second.fits in
      omega arith;
  stacked = joined a b c first.bodies second.bodies first.stacked second.stacked;
}
