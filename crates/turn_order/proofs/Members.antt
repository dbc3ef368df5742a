-- What stands in a list.
use Rattle.std.proofs.Common.{◌≡◌, ◌⊎◌, inl, inr, ℕ, zero, suc, ◌<◌, Bool, true, false, cond, List, [], ◌∷◌, ◌++◌, length, get_or, map, refl, ap, sym, ◌∙◌, subst, arith}
use Rattle.std.specs.Prelude.{filter, All, Some, slice_get}
use Rattle.std.specs.List.{flat_map, Contains}
use Rattle.std.proofs.lemmas.List.Elements.{All-nil, All-cons, All-head, All-tail}
use Rattle.std.proofs.lemmas.Option.{none-some, same_Some}

abbrev pub IsAmong : {A : Type 0} → A → List A → Type 0
IsAmong x [] = ⊥
IsAmong x (y ∷ ys) = (y ≡ x) ⊎ IsAmong x ys

module _ {A : Type 0} where
  pub among_front : (x : A) (xs ys : List A) → IsAmong x xs → IsAmong x (xs ++ ys)
  among_front x [] ys there = absurd there
  among_front x (y ∷ xs) ys (inl same) = inl same
  among_front x (y ∷ xs) ys (inr later) = inr (among_front x xs ys later)

  pub among_back : (x : A) (xs ys : List A) → IsAmong x ys → IsAmong x (xs ++ ys)
  among_back x [] ys there = there
  among_back x (y ∷ xs) ys there = inr (among_back x xs ys there)

  pub append_among : (x : A) (xs ys : List A) → IsAmong x (xs ++ ys) → IsAmong x xs ⊎ IsAmong x ys
  append_among x [] ys there = inr there
  append_among x (y ∷ xs) ys (inl same) = inl (inl same)
  append_among x (y ∷ xs) ys (inr later) = by (append_among x xs ys later)
    where
      by : IsAmong x xs ⊎ IsAmong x ys → IsAmong x (y ∷ xs) ⊎ IsAmong x ys
      by (inl front) = inl (inr front)
      by (inr back) = inr back

  pub among_filter : (p : A → Bool) (x : A) (xs : List A) → p x ≡ true → IsAmong x xs → IsAmong x (filter p xs)
  among_filter p x [] passes there = absurd there
  among_filter p x (y ∷ ys) passes (inl same) = by (p y) (ap p same ∙ passes)
    where
      by : (b : Bool) → b ≡ true → IsAmong x (cond b (y ∷ filter p ys) (filter p ys))
      by true is = inl same
      by false is = absurd cc
  among_filter p x (y ∷ ys) passes (inr later) = by (p y) (among_filter p x ys passes later)
    where
      by : (b : Bool) → IsAmong x (filter p ys) → IsAmong x (cond b (y ∷ filter p ys) (filter p ys))
      by true rest = inr rest
      by false rest = rest

  pub filter_among : (p : A → Bool) (x : A) (xs : List A) → IsAmong x (filter p xs) → IsAmong x xs × (p x ≡ true)
  filter_among p x [] there = absurd there
  filter_among p x (y ∷ ys) there = by (p y) refl there (filter_among p x ys)
    where
      by : (b : Bool) → p y ≡ b → IsAmong x (cond b (y ∷ filter p ys) (filter p ys)) → (IsAmong x (filter p ys) → IsAmong x ys × (p x ≡ true)) → IsAmong x (y ∷ ys) × (p x ≡ true)
      by true is (inl same) rest = (inl same, sym (ap p same) ∙ is)
      by true is (inr later) rest = let found = rest later in (inr found.0, found.1)
      by false is later rest = let found = rest later in (inr found.0, found.1)

  pub among_all : (P : A → Type 0) (x : A) (xs : List A) → All P xs → IsAmong x xs → P x
  among_all P x [] all there = absurd there
  among_all P x (y ∷ ys) all (inl same) = subst P same (All-head P y ys all)
  among_all P x (y ∷ ys) all (inr later) = among_all P x ys (All-tail P y ys all) later

  pub all_among : (P : A → Type 0) (xs : List A) → ((x : A) → IsAmong x xs → P x) → All P xs
  all_among P [] each = All-nil P
  all_among P (x ∷ xs) each = All-cons P x xs (each x (inl refl)) (all_among P xs (λ y there. each y (inr there)))

  pub among_contains : (x : A) (xs : List A) → IsAmong x xs → Contains xs x
  among_contains x [] there = absurd there
  among_contains x (y ∷ ys) (inl same) = (0, omega arith, same)
  among_contains x (y ∷ ys) (inr later) = let rest = among_contains x ys later in let less = rest.1 in (suc rest.0, omega arith, rest.2)

  at_among : (x : A) (xs : List A) (k : ℕ) → k < length xs → get_or xs k x ≡ x → IsAmong x xs
  at_among x [] k less is = absurd (omega arith)
  at_among x (y ∷ ys) zero less is = inl is
  at_among x (y ∷ ys) (suc k) less is = inr (at_among x ys k (omega arith) is)

  pub contains_among : (x : A) (xs : List A) → Contains xs x → IsAmong x xs
  contains_among x xs there = at_among x xs there.0 there.1 there.2

  -- by places
  pub among_at : (x : A) (xs : List A) → IsAmong x xs → (k : ℕ) × (slice_get xs k ≡ Some x)
  among_at x [] there = absurd there
  among_at x (y ∷ ys) (inl same) = (0, ap Some same)
  among_at x (y ∷ ys) (inr later) = let rest = among_at x ys later in (suc rest.0, rest.1)

  pub place_among : (x : A) (xs : List A) (k : ℕ) → slice_get xs k ≡ Some x → IsAmong x xs
  place_among x [] k at = absurd (none-some x at)
  place_among x (y ∷ ys) zero at = inl (same_Some y x at)
  place_among x (y ∷ ys) (suc k) at = inr (place_among x ys k at)

module _ {A B : Type 0} where
  pub among_map : (f : A → B) (x : A) (xs : List A) → IsAmong x xs → IsAmong (f x) (map f xs)
  among_map f x [] there = absurd there
  among_map f x (y ∷ ys) (inl same) = inl (ap f same)
  among_map f x (y ∷ ys) (inr later) = inr (among_map f x ys later)

  pub map_among : (f : A → B) (z : B) (xs : List A) → IsAmong z (map f xs) → (x : A) × IsAmong x xs × (f x ≡ z)
  map_among f z [] there = absurd there
  map_among f z (y ∷ ys) (inl same) = (y, inl refl, same)
  map_among f z (y ∷ ys) (inr later) = let rest = map_among f z ys later in (rest.0, inr rest.1, rest.2)

  pub among_flat : (f : A → List B) (x : A) (z : B) (xs : List A) → IsAmong x xs → IsAmong z (f x) → IsAmong z (flat_map f xs)
  among_flat f x z [] there here = absurd there
  among_flat f x z (y ∷ ys) (inl same) here = among_front z (f y) (flat_map f ys) (subst (λ (w : A). IsAmong z (f w)) (sym same) here)
  among_flat f x z (y ∷ ys) (inr later) here = among_back z (f y) (flat_map f ys) (among_flat f x z ys later here)

  pub flat_among : (f : A → List B) (z : B) (xs : List A) → IsAmong z (flat_map f xs) → (x : A) × IsAmong x xs × IsAmong z (f x)
  flat_among f z [] there = absurd there
  flat_among f z (y ∷ ys) there = by (append_among z (f y) (flat_map f ys) there) (flat_among f z ys)
    where
      by : IsAmong z (f y) ⊎ IsAmong z (flat_map f ys) → (IsAmong z (flat_map f ys) → (x : A) × IsAmong x ys × IsAmong z (f x)) → (x : A) × IsAmong x (y ∷ ys) × IsAmong z (f x)
      by (inl here) rest = (y, inl refl, here)
      by (inr later) rest = let found = rest later in (found.0, inr found.1, found.2)
