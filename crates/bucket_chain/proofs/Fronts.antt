-- A list that is taken apart at a place, and put together again.
use Rattle.std.proofs.Common.{◌≡◌, ℕ, zero, suc, ◌+◌, ◌≤◌, List, [], ◌∷◌, ◌++◌, length, take, drop, reverse, refl, ap, sym, ◌∙◌, arith}
use Rattle.std.specs.Prelude.{remove, slice_get, Option, None, Some, MatchOption}
use Rattle.std.proofs.lemmas.List.{reverse-append, reverse-reverse}

one_more : (k : ℕ) → k + 1 ≡ suc k
one_more k = omega arith

module _ {X : Type 0} where
  -- one more is taken off
  taken_more : (k : ℕ) (xs : List X) (x : X) (rest : List X) → drop k xs ≡ x ∷ rest → take (suc k) xs ≡ take k xs ++ x ∷ []
  taken_more zero [] x rest at = absurd cc
  taken_more zero (y ∷ xs) x rest at = cc
  taken_more (suc k) [] x rest at = absurd cc
  taken_more (suc k) (y ∷ xs) x rest at = ap (λ ys. y ∷ ys) (taken_more k xs x rest at)

  left_more : (k : ℕ) (xs : List X) (x : X) (rest : List X) → drop k xs ≡ x ∷ rest → drop (suc k) xs ≡ rest
  left_more zero [] x rest at = absurd cc
  left_more zero (y ∷ xs) x rest at = cc
  left_more (suc k) [] x rest at = absurd cc
  left_more (suc k) (y ∷ xs) x rest at = left_more k xs x rest at

  pub front_more : (k : ℕ) (xs : List X) (x : X) (rest front : List X) → drop k xs ≡ x ∷ rest → front ≡ reverse (take k xs) → x ∷ front ≡ reverse (take (k + 1) xs)
  front_more k xs x rest front at is =
      ap (λ ys. x ∷ ys) is ∙ sym (ap (λ n. reverse (take n xs)) (one_more k) ∙ ap reverse (taken_more k xs x rest at) ∙ reverse-append (take k xs) (x ∷ []))

  pub rest_more : (k : ℕ) (xs : List X) (x : X) (rest : List X) → drop k xs ≡ x ∷ rest → rest ≡ drop (k + 1) xs
  rest_more k xs x rest at = sym (ap (λ n. drop n xs) (one_more k) ∙ left_more k xs x rest at)

  -- nothing is left before a later place either
  pub drop_past : (k n : ℕ) (xs : List X) → drop k xs ≡ [] → k ≤ n → drop n xs ≡ []
  drop_past zero zero xs none before = none
  drop_past zero (suc n) [] none before = refl
  drop_past zero (suc n) (x ∷ xs) none before = absurd cc
  drop_past (suc k) zero xs none before = absurd (omega arith)
  drop_past (suc k) (suc n) [] none before = refl
  drop_past (suc k) (suc n) (x ∷ xs) none before = drop_past k n xs none (omega arith)

  pub take_past : (k n : ℕ) (xs : List X) → drop k xs ≡ [] → k ≤ n → take k xs ≡ take n xs
  take_past zero zero xs none before = refl
  take_past zero (suc n) [] none before = refl
  take_past zero (suc n) (x ∷ xs) none before = absurd cc
  take_past (suc k) zero xs none before = absurd (omega arith)
  take_past (suc k) (suc n) [] none before = refl
  take_past (suc k) (suc n) (x ∷ xs) none before = ap (λ ys. x ∷ ys) (take_past k n xs none (omega arith))

  -- what stands at a place
  pub nothing_at : (k : ℕ) (xs : List X) → drop k xs ≡ [] → slice_get xs k ≡ None
  nothing_at zero [] none = refl
  nothing_at zero (x ∷ xs) none = absurd cc
  nothing_at (suc k) [] none = refl
  nothing_at (suc k) (x ∷ xs) none = nothing_at k xs none

  pub something_at : (k : ℕ) (xs : List X) (x : X) (rest : List X) → drop k xs ≡ x ∷ rest → slice_get xs k ≡ Some x
  something_at zero [] x rest at = absurd cc
  something_at zero (y ∷ xs) x rest at = cc
  something_at (suc k) [] x rest at = absurd cc
  something_at (suc k) (y ∷ xs) x rest at = something_at k xs x rest at

  pub all_before : (k : ℕ) (xs : List X) → drop k xs ≡ [] → length xs ≤ k
  all_before zero [] none = omega arith
  all_before zero (x ∷ xs) none = absurd cc
  all_before (suc k) [] none = omega arith
  all_before (suc k) (x ∷ xs) none = omega (arith, all_before k xs none)

  -- the list without what stood there
  put_back : (k : ℕ) (xs front : List X) (x : X) (rest : List X) → drop k xs ≡ x ∷ rest → front ≡ reverse (take k xs) → reverse front ++ rest ≡ remove xs k
  put_back k xs front x rest at is =
      ap (λ ys. reverse ys ++ rest) is ∙ ap (λ ys. ys ++ rest) (reverse-reverse (take k xs)) ∙ ap (λ ys. take k xs ++ ys) (sym (left_more k xs x rest at))

  put_all_back : (k : ℕ) (xs front : List X) → drop k xs ≡ [] → front ≡ reverse (take k xs) → reverse front ++ [] ≡ remove xs k
  put_all_back k xs front none is =
      ap (λ ys. reverse ys ++ []) is ∙ ap (λ ys. ys ++ []) (reverse-reverse (take k xs)) ∙ ap (λ ys. take k xs ++ ys) (sym (drop_past k (suc k) xs none (omega arith)))

  -- what is taken at a place, and the list that is put together without it
  pub removed_at : (k : ℕ) (xs front at rest now : List X) (taken : Option X) → front ≡ reverse (take k xs) → at ≡ drop k xs
      → MatchOption taken ((at ≡ []) × (rest ≡ [])) (λ x. at ≡ x ∷ rest) → now ≡ reverse front ++ rest → (taken ≡ slice_get xs k) × (now ≡ remove xs k)
  removed_at k xs front at rest now None is there out back =
      let none : drop k xs ≡ [] = sym there ∙ out.0 in (
        sym (nothing_at k xs none),
        back ∙ ap (λ ys. reverse front ++ ys) out.1 ∙ put_all_back k xs front none is,
      )
  removed_at k xs front at rest now (Some x) is there out back =
      let some : drop k xs ≡ x ∷ rest = sym there ∙ out in (
        sym (something_at k xs x rest some),
        back ∙ put_back k xs front x rest some is,
      )
