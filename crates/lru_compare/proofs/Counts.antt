-- Counts of what two lists have side by side.
use Rattle.std.proofs.Common.{◌≡◌, ◌+◌, ◌≤◌, ◌∙◌, ◌⊎◌, ⊎_elim, refl, ap, ap₂, arith, ℕ, Bool, true, cond, List, [], ◌∷◌, length, count_by}
use Rattle.std.specs.Prelude.{zip}
use Rattle.std.proofs.lemmas.List.Sums.{count_by-le-length, sum_by-cons}

zip_within : {A B : Type 0} (xs : List A) (ys : List B) → length (zip xs ys) ≤ length xs
zip_within [] ys = omega arith
zip_within (x ∷ xs) [] = omega arith
zip_within (x ∷ xs) (y ∷ ys) = omega (arith, zip_within xs ys)

zip_none : {A B : Type 0} (xs : List A) → zip {X = B} xs [] ≡ []
zip_none [] = refl
zip_none (x ∷ xs) = refl

module _ {A B : Type 0} (p : A × B → Bool) where
  -- where one list is spent, nothing is counted
  none_counted : (xs : List A) (ys : List B) → (xs ≡ []) ⊎ (ys ≡ []) → count_by p (zip xs ys) ≡ 0
  none_counted xs ys spent =
      ⊎_elim
      (λ (first : xs ≡ []). ap (λ (l : List A). count_by p (zip l ys)) first)
      (λ (second : ys ≡ []). ap (λ (l : List B). count_by p (zip xs l)) second ∙ ap (count_by p) (zip_none xs))
      spent

  -- at the end all are counted
  pub all_counted : (count total : ℕ) (xs : List A) (ys : List B) → count + count_by p (zip xs ys) ≡ total → (xs ≡ []) ⊎ (ys ≡ []) → count ≡ total
  all_counted count total xs ys so_far spent = omega (arith, so_far, none_counted xs ys spent)

  -- where one more is counted, they are no more than all
  pub one_counted : (count : ℕ) (x : A) (xs now all : List A) (y : B) (ys left others : List B) → count + count_by p (zip now left) ≡ count_by p (zip all others)
      → now ≡ x ∷ xs → left ≡ y ∷ ys → p (x, y) ≡ true → count + 1 ≤ length all
  one_counted count x xs now all y ys left others so_far now_is left_is passes =
      let next : count_by p (zip now left) ≡ 1 + count_by p (zip xs ys) =
      ap₂ (λ (l : List A) (m : List B). count_by p (zip l m)) now_is left_is
      ∙ sum_by-cons (λ pair. cond (p pair) 1 0) (x, y) (zip xs ys) ∙ ap (λ (b : Bool). cond b 1 0 + count_by p (zip xs ys)) passes in
      omega (arith, so_far, next, count_by-le-length p (zip all others), zip_within all others)
