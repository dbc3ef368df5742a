-- The elements of a bucket, taken out one by one, against what is told of them.
use Rattle.std.proofs.Common.{◌≡◌, ℕ, ◌+◌, ◌<◌, List, [], ◌∷◌, ◌++◌, length, take, get_or, Some, refl, ap, sym, ◌∙◌}
use Rattle.std.specs.Prelude.{All, remove, slice_get}
use Rattle.std.proofs.lemmas.Option.{none-some, same_Some}
use Rattle.std.proofs.lemmas.List.{append_assoc, take_more}
use Rattle.std.proofs.lemmas.List.Elements.{All-rest}

module _ {A : Type 0} where
  -- what is taken out is the first, and the rest is left
  pub first_out : (left rest : List A) (body : A) → slice_get left 0 ≡ Some body → rest ≡ remove left 0 → left ≡ body ∷ rest
  first_out [] rest body at is = absurd (none-some body at)
  first_out (x ∷ left) rest body at is = rw (same_Some x body at, is) refl

  module _ (kept before left : List A) (place : ℕ) (so_far : take place kept ++ left ≡ before) where
    pub one_more : (d body : A) (rest : List A) → place < length kept → left ≡ body ∷ rest → get_or kept place d ≡ body → take (place + 1) kept ++ rest ≡ before
    one_more d body rest within is same =
        ap (λ (front : List A). front ++ rest) (take_more kept place d within ∙ ap (λ (one : A). take place kept ++ one ∷ []) same)
        ∙ append_assoc (take place kept) (body ∷ []) rest ∙ ap (λ (l : List A). take place kept ++ l) (sym is) ∙ so_far

  pub rest_fits : (P : A → Type 0) (left rest : List A) (body : A) → left ≡ body ∷ rest → All P left → All P rest
  rest_fits P left rest body is all = All-rest P body rest left is all
