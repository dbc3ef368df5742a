-- What is numbered from 0, one more at a time.
use Rattle.std.proofs.Common.{◌≡◌, ℕ, ◌+◌, List, [], ◌∷◌, ◌++◌, map, sym, ◌∙◌, arith}
use Rattle.std.specs.List.{range_with_len}
use Rattle.std.proofs.lemmas.List.FromFn.{map-range_with_len_more}

pub one_more : {A : Type 0} (f : ℕ → A) (i : ℕ) (so_far more : List A) (next : A) → so_far ≡ map f (range_with_len 0 i) → next ≡ f i → more ≡ so_far ++ next ∷ []
    → more ≡ map f (range_with_len 0 (i + 1))
one_more f i so_far more next are is pushed =
    pushed ∙ (λ k. are k ++ (is k ∷ [])) ∙ sym (map-range_with_len_more f 0 i i (omega arith))
