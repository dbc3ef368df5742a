-- The first steps of a row, and those behind them, by its two parts.
use Rattle.std.proofs.Common.{◌≡◌, ◌-◌, ℕ, zero, suc, List, [], ◌∷◌, ◌++◌, ap, ◌∙◌, sym, arith}
use Rattle.std.specs.Prelude.{length, map, take, drop}
use Rattle.std.proofs.lemmas.List.{take-map, drop-map, length-map}
use Rattle.place_words.specs.declared.history.StrandStep.{StrandStep}
use Rattle.place_words.specs.declared.strand_steps.PackedStep.{PackedStep}
use Rattle.place_words.specs.StrandSteps.{step_unpacked, steps_in}

take_parts : (n : ℕ) (xs ys : List StrandStep) → take n (xs ++ ys) ≡ take n xs ++ take (n - length xs) ys
take_parts zero xs ys = let none : 0 - length xs ≡ 0 = omega arith in sym (ap (λ (k : ℕ). take k ys) none)
take_parts (suc n) [] ys = let all : suc n - 0 ≡ suc n = omega arith in sym (ap (λ (k : ℕ). take k ys) all)
take_parts (suc n) (x ∷ xs) ys =
    let fewer : n - length xs ≡ suc n - suc (length xs) = omega arith in
    ap (λ (l : List StrandStep). x ∷ l) (take_parts n xs ys) ∙ ap (λ (k : ℕ). x ∷ (take n xs ++ take k ys)) fewer

drop_parts : (n : ℕ) (xs ys : List StrandStep) → drop n (xs ++ ys) ≡ drop n xs ++ drop (n - length xs) ys
drop_parts zero xs ys = let none : 0 - length xs ≡ 0 = omega arith in sym (ap (λ (k : ℕ). xs ++ drop k ys) none)
drop_parts (suc n) [] ys = let all : suc n - 0 ≡ suc n = omega arith in sym (ap (λ (k : ℕ). drop k ys) all)
drop_parts (suc n) (x ∷ xs) ys =
    let fewer : n - length xs ≡ suc n - suc (length xs) = omega arith in
    drop_parts n xs ys ∙ ap (λ (k : ℕ). drop n xs ++ drop k ys) fewer

-- the first so many
pub first_parts : (n : ℕ) (packed : List PackedStep) (plain : List StrandStep)
    → take n (steps_in packed plain) ≡ steps_in (take n packed) (take (n - length packed) plain)
first_parts n packed plain =
    take_parts n (map step_unpacked packed) plain
    ∙ ap (λ (l : List StrandStep). l ++ take (n - length (map step_unpacked packed)) plain) (take-map step_unpacked n packed)
    ∙ ap (λ (k : ℕ). map step_unpacked (take n packed) ++ take (n - k) plain) (length-map packed step_unpacked)

-- and those behind them
pub behind_parts : (n : ℕ) (packed : List PackedStep) (plain : List StrandStep)
    → drop n (steps_in packed plain) ≡ steps_in (drop n packed) (drop (n - length packed) plain)
behind_parts n packed plain =
    drop_parts n (map step_unpacked packed) plain
    ∙ ap (λ (l : List StrandStep). l ++ drop (n - length (map step_unpacked packed)) plain) (drop-map step_unpacked n packed)
    ∙ ap (λ (k : ℕ). map step_unpacked (drop n packed) ++ drop (n - k) plain) (length-map packed step_unpacked)
