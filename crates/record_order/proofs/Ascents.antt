-- Numbers ascend where each is above the one right before it.
use Rattle.std.proofs.Common.{ℕ, zero, suc, ◌<◌, ◌≤◌, List, [], ◌∷◌, length, get_or, arith}
use Rattle.place_words.specs.Tickets.{AscendIn}

-- each is above the one before it
abbrev pub Climbs : List ℕ → Type 0
Climbs xs = (i : ℕ) → suc i < length xs → get_or xs i 0 < get_or xs (suc i) 0

abbrev pub AllBelow : ℕ → List ℕ → Type 0
AllBelow to xs = (i : ℕ) → i < length xs → get_or xs i 0 < to

ascend_from : (from : ℕ) (xs : List ℕ) (to : ℕ) → from ≤ to → (0 < length xs → from ≤ get_or xs 0 0) → AllBelow to xs → Climbs xs → AscendIn from xs to
ascend_from from [] to low first below climbs = low
ascend_from from (x ∷ xs) to low first below climbs =
    let here : x < to = below 0 (omega arith) in
    (first (omega arith), ascend_from (suc x) xs to here (λ some. climbs 0 (omega arith)) (λ i less. below (suc i) (omega arith)) (λ i less. climbs (suc i) (omega arith)))

pub ascends : (xs : List ℕ) (to : ℕ) → AllBelow to xs → Climbs xs → AscendIn 0 xs to
ascends xs to below climbs = ascend_from 0 xs to (omega arith) (λ some. omega arith) below climbs

pub climbs : (from : ℕ) (xs : List ℕ) (to : ℕ) → AscendIn from xs to → Climbs xs
climbs from [] to are i less = absurd (omega arith)
climbs from (x ∷ []) to are i less = absurd (omega arith)
climbs from (x ∷ y ∷ xs) to are zero less = are.1.0
climbs from (x ∷ y ∷ xs) to are (suc i) less = climbs (suc x) (y ∷ xs) to are.1 i (omega arith)
