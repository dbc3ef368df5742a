use Rattle.std.proofs.Common.{◌≡◌, ℕ, List, length, ap, arith}
use Rattle.finals_check.proofs.Telling.{all_left, few_left}
use Rattle.finals_check.proofs.told.spares_told.Goals as goal

pub returns-then-left-spares : goal.returns-then-left-spares
returns-then-left-spares c =
    let same : length c.as_slice-spares.result.now ≡ length c.args.finals.now.spares = ap (λ (l : List ℕ). length l) c.as_slice-spares.ensures in
    few_left c.args.finals.now c.args.left.now (omega arith)

pub returns : goal.returns
returns c =
    let same : length c.as_slice-spares.result.now ≡ length c.args.finals.now.spares = ap (λ (l : List ℕ). length l) c.as_slice-spares.ensures in
    all_left c.args.finals.now c.args.left.now (omega arith) (λ n less. c.loop-cpu.invariant n (omega arith))
