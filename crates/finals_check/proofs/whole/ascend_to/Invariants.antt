use Rattle.std.proofs.Common.{◌≡◌, drop}
use Rattle.finals_check.specs.Marking.{ascend_to}
use Rattle.finals_check.proofs.whole.ascend_to.Given as goal

-- what is left
abbrev pub invariant-loop-number : goal.invariant-loop-number
invariant-loop-number l = ascend_to l.bound l.least (drop l.number-index l.numbers) ≡ ascend_to l.bound 0 l.numbers
