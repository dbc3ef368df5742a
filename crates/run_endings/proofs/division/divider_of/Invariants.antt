use Rattle.std.proofs.Common.{length}
use Rattle.run_endings.proofs.Dividing.{Reached}
use Rattle.run_endings.proofs.division.divider_of.Given as goal

abbrev pub invariant-loop-line : goal.invariant-loop-line
invariant-loop-line l = Reached l.input l.rest

abbrev pub decreases-loop-line : goal.decreases-loop-line
decreases-loop-line l = length l.rest
