use Rattle.place_table.proofs.FirstSets.{IsFilled}
use Rattle.place_table.proofs.create.set_of.Given as goal

abbrev pub invariant-loop-left : goal.invariant-loop-left
invariant-loop-left l = IsFilled l.shape l.elements l.left l.set

abbrev pub decreases-loop-left : goal.decreases-loop-left
decreases-loop-left l = l.left
