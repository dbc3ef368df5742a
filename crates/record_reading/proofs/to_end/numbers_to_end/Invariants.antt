use Rattle.std.proofs.Common.{length}
use Rattle.record_reading.proofs.ToEndLemmas.{AreSoFar}
use Rattle.record_reading.proofs.to_end.numbers_to_end.Given as goal

abbrev pub invariant-loop-rest : goal.invariant-loop-rest
invariant-loop-rest l = AreSoFar l.below l.text l.rest l.found

abbrev pub decreases-loop-rest : goal.decreases-loop-rest
decreases-loop-rest l = length l.rest
