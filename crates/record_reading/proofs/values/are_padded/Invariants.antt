use Rattle.std.proofs.Common.{◌-◌}
use Rattle.record_reading.proofs.PaddedLemmas.{IsPaddedSoFar}
use Rattle.record_reading.proofs.values.are_padded.Given as goal

abbrev pub invariant-loop-i : goal.invariant-loop-i
invariant-loop-i l = IsPaddedSoFar l.parts (l.parts - l.i) l.size l.fields l.rest
