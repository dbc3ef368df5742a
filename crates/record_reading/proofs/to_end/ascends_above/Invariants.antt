use Rattle.record_reading.proofs.AscendLemmas.{AreAbove}
use Rattle.record_reading.proofs.to_end.ascends_above.Given as goal

abbrev pub invariant-loop-number : goal.invariant-loop-number
invariant-loop-number l = AreAbove l.first l.least l.numbers l.number-index
