use Rattle.std.proofs.Common.{◌≡◌}
use Rattle.record_reading.proofs.LoopLemmas.{NumberedSoFar}
use Rattle.record_reading.proofs.sections.read_numbered.Given as goal

abbrev pub invariant-loop-number : goal.invariant-loop-number
invariant-loop-number g l =
    NumberedSoFar (g.T.Numbered.section l.shape) l.count l.number l.initial.lines.0 l.lines.0 l.all × (l.lines.1 ≡ l.initial.lines.1)
