use Rattle.std.proofs.Common.{◌≡◌, length}
use Rattle.record_reading.proofs.StrandLemmas.{StrandsSoFar}
use Rattle.record_reading.proofs.strands.read_strands.Given as goal

abbrev pub invariant-loop-line : goal.invariant-loop-line
invariant-loop-line l = StrandsSoFar l.script l.least l.initial.lines.0 l.lines.0 l.strands × (l.lines.1 ≡ l.initial.lines.1)

abbrev pub decreases-loop-line : goal.decreases-loop-line
decreases-loop-line l = length l.lines.0
