use Rattle.std.proofs.Common.{◌≡◌, length}
use Rattle.record_reading.proofs.StoredLemmas.{StoredSoFar}
use Rattle.record_reading.proofs.finals.ListKeptNumbered.read.Given as goal

abbrev pub invariant-loop-line : goal.invariant-loop-line
invariant-loop-line l = StoredSoFar l.shape l.number l.initial.lines.0 l.lines.0 l.bucket × (l.lines.1 ≡ l.initial.lines.1)

abbrev pub decreases-loop-line : goal.decreases-loop-line
decreases-loop-line l = length l.lines.0
