use Rattle.std.proofs.Common.{◌≡◌}
use Rattle.record_reading.proofs.HistoryLemmas.{HistoriesSoFar}
use Rattle.record_reading.proofs.histories.read_histories.Given as goal

abbrev pub invariant-loop-number : goal.invariant-loop-number
invariant-loop-number l = HistoriesSoFar l.script l.number l.head l.initial.lines.0 l.lines.0 l.histories × (l.lines.1 ≡ l.initial.lines.1)
