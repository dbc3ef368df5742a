use Rattle.std.proofs.Common.{◌-◌}
use Rattle.record_reading.proofs.PairsLemmas.{PairsSoFar}
use Rattle.record_reading.proofs.pairs.pairs.Given as goal

abbrev pub invariant-loop-i : goal.invariant-loop-i
invariant-loop-i l = PairsSoFar l.shape l.side l.count (l.count - l.i) l.text l.rest l.keys.items l.values.items
