use Rattle.std.proofs.Common.{◌-◌}
use Rattle.record_reading.proofs.TimesLemmas.{IsSoFar}
use Rattle.record_reading.proofs.many.times.Given as goal

abbrev pub invariant-loop-i : goal.invariant-loop-i
invariant-loop-i g l = IsSoFar (g.T.Readable.front l.shape) l.count (l.count - l.i) l.text l.rest l.found
