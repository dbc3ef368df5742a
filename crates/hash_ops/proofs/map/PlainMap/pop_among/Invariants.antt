use Rattle.hash_ops.proofs.Pops.{LookedBefore}
use Rattle.hash_ops.proofs.map.PlainMap.pop_among.Given as goal

abbrev pub invariant-loop-cpu : goal.invariant-loop-cpu
invariant-loop-cpu g l = LookedBefore l.self l.from l.cpu l.to l.fn.pass l.pass
