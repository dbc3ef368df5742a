use Rattle.map_batch.proofs.TakenOn.{TakenBefore}
use Rattle.map_batch.proofs.take_plain.take_from.Given as goal

abbrev pub invariant-loop-bucket : goal.invariant-loop-bucket
invariant-loop-bucket g l = TakenBefore l.map l.fn.out.limit l.from l.bucket l.buckets l.fn.pass l.pass l.out
