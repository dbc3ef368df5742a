use Rattle.std.proofs.Common.{◌≡◌}
use Rattle.map_batch.proofs.LruWhole.{TakenBefore}
use Rattle.map_batch.proofs.take_lru.take_from.Given as goal

abbrev pub invariant-loop-bucket : goal.invariant-loop-bucket
invariant-loop-bucket g l = TakenBefore l.map l.fn.taking.out.limit l.from l.bucket l.buckets l.fn.pass l.pass l.taking.out × (l.taking.gone ≡ l.fn.taking.gone)
