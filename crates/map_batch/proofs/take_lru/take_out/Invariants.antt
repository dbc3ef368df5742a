use Rattle.std.proofs.Common.{◌≡◌, length}
use Rattle.map_batch.proofs.LruOut.{Emptying}
use Rattle.map_batch.proofs.take_lru.take_out.Given as goal

abbrev pub invariant-loop-body : goal.invariant-loop-body
invariant-loop-body g l = Emptying l.table l.bucket l.initial.pass l.initial.chain.bodies l.pass l.chain.bodies l.taking.gone l.fn.taking.gone.spare × (l.taking.out ≡ l.initial.taking.out)

abbrev pub decreases-loop-body : goal.decreases-loop-body
decreases-loop-body g l = length l.chain.bodies
