use Rattle.std.proofs.Common.{◌≡◌, ◌+◌, length}
use Rattle.map_batch.proofs.LruFreed.{FreedSome}
use Rattle.map_batch.proofs.take_lru.free_all.Given as goal

abbrev pub invariant-loop-body : goal.invariant-loop-body
invariant-loop-body g l = FreedSome l.map l.fn.gone.bodies l.gone.bodies l.fn.pass l.pass × (l.gone.spare + length l.gone.bodies ≡ l.fn.gone.spare + length l.fn.gone.bodies)

abbrev pub decreases-loop-body : goal.decreases-loop-body
decreases-loop-body g l = length l.gone.bodies
