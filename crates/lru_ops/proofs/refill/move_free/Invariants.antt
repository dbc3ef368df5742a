use Rattle.std.proofs.Common.{◌-◌}
use Rattle.lru_ops.proofs.MovedFree.{MovedSome}
use Rattle.lru_ops.proofs.refill.move_free.Given as goal

abbrev pub invariant-loop-count : goal.invariant-loop-count
invariant-loop-count l = MovedSome l.table l.fn.set l.set l.fn.lists l.lists l.fn.moved l.moved l.fn.pass l.pass l.count

abbrev pub decreases-loop-count : goal.decreases-loop-count
decreases-loop-count l = 128 - l.count
