use Rattle.std.proofs.Common.{length}
use Rattle.lru_ops.proofs.Flushes.{FlushedSome}
use Rattle.lru_ops.proofs.refill.flush.Given as goal

abbrev pub invariant-loop-row : goal.invariant-loop-row
invariant-loop-row l = FlushedSome l.table l.fn.set l.set l.fn.lists l.lists l.fn.flushed l.flushed l.fn.pass l.pass

abbrev pub decreases-loop-row : goal.decreases-loop-row
decreases-loop-row l = length l.lists.pending
