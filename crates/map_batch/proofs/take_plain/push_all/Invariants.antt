use Rattle.std.proofs.Common.{◌≡◌, ◌+◌, length}
use Rattle.map_batch.proofs.Emptied.{PushedSoFar}
use Rattle.map_batch.proofs.take_plain.push_all.Given as goal

abbrev pub invariant-loop-done : goal.invariant-loop-done
invariant-loop-done g l = PushedSoFar l.map l.bucket l.fn.pass l.pass l.fn.chain.bodies l.chain.bodies × (l._done + length l.chain.bodies ≡ l.count)
