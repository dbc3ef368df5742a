use Rattle.std.proofs.Common.{◌≡◌, ◌++◌, length}
use Rattle.record_replay.proofs.listed.take_all.Given as goal

abbrev pub invariant-loop-place : goal.invariant-loop-place
invariant-loop-place l = (l.bodies.items ++ l.chain.bodies ≡ l.initial.chain.bodies) × (length l.bodies.items ≡ l.place)
