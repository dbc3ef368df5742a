use Rattle.std.proofs.Common.{◌≡◌, ◌++◌, length}
use Rattle.record_replay.proofs.listed.put_back.Given as goal

abbrev pub invariant-loop-body : goal.invariant-loop-body
invariant-loop-body l = l.left.items ++ l.chain.bodies ≡ l.initial.left.items

abbrev pub decreases-loop-body : goal.decreases-loop-body
decreases-loop-body l = length l.left.items
