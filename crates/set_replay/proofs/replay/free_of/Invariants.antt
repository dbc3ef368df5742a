use Rattle.std.proofs.Common.{◌≡◌, ◌++◌, length}
use Rattle.place_words.specs.Bodies.{numbers}
use Rattle.set_replay.proofs.replay.free_of.Given as goal

-- what was popped stood at the head of what is left
abbrev pub invariant-loop-body : goal.invariant-loop-body
invariant-loop-body g l = l.free.items ++ numbers l.set.free.bodies ≡ numbers l.fn.set.free.bodies

abbrev pub decreases-loop-body : goal.decreases-loop-body
decreases-loop-body g l = length l.set.free.bodies
