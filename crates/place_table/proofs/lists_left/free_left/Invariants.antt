use Rattle.std.proofs.Common.{◌≡◌, ◌++◌, length}
use Rattle.place_table.proofs.lists_left.free_left.Given as goal
use Rattle.place_words.specs.Bodies.{numbers}

-- what was popped stood at the head of what is left
abbrev pub invariant-loop-body : goal.invariant-loop-body
invariant-loop-body l = l.elements.items ++ numbers l.set.free.bodies ≡ numbers l.fn.set.free.bodies

abbrev pub decreases-loop-body : goal.decreases-loop-body
decreases-loop-body l = length l.set.free.bodies
