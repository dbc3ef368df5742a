use Rattle.std.proofs.Common.{◌≡◌, ◌++◌, length}
use Rattle.place_words.specs.Bodies.{numbers}
use Rattle.place_table.proofs.read_slots.numbers_left.Given as goal

-- what was popped stood on top of what is left
abbrev pub invariant-loop-body : goal.invariant-loop-body
invariant-loop-body l = l.elements.items ++ numbers l.freelist.bodies ≡ numbers l.fn.freelist.bodies

abbrev pub decreases-loop-body : goal.decreases-loop-body
decreases-loop-body l = length (numbers l.freelist.bodies)
