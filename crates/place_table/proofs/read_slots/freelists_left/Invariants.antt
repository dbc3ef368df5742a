use Rattle.std.proofs.Common.{◌≡◌, map}
use Rattle.place_table.specs.Leaving.{numbers_in}
use Rattle.place_table.proofs.read_slots.freelists_left.Given as goal

-- the freelists so far
abbrev pub invariant-loop-content : goal.invariant-loop-content
invariant-loop-content l =
    (goal.iterator-loop-content).can_next l.content-iterator
    × (goal.iterator-loop-content).is_finite l.content-iterator
    × (l.freelists.items ≡ map numbers_in l.yielded)
