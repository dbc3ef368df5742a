use Rattle.std.proofs.Common.{◌≡◌, map}
use Rattle.place_table.specs.Leaving.{set_in}
use Rattle.place_table.proofs.lists_left.sets_left.Given as goal

-- the list sets so far
abbrev pub invariant-loop-content : goal.invariant-loop-content
invariant-loop-content l =
    (goal.iterator-loop-content).can_next l.content-iterator
    × (goal.iterator-loop-content).is_finite l.content-iterator
    × (l.sets.items ≡ map set_in l.yielded)
