use Rattle.std.proofs.Common.{◌≡◌, ◌++◌, drop}
use Rattle.step_check.specs.Places.{places_in}
use Rattle.step_check.proofs.places.push_places.Given as goal

-- those so far and those that are left are those of all
abbrev pub invariant-loop-index : goal.invariant-loop-index
invariant-loop-index l = l.places.items ++ places_in l.history l.index (drop l.index l.entries) ≡ l.fn.places.items ++ places_in l.history 0 l.entries
