use Rattle.std.proofs.Common.{◌≡◌, ◌++◌, drop}
use Rattle.step_check.proofs.AllPlaces.{places_from}
use Rattle.step_check.proofs.places.all_places.Given as goal

-- those so far and those that are left are those of all
abbrev pub invariant-loop-number : goal.invariant-loop-number
invariant-loop-number l = l.places.items ++ places_from l.number (drop l.number l.histories) ≡ places_from 0 l.histories
