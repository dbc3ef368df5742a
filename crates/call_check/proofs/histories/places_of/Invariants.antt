use Rattle.std.specs.Prelude.{◌≡◌, ◌≤◌, map}
use Rattle.std.specs.List.{range_with_len}
use Rattle.call_check.specs.StrandPlaces.{place_of}
use Rattle.call_check.proofs.histories.places_of.Given as goal

abbrev pub invariant-loop-number : goal.invariant-loop-number
invariant-loop-number l = (l.places.items ≡ map (place_of l.shape) (range_with_len 0 l.number)) × (l.place ≡ place_of l.shape l.number) × (l.place ≤ l.number)
