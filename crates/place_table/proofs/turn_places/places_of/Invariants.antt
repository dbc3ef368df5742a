use Rattle.std.proofs.Common.{◌≡◌, length}
use Rattle.place_table.specs.TurnPlaces.{ArePlaced, turns_before}
use Rattle.place_table.proofs.turn_places.places_of.Given as goal

-- those of the logs so far
abbrev pub invariant-loop-log : goal.invariant-loop-log
invariant-loop-log l = record {
  many : length l.places.items ≡ turns_before l.counts (length l.counts);
  placed : ArePlaced l.counts l.logs l.log 0 l.places.items;
}
