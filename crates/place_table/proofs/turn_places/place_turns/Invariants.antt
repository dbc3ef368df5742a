use Rattle.std.proofs.Common.{◌≡◌, List, Some, Vec, Global, length, slice_get}
use Rattle.place_words.specs.declared.turn_logs.LoggedTurn.{LoggedTurn}
use Rattle.place_table.specs.TurnPlaces.{ArePlaced}
use Rattle.place_table.proofs.turn_places.place_turns.Given as goal

-- those of the turns so far
abbrev pub invariant-loop-turn : goal.invariant-loop-turn
invariant-loop-turn l = record {
  many : length l.places.items ≡ length l.fn.places.items;
  placed : (logs : List (Vec LoggedTurn Global)) (here : Vec LoggedTurn Global) → slice_get logs l.log ≡ Some here → here.items ≡ l.turns
      → ArePlaced l.counts logs l.log 0 l.fn.places.items → ArePlaced l.counts logs l.log l.turn l.places.items;
}
