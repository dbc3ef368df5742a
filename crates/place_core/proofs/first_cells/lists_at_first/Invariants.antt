use Rattle.std.proofs.Common.{◌≡◌}
use Rattle.std.specs.Prelude.{map}
use Rattle.std.specs.List.{range_with_len}
use Rattle.place_words.specs.OpeningState.{opening_lists}
use Rattle.place_core.proofs.first_cells.lists_at_first.Given as goal

abbrev pub invariant-loop-number : goal.invariant-loop-number
invariant-loop-number l = l.lists.items ≡ map (opening_lists l.shape) (range_with_len 0 l.number)
