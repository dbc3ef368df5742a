use Rattle.std.proofs.Common.{◌≡◌, ◌++◌, map}
use Rattle.std.specs.List.{range_with_len}
use Rattle.place_words.specs.Codes.{home_code}
use Rattle.place_words.specs.OpeningState.{opening_home}
use Rattle.place_table.proofs.create.push_homes.Given as goal

abbrev pub invariant-loop-element : goal.invariant-loop-element
invariant-loop-element l = l.words.items ≡ l.initial.words.items ++ map home_code (map (opening_home l.shape) (range_with_len 0 l.element))
