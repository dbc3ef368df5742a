use Rattle.std.proofs.Common.{◌≡◌}
use Rattle.std.specs.Prelude.{map}
use Rattle.std.specs.List.{range_with_len}
use Rattle.place_words.specs.OpeningState.{opening_home}
use Rattle.step_check.proofs.first_words.homes_at_first.Given as goal

abbrev pub invariant-loop-element : goal.invariant-loop-element
invariant-loop-element l = l.homes.items ≡ map (opening_home l.shape) (range_with_len 0 l.element)
