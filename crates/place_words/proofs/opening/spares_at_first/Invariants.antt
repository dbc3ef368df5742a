use Rattle.std.proofs.Common.{◌≡◌}
use Rattle.std.specs.List.{range_with_len, flat_map}
use Rattle.place_words.specs.Openings.{opening_stack}
use Rattle.place_words.proofs.opening.spares_at_first.Given as goal

abbrev pub invariant-loop-cpu : goal.invariant-loop-cpu
invariant-loop-cpu l = l.list.items ≡ flat_map (opening_stack l.shape) (range_with_len 0 l.cpu)
