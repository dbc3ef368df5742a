use Rattle.std.proofs.Common.{◌≡◌}
use Rattle.std.specs.Prelude.{map}
use Rattle.std.specs.List.{range_with_len}
use Rattle.place_words.specs.Openings.{opening_owner}
use Rattle.place_words.proofs.opening.owners_at_first.Given as goal

abbrev pub invariant-loop-element : goal.invariant-loop-element
invariant-loop-element l = l.owners.items ≡ map (opening_owner l.shape l.shape.kind) (range_with_len 0 l.element)
