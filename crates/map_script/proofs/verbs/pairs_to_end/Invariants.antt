use Rattle.std.proofs.Common.{◌≡◌, ◌*◌, length}
use Rattle.map_types.specs.Pairs.{pairs_of}
use Rattle.map_script.specs.Grammar.{pairs_to_end}
use Rattle.map_script.proofs.Fronts.{with_front}
use Rattle.map_script.proofs.verbs.pairs_to_end.Given as goal

-- the pairs so far, and those of the places that are left, are all
abbrev pub invariant-loop-places : goal.invariant-loop-places
invariant-loop-places l =
    (length l.keys.items ≡ l.count * l.shape.key_size) × (length l.values.items ≡ l.count * l.value_size)
    × (with_front (pairs_of l.count l.shape.key_size l.value_size l.keys.items l.values.items) (pairs_to_end l.shape l.places) ≡ pairs_to_end l.shape l.initial.places)

abbrev pub decreases-loop-places : goal.decreases-loop-places
decreases-loop-places l = length l.places
