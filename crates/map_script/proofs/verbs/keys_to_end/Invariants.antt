use Rattle.std.proofs.Common.{◌≡◌, length}
use Rattle.map_script.specs.Grammar.{keys_to_end}
use Rattle.map_script.proofs.Fronts.{with_front}
use Rattle.map_script.proofs.verbs.keys_to_end.Given as goal

-- the keys so far, and those of the places that are left, are all
abbrev pub invariant-loop-places : goal.invariant-loop-places
invariant-loop-places l = with_front l.keys.items (keys_to_end l.shape l.places) ≡ keys_to_end l.shape l.initial.places

abbrev pub decreases-loop-places : goal.decreases-loop-places
decreases-loop-places l = length l.places
