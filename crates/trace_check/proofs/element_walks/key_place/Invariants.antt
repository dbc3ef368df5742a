use Rattle.std.proofs.Common.{◌≡◌, drop}
use Rattle.trace_check.specs.Pairs.{key_place}
use Rattle.trace_check.proofs.KeyPlaces.{places_behind}
use Rattle.trace_check.proofs.element_walks.key_place.Given as goal

abbrev pub invariant-loop-kept : goal.invariant-loop-kept
invariant-loop-kept l = (l.place ≡ l.kept-index) × (key_place l.key l.all ≡ places_behind l.place (key_place l.key (drop l.kept-index l.all)))
