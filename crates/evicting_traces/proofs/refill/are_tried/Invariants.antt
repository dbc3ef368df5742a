use Rattle.std.proofs.Common.{◌≡◌, drop, map}
use Rattle.std.specs.Prelude.{bytes_eq, filter}
use Rattle.place_words.specs.Shrinking.{try_removed}
use Rattle.place_words.specs.declared.visits.Try.{Try}
use Rattle.evicting_traces.proofs.refill.are_tried.Given as goal

abbrev pub invariant-loop-tried : goal.invariant-loop-tried
invariant-loop-tried l =
    bytes_eq (map (λ (try : Try). try.element) (filter try_removed l.forced)) l.elements ≡ bytes_eq (map (λ (try : Try). try.element) (filter try_removed (drop l.tried-index l.forced))) l.left
