use Rattle.std.proofs.Common.{◌≡◌, ◌++◌, [], map, take}
use Rattle.place_words.specs.declared.visits.Try.{Try}
use Rattle.place_words.specs.Takings.{walk_probes}
use Rattle.local_replay.proofs.notes.probed_in.Given as goal

abbrev pub invariant-loop-attempt : goal.invariant-loop-attempt
invariant-loop-attempt l =
    l.elements.items ≡ map (λ (probe : Try). probe.element) (walk_probes l.looks []) ++ map (λ (probe : Try). probe.element) (take l.attempt-index l.tries)
