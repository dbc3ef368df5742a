use Rattle.std.proofs.Common.{◌≡◌, drop}
use Rattle.evicting_traces.specs.Parts.{are_answers}
use Rattle.evicting_traces.specs.Reading.{turns_in}
use Rattle.evicting_traces.proofs.chase.are_tries.Given as goal

abbrev pub invariant-loop-tried : goal.invariant-loop-tried
invariant-loop-tried l =
    are_answers l.shape l.tries l.hashes (turns_in l.before) ≡ are_answers l.shape (drop l.tried-index l.tries) l.stored (turns_in l.left)
