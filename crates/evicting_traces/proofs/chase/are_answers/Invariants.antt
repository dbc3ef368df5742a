use Rattle.std.proofs.Common.{◌≡◌, drop}
use Rattle.place_words.specs.Takings.{walk_probes}
use Rattle.evicting_traces.specs.Parts.{are_answers}
use Rattle.evicting_traces.specs.Reading.{turns_in}
use Rattle.evicting_traces.proofs.chase.are_answers.Given as goal

abbrev pub invariant-loop-look : goal.invariant-loop-look
invariant-loop-look l =
    are_answers l.shape (walk_probes l.looks l.tries) l.hashes (turns_in l.before) ≡ are_answers l.shape (walk_probes (drop l.look-index l.looks) l.tries) l.stored (turns_in l.left)
