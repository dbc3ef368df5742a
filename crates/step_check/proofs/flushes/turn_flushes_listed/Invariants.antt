use Rattle.std.specs.Prelude.{◌≢◌, All, take}
use Rattle.place_words.specs.declared.owner.Owner.TheVariants as owners
use Rattle.place_words.specs.declared.visits.Flush.{Flush}
use Rattle.step_check.specs.Answers.{view_of}
use Rattle.step_check.specs.WordsView.{words_in}
use Rattle.step_check.proofs.flushes.turn_flushes_listed.Given as goal

abbrev pub invariant-loop-flush : goal.invariant-loop-flush
invariant-loop-flush l = All (λ (flush : Flush). (words_in (view_of l.kept)).owner flush.element ≢ owners.Free) (take l.flush-index l.flush-items)
