use Rattle.std.specs.Prelude.{◌≡◌, ◌≤◌, ◌<◌, ℕ, true, slice_index_or}
use Rattle.place_words.specs.StrandSteps.{row_read}
use Rattle.place_words.specs.declared.history.StrandStep.{StrandStep}
use Rattle.call_check.specs.RightCalls.{is_of_call}
use Rattle.call_check.proofs.steps.run_end.Given as goal

abbrev pub invariant-loop-place : goal.invariant-loop-place
invariant-loop-place l = (k : ℕ) (d : StrandStep) → l.from ≤ k → k < l.place → is_of_call l.histories.all l.number (slice_index_or (row_read l.steps) k d) ≡ true
