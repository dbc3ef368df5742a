use Rattle.std.specs.Prelude.{◌≡◌, ◌<◌, ◌||◌, ℕ, false, drop, length, slice_index_or}
use Rattle.place_words.specs.StrandSteps.{row_read}
use Rattle.call_check.specs.Steps.{is_late_from}
use Rattle.call_check.proofs.order.mark_late.Given as goal

abbrev pub invariant-loop-place : goal.invariant-loop-place
invariant-loop-place l = (length l.late.items ≡ length l.fn.late.items)
    × ((number : ℕ) → number < length l.fn.late.items
    → (slice_index_or l.late.items number false || is_late_from l.histories.all number l.greatest (drop l.place (row_read l.steps)))
    ≡ (slice_index_or l.fn.late.items number false || is_late_from l.histories.all number 0 (row_read l.steps)))
