use Rattle.std.proofs.Common.{◌<◌, ℕ, List, length, ◌∙◌, arith}
use Rattle.place_words.specs.StrandSteps.{row_read}
use Rattle.place_words.specs.declared.history.StrandStep.{StrandStep}
use Rattle.call_check.proofs.Late.{late_more}
use Rattle.call_check.proofs.order.mark_late.Goals as goal

pub loop-place-preserved : goal.loop-place-preserved
loop-place-preserved c =
    let steps : List StrandStep = row_read c.args.steps in
    let place : ℕ = c.loop-place.place in
    let step : StrandStep = c.at.result in
    let less : place < length steps = omega (arith, c.loop-place-test.true, c.len-place-end.ensures) in (
      c.mark_below.ensures.size ∙ c.loop-place.invariant.0,
      λ number within.
          late_more c.args.histories.now.all number c.loop-place.greatest steps place step less (c.at.ensures.whatever step) c.call_of-number.result c.call_of-number.ensures
          c.greater-greatest.result c.greater-greatest.ensures _ _ (c.mark_below.ensures.late number (omega (arith, within, c.loop-place.invariant.0)))
          ∙ c.loop-place.invariant.1 number within,
    )
