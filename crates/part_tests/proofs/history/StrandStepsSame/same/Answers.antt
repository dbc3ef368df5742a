use Rattle.std.proofs.Common.{sym, arith, ◌∙◌}
use Rattle.std.proofs.lemmas.List.{take_more_same}
use Rattle.part_tests.proofs.history.StrandStepsSame.same.Goals as goal

pub loop-place-preserved : goal.loop-place-preserved
loop-place-preserved c =
    let step = c.at.result in
    take_more_same c.args.self.now c.args.other.now c.loop-place.place step (omega (arith, c.len-place-end.ensures, c.loop-place-test.true))
    (omega (arith, c.len.ensures, c.len-2.ensures, c.if-len.false, c.len-place-end.ensures, c.loop-place-test.true)) c.loop-place.invariant
    (c.at.ensures.whatever step ∙ c.if-not-same.ensures ∙ sym (c.at-in-loop-place.ensures.whatever step))
