use Rattle.std.proofs.Common.{◌∙◌, sym, ap}
use Rattle.finals_check.specs.Marking.{ascend_to}
use Rattle.finals_check.proofs.Held.{placed_tells, uncounted, unordered}
use Rattle.finals_check.proofs.whole.finals_whole.Goals as goal

pub returns-then-not-are_counted : goal.returns-then-not-are_counted
returns-then-not-are_counted c = uncounted c.args.shape.now c.args.finals.now (sym c.are_counted.ensures ∙ c.if-not-are_counted.true)

pub returns-then-not-ascend_to : goal.returns-then-not-ascend_to
returns-then-not-ascend_to c =
    unordered c.args.shape.now c.args.finals.now (sym (ap (ascend_to c.args.shape.now.elements 0) c.as_slice.ensures) ∙ (sym c.ascend_to.ensures ∙ c.if-not-ascend_to.true))

pub returns : goal.returns
returns c =
    placed_tells c.args.shape.now c.args.finals.now (sym c.are_counted.ensures ∙ c.if-not-are_counted.false)
    (sym (ap (ascend_to c.args.shape.now.elements 0) c.as_slice.ensures) ∙ (sym c.ascend_to.ensures ∙ c.if-not-ascend_to.false))
    c.in_ok-placed.placed c.in_ok-placed.ensures
