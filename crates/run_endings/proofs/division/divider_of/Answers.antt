use Rattle.std.proofs.Common.{sym, ◌∙◌}
use Rattle.run_endings.proofs.Dividing.{behind_inside, found_last, found_line, none_found, none_reached, one_more, rest_inside}
use Rattle.run_endings.proofs.division.divider_of.Goals as goal

pub loop-line-init : goal.loop-line-init
loop-line-init c = none_reached c.args.input.now

pub overflow_sub-result : goal.overflow_sub-result
overflow_sub-result c = rest_inside c.args.input.now c.loop-line.rest.now c.loop-line.invariant

pub overflow_sub-result-then-divides : goal.overflow_sub-result-then-divides
overflow_sub-result-then-divides c = behind_inside c.args.input.now c.loop-line.rest.now c.loop-line.invariant c.in-Some.line.now c.in-Some.behind.now c.in-Some.ensures.lines c.in-Some.ensures.whole

pub returns-then-divides-clause-divided : goal.returns-then-divides-clause-divided
returns-then-divides-clause-divided c =
    (found_line c.args.input.now c.loop-line.rest.now c.loop-line.invariant c.in-Some.line.now c.in-Some.behind.now c.in-Some.ensures.lines c.in-Some.ensures.whole (sym c.divides.ensures ∙ c.if-divides.true)).divided

pub returns-then-divides-clause-script : goal.returns-then-divides-clause-script
returns-then-divides-clause-script c =
    (found_line c.args.input.now c.loop-line.rest.now c.loop-line.invariant c.in-Some.line.now c.in-Some.behind.now c.in-Some.ensures.lines c.in-Some.ensures.whole (sym c.divides.ensures ∙ c.if-divides.true)).script

pub returns-then-divides-clause-report : goal.returns-then-divides-clause-report
returns-then-divides-clause-report c =
    (found_line c.args.input.now c.loop-line.rest.now c.loop-line.invariant c.in-Some.line.now c.in-Some.behind.now c.in-Some.ensures.lines c.in-Some.ensures.whole (sym c.divides.ensures ∙ c.if-divides.true)).report

pub loop-line-smaller : goal.loop-line-smaller
loop-line-smaller c = c.in-Some.ensures.shorter

pub loop-line-preserved : goal.loop-line-preserved
loop-line-preserved c =
    one_more c.args.input.now c.loop-line.rest.now c.loop-line.invariant c.in-Some.line.now c.in-Some.behind.now c.in-Some.ensures.lines c.in-Some.ensures.whole (sym c.divides.ensures ∙ c.if-divides.false)

pub overflow_sub-result-then-divides-2 : goal.overflow_sub-result-then-divides-2
overflow_sub-result-then-divides-2 c = rest_inside c.args.input.now c.loop-line.rest.now c.loop-line.invariant

pub returns-then-divides-2-clause-divided : goal.returns-then-divides-2-clause-divided
returns-then-divides-2-clause-divided c = (found_last c.args.input.now c.loop-line.rest.now c.loop-line.invariant c.in_default.ensures.lines (sym c.divides-2.ensures ∙ c.if-divides-2.true)).divided

pub returns-then-divides-2-clause-script : goal.returns-then-divides-2-clause-script
returns-then-divides-2-clause-script c = (found_last c.args.input.now c.loop-line.rest.now c.loop-line.invariant c.in_default.ensures.lines (sym c.divides-2.ensures ∙ c.if-divides-2.true)).script

pub returns-then-divides-2-clause-report : goal.returns-then-divides-2-clause-report
returns-then-divides-2-clause-report c = (found_last c.args.input.now c.loop-line.rest.now c.loop-line.invariant c.in_default.ensures.lines (sym c.divides-2.ensures ∙ c.if-divides-2.true)).report

pub returns-else-divides-2-clause-divided : goal.returns-else-divides-2-clause-divided
returns-else-divides-2-clause-divided c = none_found c.args.input.now c.loop-line.rest.now c.loop-line.invariant c.in_default.ensures.lines (sym c.divides-2.ensures ∙ c.if-divides-2.false)
