use Rattle.std.proofs.Common.{Some, ap, sym, ◌∙◌}
use Rattle.evicting_traces.proofs.Ways.{at_none}
use Rattle.evicting_traces.proofs.Grouping.{nowhere, answered, unanswered}
use Rattle.evicting_traces.proofs.chase.answered_turn.Goals as goal

pub returns-in_err-found : goal.returns-in_err-found
returns-in_err-found c = at_none _ _ c.from_residual.result c.from_residual.ensures (nowhere c.args.shape.now c.args.seens.now c.in_err-found.ensures)

pub returns-then-answers : goal.returns-then-answers
returns-then-answers c = answered c.args.shape.now c.args.seens.now (ap Some c.found.view_is ∙ c.in_ok-found.ensures) (sym c.answers.ensures ∙ c.if-answers.true)

pub returns-else-answers : goal.returns-else-answers
returns-else-answers c = unanswered c.args.shape.now c.args.seens.now (ap Some c.found.view_is ∙ c.in_ok-found.ensures) (sym c.answers.ensures ∙ c.if-answers.false)
