use Rattle.step_check.proofs.RunsTo.{judged_told}
use Rattle.step_check.proofs.flaw.step_flaw.Goals as goal

pub returns-clause-judged : goal.returns-clause-judged
returns-clause-judged c =
    judged_told c.args.shape.now _ _ _ c.in_ok-refused.refused c.in_ok-kept.ensures.shape c.in_ok-turns.ensures.in_order c.in_ok-refused.ensures
