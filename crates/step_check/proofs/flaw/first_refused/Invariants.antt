use Rattle.step_check.specs.Answers.{view_of}
use Rattle.step_check.specs.Begun.{turns_of}
use Rattle.step_check.proofs.RunsTo.{HasRunTo}
use Rattle.step_check.proofs.flaw.first_refused.Given as goal

-- all turns so far have run
abbrev pub invariant-loop-ticket : goal.invariant-loop-ticket
invariant-loop-ticket l = HasRunTo (turns_of l.histories l.turns) l.ticket (view_of l.fn.kept) (view_of l.kept) l.begun
