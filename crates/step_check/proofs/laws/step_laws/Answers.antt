use Rattle.step_check.proofs.StepRuns.{run_made, made_run, words_decide}
use Rattle.step_check.proofs.laws.step_laws.Goals as goal

pub returns-clause-words : goal.returns-clause-words
returns-clause-words c = words_decide

pub returns-clause-whole : goal.returns-clause-whole
returns-clause-whole c script kept is = (made_run script kept is, run_made script kept is)
