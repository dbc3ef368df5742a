use Rattle.finals_check.proofs.Telling.{all_tell, form_tells}
use Rattle.finals_check.proofs.claims.telling_laws.Goals as goal

pub returns-clause-each : goal.returns-clause-each
returns-clause-each c = form_tells

pub returns-clause-all : goal.returns-clause-all
returns-clause-all c = all_tell
