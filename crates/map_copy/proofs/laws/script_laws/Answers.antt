use Rattle.map_copy.proofs.ScriptLemmas.{puts_pages, answers_puts, has_target_script, has_extended}
use Rattle.map_copy.proofs.laws.script_laws.Goals as goal

pub returns-clause-puts : goal.returns-clause-puts
returns-clause-puts c = puts_pages

pub returns-clause-replies : goal.returns-clause-replies
returns-clause-replies c = answers_puts

pub returns-clause-target : goal.returns-clause-target
returns-clause-target c = has_target_script

pub returns-clause-extended : goal.returns-clause-extended
returns-clause-extended c = has_extended
