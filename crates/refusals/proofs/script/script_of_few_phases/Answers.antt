use Rattle.refusals.proofs.ScriptLemmas.{few_read}
use Rattle.refusals.proofs.script.script_of_few_phases.Goals as goal

pub returns : goal.returns
returns c = few_read c.read_script.result c.read_script.ensures.well_formed
