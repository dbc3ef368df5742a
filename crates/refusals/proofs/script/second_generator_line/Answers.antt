use Rattle.refusals.proofs.ScriptLemmas.{none_read}
use Rattle.refusals.proofs.script.second_generator_line.Goals as goal

pub returns : goal.returns
returns c = none_read c.read_script.result c.read_script.ensures.exact
