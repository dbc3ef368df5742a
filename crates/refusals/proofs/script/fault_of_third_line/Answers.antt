use Rattle.refusals.proofs.ScriptLemmas.{fault_there}
use Rattle.refusals.proofs.script.fault_of_third_line.Goals as goal

pub returns : goal.returns
returns c line cause is = fault_there c.read_script.result c.read_script.ensures.exact line cause is
