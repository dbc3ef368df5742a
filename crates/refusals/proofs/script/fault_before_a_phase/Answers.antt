use Rattle.refusals.proofs.ScriptLemmas.{number_there}
use Rattle.refusals.proofs.script.fault_before_a_phase.Goals as goal

pub returns : goal.returns
returns c line cause is = number_there c.read_script.result c.read_script.ensures.exact line cause is
