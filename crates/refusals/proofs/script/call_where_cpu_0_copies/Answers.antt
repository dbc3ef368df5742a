use Rattle.refusals.proofs.ScriptLemmas.{copier_there}
use Rattle.refusals.proofs.script.call_where_cpu_0_copies.Goals as goal

pub returns : goal.returns
returns c line cause is = copier_there c.read_script.result c.read_script.ensures.exact line cause is
