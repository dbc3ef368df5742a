use Rattle.refusals.proofs.ScriptLemmas.{any_read}
use Rattle.refusals.proofs.script.update_under_any.Goals as goal

pub returns : goal.returns
returns c = any_read c.read_script.result c.read_script.ensures.exact
