use Rattle.refusals.proofs.ScriptLemmas.{written_apart}
use Rattle.refusals.proofs.script.text_in_three_phases.Goals as goal

pub returns : goal.returns
returns c = written_apart (λ text. text.items) c.text.result c.args.script.now c.requires c.text.ensures.canonical
