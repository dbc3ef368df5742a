use Rattle.map_script.proofs.FrontLemmas.{next_begins}
use Rattle.map_script.proofs.front.next_at_front.Goals as goal

pub returns : goal.returns
returns c = λ shape. next_begins shape c.args.text.now c.in_ok-rest.rest.now c.in_ok-rest.ensures
