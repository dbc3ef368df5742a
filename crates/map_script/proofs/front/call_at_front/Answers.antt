use Rattle.map_script.proofs.FrontLemmas.{call_begins}
use Rattle.map_script.proofs.front.call_at_front.Goals as goal

pub returns : goal.returns
returns c =
    λ version. call_begins version c.args.shape.now c.args.text.now c.in_ok-cpu.places.now c.in_ok-verb.rest.now c.in_ok-cpu.cpu c.in_ok-verb.verb c.in_ok-cpu.ensures c.in_ok-verb.ensures
