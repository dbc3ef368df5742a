use Rattle.map_script.proofs.FrontLemmas.{keyed_begins}
use Rattle.map_script.proofs.front.keyed_at_front.Goals as goal

pub returns : goal.returns
returns c =
    keyed_begins c.args.shape.now c.args.text.now c.args.name.now c.args.places.now c.in_ok-key.key c.in_ok-key.rest.now c.in_ok-verb.verb c.requires c.in_ok-key.ensures c.in_ok-verb.ensures
