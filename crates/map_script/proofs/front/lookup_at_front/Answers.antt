use Rattle.map_script.proofs.FrontLemmas.{lookup_begins}
use Rattle.map_script.proofs.front.lookup_at_front.Goals as goal

pub returns : goal.returns
returns c =
    lookup_begins c.args.shape.now c.args.text.now c.args.places.now c.in_ok-key.key c.in_ok-key.rest.now c.requires c.in_ok-key.ensures
