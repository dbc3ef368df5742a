use Rattle.place_core.proofs.HeldLemmas.{either_left}
use Rattle.place_core.proofs.rehome.may_clear.Goals as goal

pub returns : goal.returns
returns c = either_left _ _ _ c.if-is_hand.ensures c.is_held_home.ensures
