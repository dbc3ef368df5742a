use Rattle.elem_walk.proofs.Stops.{none_handed, handed_on, handed_to}
use Rattle.elem_walk.proofs.walk.ElemWalk.hand_in.Goals as goal

pub returns-then-not-copy_in : goal.returns-then-not-copy_in
returns-then-not-copy_in g c = none_handed c.if-not-copy_in.true c.copy_in.ensures

pub returns-then-hand_from : goal.returns-then-hand_from
returns-then-hand_from g c = handed_to c.len-from.result c.hand_from.result c.if-not-copy_in.false c.if-hand_from.true c.len-from.ensures c.copy_in.ensures c.hand_from.ensures

pub returns-else-hand_from : goal.returns-else-hand_from
returns-else-hand_from g c = handed_on c.len-from.result c.hand_from.result c.if-not-copy_in.false c.if-hand_from.false c.len-from.ensures c.copy_in.ensures c.hand_from.ensures
