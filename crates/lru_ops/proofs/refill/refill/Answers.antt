use Rattle.lru_ops.proofs.FillTaken.{can_take_global, can_fill_taken}
use Rattle.lru_ops.proofs.GlobalTurns.{some_lack, may_give_refill, filled_from}
use Rattle.lru_ops.proofs.refill.refill.Goals as goal

pub take-requires-after_bounds : goal.take-requires-after_bounds
take-requires-after_bounds g c κs within = can_take_global c.requires.can

pub fill-target-requires-clause-can : goal.fill-target-requires-clause-can
fill-target-requires-clause-can g c κs within = can_fill_taken c.requires.can c.in-Set.ensures

pub give-requires-after_bounds : goal.give-requires-after_bounds
give-requires-after_bounds g c κs within =
    may_give_refill c.requires.can c.in-Set.ensures c.fill-target.ensures c.empty.ensures c.empty-2.ensures c.empty-3.ensures c.empty-4.ensures (some_lack c.fill-target.result) c.global_turn-part.result c.global_turn-part.ensures.told

pub returns : goal.returns
returns g c =
    filled_from c.requires.can c.in-Set.ensures c.fill-target.ensures c.empty.ensures c.empty-2.ensures c.empty-3.ensures c.empty-4.ensures (some_lack c.fill-target.result) c.global_turn-part.result c.global_turn-part.ensures.told
    c.give.new.pass c.tell_refill-refilled.result c.tell_refill-refilled.ensures c.give.ensures
