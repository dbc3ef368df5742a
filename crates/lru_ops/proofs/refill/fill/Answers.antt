use Rattle.std.proofs.Common.{◌-◌, refl}
use Rattle.lru_ops.proofs.FilledOn.{fill_rotated}
use Rattle.lru_ops.proofs.FilledUp.{few_moved, filled_up, none_pending_moved}
use Rattle.lru_ops.proofs.Lacking.{lacked, may_shrink_into}
use Rattle.lru_ops.proofs.refill.fill.Goals as goal

pub rotate_under-requires-clause-can : goal.rotate_under-requires-clause-can
rotate_under-requires-clause-can g c κs within = c.flush.ensures.leaves.walk

pub move_free-count-requires : goal.move_free-count-requires
move_free-count-requires g c = record { can = fill_rotated c.flush.ensures.leaves c.rotate_under.ensures }

pub overflow_sub-target : goal.overflow_sub-target
overflow_sub-target g c = few_moved c.move_free-count.ensures

pub shrink_lacking-requires : goal.shrink_lacking-requires
shrink_lacking-requires g c = (c.type_bounds.sync-G, may_shrink_into c.move_free-count.ensures.leaves (none_pending_moved c.flush.ensures c.move_free-count.ensures))

pub returns : goal.returns
returns g c =
    filled_up c.requires.can c.requires.none_free c.requires.fresh c.flush.ensures c.rotate_under.ensures c.move_free-count.ensures refl
    (lacked (128 - c.move_free-count.result) (may_shrink_into c.move_free-count.ensures.leaves (none_pending_moved c.flush.ensures c.move_free-count.ensures)) c.shrink_lacking.ensures)
