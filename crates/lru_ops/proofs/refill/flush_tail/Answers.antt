use Rattle.std.proofs.Common.{◌∙◌, ap}
use Rattle.lru_lists.specs.Sets.{moved_in}
use Rattle.lru_ops.proofs.Flushes.{can_clear_tail, can_go_global, absent_there, below_there, flushed_tail}
use Rattle.lru_ops.proofs.refill.flush_tail.Goals as goal

pub clear-bit-requires : goal.clear-bit-requires
clear-bit-requires c = can_clear_tail c.requires.can c.requires.tail

pub rehome-requires : goal.rehome-requires
rehome-requires c = can_go_global c.requires.can c.requires.tail c.clear-bit.ensures

pub move_in-requires-clause-below : goal.move_in-requires-clause-below
move_in-requires-clause-below c = below_there c.requires.can c.requires.tail

pub move_in-requires-clause-absent : goal.move_in-requires-clause-absent
move_in-requires-clause-absent c = absent_there c.requires.can c.requires.tail

pub returns : goal.returns
returns c =
    flushed_tail c.requires.can c.requires.tail c.clear-bit.ensures c.rehome.ensures c.take_pending.ensures.exact c.take_pending.ensures.whole
    (c.move_in.ensures.exact ∙ ap (λ to. moved_in c.args.row to c.args.set.now) c.list_of.ensures) c.move_in.ensures.whole
