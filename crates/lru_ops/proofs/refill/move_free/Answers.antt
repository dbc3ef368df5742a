use Rattle.lru_ops.proofs.MovedFree.{moved_nothing, moved_one_more, moved_enough, moved_every}
use Rattle.lru_ops.proofs.refill.move_free.Goals as goal

pub loop-count-init : goal.loop-count-init
loop-count-init c = moved_nothing c.args.moved.now c.requires.can

pub move_one-requires : goal.move_one-requires
move_one-requires c = record { can = c.loop-count.invariant.leaves }

pub returns-in_default : goal.returns-in_default
returns-in_default c = moved_every c.loop-count.invariant c.in_default.ensures

pub loop-count-preserved : goal.loop-count-preserved
loop-count-preserved c = moved_one_more c.loop-count.invariant c.loop-count-test.true c.in-Some.ensures c.note.ensures

pub returns : goal.returns
returns c = moved_enough c.loop-count.invariant c.loop-count-test.false
