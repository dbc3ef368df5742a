use Rattle.std.proofs.Common.{length, refl, arith}
use Rattle.call_check.proofs.GoneTurns.{moved_on}
use Rattle.call_check.proofs.moved.catch_up.Goals as goal

pub returns-then-order-moved-clause-now : goal.returns-then-order-moved-clause-now
returns-then-order-moved-clause-now c =
    moved_on (length c.args.table.now.items) c.args.entries.now c.args.order.now c.requires.rise c.args.at c.args.moved c.args.table.now.items c.move_all.new.table.items _ (record { ticket = 0; place = 0 })
    c.requires.before (omega arith) c.if-order-moved.true refl c.move_all.ensures.size c.move_all.ensures.moved
