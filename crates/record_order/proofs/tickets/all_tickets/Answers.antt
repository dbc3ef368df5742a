use Rattle.std.proofs.Common.{arith}
use Rattle.record_order.proofs.Loops.{tickets_more}
use Rattle.record_order.proofs.tickets.all_tickets.Goals as goal

pub loop-history-preserved : goal.loop-history-preserved
loop-history-preserved c =
    tickets_more c.args.histories.now c.loop-history.history-index c.history-item.result c.loop-history.tickets.items c.push_tickets.new.tickets.items _ (omega arith) c.history-item.is
    c.in_ok-push_tickets.ensures c.loop-history.invariant
