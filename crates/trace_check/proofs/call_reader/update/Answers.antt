use Rattle.trace_check.specs.Strand.{spare_before}
use Rattle.trace_check.proofs.Answering.{this_read}
use Rattle.trace_check.proofs.CallsRead.{update_read}
use Rattle.trace_check.proofs.call_reader.update.Goals as goal

pub returns : goal.returns
returns c =
    this_read c.args.reply.now c.is_put.result
    (update_read c.args.shape.now c.args.cpu (spare_before c.args.spares.now) c.args.asked.now.side c.args.asked.now.flags c.args.asked.now.key.now c.args.asked.now.value.now
    c.args.turns.now c.in_ok-put.rest c.spare_before-spare.result c.len.result c.in_ok-put.put c.if-asked-gt2.false c.spare_before-spare.ensures c.len.ensures c.in_ok-put.ensures)
    c.is_put.ensures c.rest_if-2.ensures
