use Rattle.trace_check.specs.Strand.{spare_before}
use Rattle.trace_check.proofs.Entries.{update_entry}
use Rattle.trace_check.proofs.batch_writes.read_updated.Goals as goal

pub returns : goal.returns
returns c =
    update_entry c.args.shape.now c.args.cpu (spare_before c.args.spares.now) c.args.key.now c.args.value.now c.args.turns.now c.in_ok-put.behind c.spare_before-spare.result
    c.len.result c.in_ok-put.put c.put_refusal.result c.spare_before-spare.ensures c.len.ensures c.in_ok-put.ensures c.put_refusal.ensures
