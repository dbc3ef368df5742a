use Rattle.std.proofs.Common.{◌∙◌, arith}
use Rattle.trace_check.specs.Strand.{spare_before}
use Rattle.trace_check.proofs.Answering.{this_read}
use Rattle.trace_check.proofs.Entries.{update_refused, update_done, not_refused}
use Rattle.trace_check.proofs.batch_writes.read_updates.Goals as goal

pub returns-in-Some : goal.returns-in-Some
returns-in-Some c =
    this_read c.args.reply.now c.is_count.result
    (c.loop-done.invariant
    ∙ update_refused c.args.shape.now c.args.cpu (spare_before c.args.spares.now) c.args.pairs.now c.loop-done.done c.key.result.now c.value.result.now c.loop-done.rest c.in_ok-refusal.behind
    c.in_ok-refusal.refusal c.in-Some.errno (omega (arith, c.loop-done-test.true, c.len-done-end.ensures)) c.key.ensures c.value.ensures c.in_ok-refusal.ensures c.in-Some.is)
    c.is_count.ensures c.rest_if.ensures

pub loop-done-preserved : goal.loop-done-preserved
loop-done-preserved c =
    c.loop-done.invariant
    ∙ update_done c.args.shape.now c.args.cpu (spare_before c.args.spares.now) c.args.pairs.now c.loop-done.done c.key.result.now c.value.result.now c.loop-done.rest c.in_ok-refusal.behind
    c.in_ok-refusal.refusal (omega (arith, c.loop-done-test.true, c.len-done-end.ensures)) c.key.ensures c.value.ensures c.in_ok-refusal.ensures (not_refused c.in_ok-refusal.refusal c.in_default.not-Some)
