use Rattle.std.proofs.Common.{◌∙◌, arith}
use Rattle.trace_check.proofs.Answering.{nothing_read, this_read}
use Rattle.trace_check.proofs.Entries.{delete_unread, delete_refused, delete_done, not_refused}
use Rattle.trace_check.proofs.batch_writes.read_deletes.Goals as goal

pub returns-in_err-refusal : goal.returns-in_err-refusal
returns-in_err-refusal c = λ spares.
    rw c.from_residual.ensures
    (nothing_read c.args.reply.now
    (c.loop-key.invariant.1 spares
    ∙ delete_unread c.args.shape.now c.args.cpu spares c.args.keys.now c.loop-key.key-index c.loop-key.done c.key-item.result c.as_slice.result.now c.loop-key.rest c.loop-key-test.true
    c.key-item.is c.as_slice.ensures (c.in_err-refusal.ensures spares)))

pub returns-in-Some : goal.returns-in-Some
returns-in-Some c = λ spares.
    this_read c.args.reply.now c.is_count.result
    (c.loop-key.invariant.1 spares
    ∙ delete_refused c.args.shape.now c.args.cpu spares c.args.keys.now c.loop-key.key-index c.loop-key.done c.key-item.result c.as_slice.result.now c.loop-key.rest c.in_ok-refusal.behind
    c.in_ok-refusal.refusal c.in-Some.errno c.loop-key-test.true c.key-item.is c.as_slice.ensures (c.in_ok-refusal.ensures spares) c.in-Some.is)
    c.is_count.ensures c.rest_if.ensures

pub loop-key-preserved : goal.loop-key-preserved
loop-key-preserved c = (
  omega (arith, c.loop-key.invariant.0),
  λ spares. c.loop-key.invariant.1 spares
      ∙ delete_done c.args.shape.now c.args.cpu spares c.args.keys.now c.loop-key.key-index c.loop-key.done c.key-item.result c.as_slice.result.now c.loop-key.rest c.in_ok-refusal.behind
      c.in_ok-refusal.refusal c.loop-key-test.true c.key-item.is c.as_slice.ensures (c.in_ok-refusal.ensures spares) (not_refused c.in_ok-refusal.refusal c.in_default.not-Some),
)
