use Rattle.std.proofs.Common.{◌∙◌, sym, ap}
use Rattle.row_list.specs.RowWords.{tail_row}
use Rattle.lru_ops.proofs.Flushes.{flushed_nothing, flushed_one_more, flushed_all, fewer_pending}
use Rattle.lru_ops.proofs.refill.flush.Goals as goal

pub loop-row-init : goal.loop-row-init
loop-row-init c = flushed_nothing c.args.flushed.now c.requires.can

pub flush_tail-flush-requires-clause-can : goal.flush_tail-flush-requires-clause-can
flush_tail-flush-requires-clause-can c = c.loop-row.invariant.leaves

pub flush_tail-flush-requires-clause-tail : goal.flush_tail-flush-requires-clause-tail
flush_tail-flush-requires-clause-tail c = sym c.in-Some.is ∙ (c.tail.ensures.exact ∙ ap tail_row c.pending.ensures.exact)

pub loop-row-preserved : goal.loop-row-preserved
loop-row-preserved c =
    flushed_one_more c.loop-row.invariant (sym c.in-Some.is ∙ (c.tail.ensures.exact ∙ ap tail_row c.pending.ensures.exact)) c.flush_tail-flush.ensures c.note.ensures

pub loop-row-smaller : goal.loop-row-smaller
loop-row-smaller c = fewer_pending c.loop-row.invariant.leaves (sym c.in-Some.is ∙ (c.tail.ensures.exact ∙ ap tail_row c.pending.ensures.exact)) c.flush_tail-flush.ensures

pub returns : goal.returns
returns c = flushed_all c.loop-row.invariant (sym c.in_default.is ∙ (c.tail.ensures.exact ∙ ap tail_row c.pending.ensures.exact))
