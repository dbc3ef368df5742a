use Rattle.std.proofs.Common.{ℕ, set, ap, arith}
use Rattle.place_words.specs.StrandSteps.{row_read}
use Rattle.record_order.specs.TicketTables.{number_by}
use Rattle.record_order.proofs.Raised.{raised_on}
use Rattle.record_order.proofs.leasts.raise.Goals as goal

pub loop-index-preserved : goal.loop-index-preserved
loop-index-preserved c =
    raised_on (number_by c.args.shape.now c.args.firsts.now) c.args.tickets.now (row_read c.args.steps) c.loop-index.index c.at.result c.loop-index.leasts _ c.loop-index.least _ c.number_by-number.result
    (omega (arith, c.len-index-end.ensures, c.loop-index-test.true)) (c.at.ensures.whatever c.at.result) c.number_by-number.ensures.exact (search) (ap (λ (m : ℕ). set c.loop-index.leasts c.number_by-number.result m) c.max.ensures) _ c.loop-index.invariant
