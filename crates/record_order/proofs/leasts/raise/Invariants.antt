use Rattle.std.proofs.Common.{◌≡◌, drop}
use Rattle.place_words.specs.StrandSteps.{row_read}
use Rattle.record_order.specs.TicketTables.{number_by, raised}
use Rattle.record_order.proofs.leasts.raise.Given as goal

-- what is left to raise
abbrev pub invariant-loop-index : goal.invariant-loop-index
invariant-loop-index l = raised (number_by l.shape l.firsts) l.tickets l.least (drop l.index (row_read l.steps)) l.leasts ≡ raised (number_by l.shape l.firsts) l.tickets 0 (row_read l.steps) l.fn.leasts
