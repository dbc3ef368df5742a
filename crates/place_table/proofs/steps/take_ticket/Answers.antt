use Rattle.std.proofs.Common.{rules, arith}
use Rattle.place_table.proofs.TicketSteps.{reads_ticket, draws_ticket, is_drawing, takes_none, takes_some}
use Rattle.place_table.proofs.steps.take_ticket.Goals as goal

pub load-requires : goal.load-requires
load-requires c =
    let turn = c.requires.turn in
    (c.requires.table, omega (arith, c.requires.words), reads_ticket _ _ _ _ turn.0 turn.1 _ c.requires.words.1 turn.2 c.requires.unread)

pub fetch_add-requires : goal.fetch_add-requires
fetch_add-requires c =
    let reads = c.load.ensures in
    (search rules, omega (arith, c.requires.words), draws_ticket _ _ _ _ _ c.requires.words.1 (is_drawing _ _ _ (omega (arith, c.if-load.true)) reads.2))

pub returns-then-load-clause-took : goal.returns-then-load-clause-took
returns-then-load-clause-took c = takes_some _ c.load.result _ _ _ (omega (arith, c.if-load.true)) c.load.ensures.2 c.fetch_add.ensures.2

pub returns-else-load-clause-took : goal.returns-else-load-clause-took
returns-else-load-clause-took c = takes_none _ c.load.result _ (omega (arith, c.if-load.false)) c.load.ensures.2
