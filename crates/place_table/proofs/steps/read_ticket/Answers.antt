use Rattle.std.proofs.Common.{arith}
use Rattle.place_table.proofs.TicketSteps.{sees_ticket}
use Rattle.place_table.proofs.steps.read_ticket.Goals as goal

pub load-requires : goal.load-requires
load-requires c = (c.requires.table, omega (arith, c.requires.words), sees_ticket _ _ _ _ _ c.requires.words.1 c.requires.unread)
