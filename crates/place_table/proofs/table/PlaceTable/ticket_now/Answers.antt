use Rattle.std.proofs.Common.{rules, ap}
use Rattle.place_table.proofs.TicketsTaken.{is_pass_seen, saw_ticket}
use Rattle.place_table.proofs.table.PlaceTable.ticket_now.Goals as goal

pub invariant_of-pass : goal.invariant_of-pass
invariant_of-pass c = is_pass_seen c.pass.inside.seat.me.0 c.pass.inside.seat.me.1 _ _ _ c.read_ticket.new.seat.me c.pass.invariant c.read_ticket.ensures.seen

pub returns : goal.returns
returns c =
    saw_ticket c.args.self.now c.args.pass.now _ c.pass.inside.seat.me c.read_ticket.new.seat.me _ c.requires.table c.requires.all_cpus (ap (λ z. z.view) c.pass.view_is) c.pass.invariant.unread c.read_ticket.ensures.seen
    (search rules)
