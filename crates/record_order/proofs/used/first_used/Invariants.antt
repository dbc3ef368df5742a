use Rattle.std.proofs.Common.{◌≡◌, drop}
use Rattle.record_order.specs.TicketTables.{first_wrong}
use Rattle.record_order.proofs.used.first_used.Given as goal

-- what is left to try
abbrev pub invariant-loop-number : goal.invariant-loop-number
invariant-loop-number l = first_wrong l.number l.used (drop l.number l.tickets) l.leasts ≡ first_wrong 0 l.fn.used l.tickets l.leasts
