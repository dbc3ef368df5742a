use Rattle.std.proofs.Common.{◌≡◌, drop}
use Rattle.record_order.specs.TicketTables.{place_of}
use Rattle.record_order.proofs.tickets.place_of.Given as goal

-- what is left to find
abbrev pub invariant-loop-history : goal.invariant-loop-history
invariant-loop-history l = place_of (drop l.history-index l.histories) l.left ≡ place_of l.histories l.fn.number
