use Rattle.std.proofs.Common.{◌≡◌, ◌++◌, drop}
use Rattle.place_words.specs.Tickets.{tickets_of}
use Rattle.record_order.specs.TicketTables.{least_after}
use Rattle.record_order.proofs.leasts.push_leasts.Given as goal

-- those so far and those that are left are those of all
abbrev pub invariant-loop-index : goal.invariant-loop-index
invariant-loop-index l = l.leasts.items ++ least_after l.least (tickets_of (drop l.index l.entries)) ≡ l.fn.leasts.items ++ least_after 0 (tickets_of l.entries)
