use Rattle.std.proofs.Common.{◌≡◌, ◌++◌, drop}
use Rattle.place_words.specs.Tickets.{tickets_of}
use Rattle.record_order.proofs.tickets.push_tickets.Given as goal

-- those so far and those that are left are those of all
abbrev pub invariant-loop-index : goal.invariant-loop-index
invariant-loop-index l = l.tickets.items ++ tickets_of (drop l.index l.entries) ≡ l.fn.tickets.items ++ tickets_of l.entries
