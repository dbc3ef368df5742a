use Rattle.std.proofs.Common.{◌≡◌, ◌++◌, drop}
use Rattle.place_words.specs.Tickets.{tickets_of, all_entries}
use Rattle.record_order.proofs.tickets.all_tickets.Given as goal

-- those so far and those that are left are those of all
abbrev pub invariant-loop-history : goal.invariant-loop-history
invariant-loop-history l = l.tickets.items ++ tickets_of (all_entries (drop l.history-index l.histories)) ≡ tickets_of (all_entries l.histories)
