use Rattle.std.proofs.Common.{◌≡◌, ◌≤◌, ◌+◌, drop, length}
use Rattle.place_words.specs.Tickets.{all_entries}
use Rattle.record_order.specs.TicketTables.{firsts_from}
use Rattle.record_order.proofs.tickets.write_firsts.Given as goal

-- what is left to write, and to count
abbrev pub invariant-loop-history : goal.invariant-loop-history
invariant-loop-history l = record {
  written : firsts_from l.shape l.count (drop l.history-index l.histories) l.firsts ≡ firsts_from l.shape 0 l.histories l.fn.firsts;
  counted : l.count + length (all_entries (drop l.history-index l.histories)) ≤ l.all;
}
