use Rattle.std.proofs.Common.{◌≡◌, ◌++◌, drop}
use Rattle.record_order.specs.TicketTables.{leasts_on_locks}
use Rattle.record_order.proofs.leasts.least_on_locks.Given as goal

-- those so far and those that are left are those of all
abbrev pub invariant-loop-history : goal.invariant-loop-history
invariant-loop-history l = l.leasts.items ++ leasts_on_locks (drop l.history-index l.histories) ≡ leasts_on_locks l.histories
