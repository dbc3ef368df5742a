use Rattle.std.proofs.Common.{◌≡◌, drop, length}
use Rattle.record_order.specs.TicketTables.{number_by, raised_for_all}
use Rattle.record_order.proofs.leasts.raise_for_all.Given as goal

-- what is left to raise
abbrev pub invariant-loop-strand : goal.invariant-loop-strand
invariant-loop-strand l = record {
  rest : raised_for_all (number_by l.shape l.firsts) l.tickets (drop l.strand-index l.strands) l.leasts ≡ raised_for_all (number_by l.shape l.firsts) l.tickets l.strands l.fn.leasts;
  long : length l.leasts ≡ length l.tickets;
}
