use Rattle.std.proofs.Common.{◌≡◌}
use Rattle.map_batch.specs.Calls.{table_of}
use Rattle.map_batch.proofs.UpdatedEach.{UpdatedSoFar}
use Rattle.map_batch.proofs.writes.update_each.Given as goal

-- the pairs so far were updated
abbrev pub invariant-loop-i : goal.invariant-loop-i
invariant-loop-i g l = record {
  count : l.done ≡ l.i;
  so_far : UpdatedSoFar (table_of l.map) l.fn.pass l.pairs l.pass l.done;
}
