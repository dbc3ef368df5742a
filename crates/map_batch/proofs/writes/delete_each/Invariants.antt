use Rattle.std.proofs.Common.{◌≡◌}
use Rattle.map_batch.specs.Calls.{table_of}
use Rattle.map_batch.proofs.DeletedEach.{DeletedSoFar}
use Rattle.map_batch.proofs.writes.delete_each.Given as goal

-- the keys so far were deleted
abbrev pub invariant-loop-key : goal.invariant-loop-key
invariant-loop-key g l = record {
  count : l.done ≡ l.key-index;
  so_far : DeletedSoFar (table_of l.map) l.fn.pass l.keys l.pass l.done;
}
