use Rattle.std.proofs.Common.{◌≡◌, ◌≤◌, length, drop}
use Rattle.local_replay.specs.Walks.{spares}
use Rattle.local_replay.proofs.walks.is_sparing.Given as goal

-- what is left decides
abbrev pub invariant-loop-index : goal.invariant-loop-index
invariant-loop-index l = record {
  left : spares (drop l.index l.rows) (drop l.index l.looks) ≡ spares l.rows l.looks;
  within : l.index ≤ length l.rows;
}
