use Rattle.std.proofs.Common.{◌≡◌, ◌≤◌, length, drop}
use Rattle.local_replay.specs.Walks.{spares_none}
use Rattle.local_replay.proofs.walks.is_unsparing.Given as goal

-- what is left decides
abbrev pub invariant-loop-index : goal.invariant-loop-index
invariant-loop-index l = record {
  left : spares_none (drop l.index l.rows) (drop l.index l.tries) ≡ spares_none l.rows l.tries;
  within : l.index ≤ length l.rows;
}
