use Rattle.std.proofs.Common.{◌≡◌, drop}
use Rattle.local_replay.specs.Walks.{visits_are}
use Rattle.local_replay.proofs.allowed.visits_all.Given as goal

-- what is left decides
abbrev pub invariant-loop-index : goal.invariant-loop-index
invariant-loop-index l = visits_are (drop l.index l.rows) (drop l.index l.visits) ≡ visits_are l.rows l.visits
