use Rattle.std.specs.Prelude.{take}
use Rattle.record_parts.specs.PhaseTables.{IsLeastWrong}
use Rattle.record_flaws.specs.PhaseFlaws.{IsRightHistory}
use Rattle.record_parts.proofs.phases.least_in_all.Given as goal

abbrev pub invariant-loop-history : goal.invariant-loop-history
invariant-loop-history l = IsLeastWrong (IsRightHistory l.cuts l.starts) (take l.history-index l.histories) l.first l.least
