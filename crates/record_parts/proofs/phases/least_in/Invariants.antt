use Rattle.std.specs.Prelude.{take}
use Rattle.record_parts.specs.PhaseTables.{IsLeastWrong}
use Rattle.record_flaws.specs.PhaseFlaws.{IsRightEntry}
use Rattle.record_parts.proofs.phases.least_in.Given as goal

abbrev pub invariant-loop-index : goal.invariant-loop-index
invariant-loop-index l = IsLeastWrong (IsRightEntry l.cuts l.starts) (take l.index l.entries) l.first l.least
