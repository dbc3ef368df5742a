-- No part of a record is wrong exactly where what the definition of records says of that part holds.
use Rattle.std.specs.Prelude.{ℕ, suc, ◌<◌, length}
use Rattle.map_script.specs.declared.script.Script.{Script}
use Rattle.map_script.specs.WellFormed.{HasPhases, IsWellFormed}
use Rattle.map_report.specs.declared.record.RunRecord.{RunRecord}
use Rattle.map_report.specs.Record.{IsRecord}
use Rattle.record_shape.specs.WellShaped.{StartsFit, StrandsFit, WellShaped}
use Rattle.record_flaws.specs.PhaseFlaws.{ArePhasesRight, IsRightPhase}
use Rattle.record_flaws.specs.StrandFlaws.{AreStrandsRight, IsRightPlace}

-- each phase is right exactly where the phases are
abbrev pub PhasesAreJudged : Type 0
PhasesAreJudged = (script : Script) (kept : RunRecord) → HasPhases script.version (length script.calls) script.cuts → StartsFit script kept.phases
    → (((phase : ℕ) → phase < length kept.phases → IsRightPhase script kept phase) → ArePhasesRight script kept)
    × (ArePhasesRight script kept → (phase : ℕ) → IsRightPhase script kept phase)

-- and in a record of a run they are
abbrev pub RecordsHaveTheirPhases : Type 0
RecordsHaveTheirPhases = (script : Script) (kept : RunRecord) → IsRecord script kept → ArePhasesRight script kept

-- each strand is right, and nothing is missing, exactly where the strands are as a record has them
abbrev pub StrandsAreJudged : Type 0
StrandsAreJudged = (script : Script) (kept : RunRecord) → StrandsFit script 0 kept.strands
    → (((place : ℕ) → place < suc (length kept.strands) → IsRightPlace script kept place) → AreStrandsRight script kept)
    × (AreStrandsRight script kept → (place : ℕ) → IsRightPlace script kept place)

abbrev pub RecordsHaveTheirStrands : Type 0
RecordsHaveTheirStrands = (script : Script) (kept : RunRecord) → IsWellFormed script → WellShaped script kept → IsRecord script kept → AreStrandsRight script kept
