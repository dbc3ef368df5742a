-- What the verdicts on records are, of each well-formed script.
use Rattle.std.specs.Prelude.{◌≡◌, ℕ}
use Rattle.map_script.specs.declared.script.Script.{Script}
use Rattle.map_script.specs.WellFormed.{IsWellFormed}
use Rattle.map_report.specs.declared.record.RunRecord.{RunRecord}
use Rattle.map_report.specs.Record.{IsRecord}
use Rattle.map_report.specs.Runs.{serial}
use Rattle.record_shape.specs.WellShaped.{WellShaped}
use Rattle.record_reading.specs.ReadRecord.{text_of}
use Rattle.record_flaws.specs.declared.verdict.Flaw.{Flaw}
use Rattle.record_flaws.specs.declared.verdict.Flaw.TheVariants.{Step}
use Rattle.record_flaws.specs.declared.verdict.Said.{Said}
use Rattle.record_flaws.specs.declared.verdict.Said.TheVariants.{Judged}
use Rattle.record_flaws.specs.declared.verdict.Verdict.{Verdict}
use Rattle.record_flaws.specs.declared.verdict.Verdict.TheVariants.{Yes, No}
use Rattle.record_check.specs.Said.{IsSaid}
use Rattle.record_check.specs.Verdicts.{IsVerdict}

-- the record of a run in serial order is right
abbrev pub SerialIsRight : Type 0
SerialIsRight = (script : Script) (verdict : Verdict) → IsWellFormed script → IsVerdict script (serial script) verdict → verdict ≡ Yes

-- a record of a run, as each that a race leaves, is right, or a step of the core is its flaw
abbrev pub RecordsFailAtSteps : Type 0
RecordsFailAtSteps =
    (script : Script) (kept : RunRecord) (flaw : Flaw) → IsWellFormed script → IsRecord script kept → WellShaped script kept → IsVerdict script kept (No flaw)
    → (ticket : ℕ) × (flaw ≡ Step ticket)

-- Two verdicts on a well-shaped record are one.
abbrev pub OneVerdict : Type 0
OneVerdict =
    (script : Script) (kept : RunRecord) (verdict other : Verdict) → IsWellFormed script → WellShaped script kept → IsVerdict script kept verdict → IsVerdict script kept other
    → verdict ≡ other

-- Of the report of a well-shaped record the verdict on that record is said.
abbrev pub ReportsAreJudged : Type 0
ReportsAreJudged =
    (script : Script) (kept : RunRecord) (said : Said) → IsWellFormed script → WellShaped script kept → IsSaid script (text_of script kept) said
    → (verdict : Verdict) × (said ≡ Judged verdict) × IsVerdict script kept verdict
