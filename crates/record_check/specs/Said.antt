-- What is said of a report.
use Rattle.std.specs.Prelude.{◌≡◌, ℕ, List}
use Rattle.map_script.specs.declared.script.Script.{Script}
use Rattle.map_report.specs.declared.record.RunRecord.{RunRecord}
use Rattle.record_shape.specs.WellShaped.{WellShaped}
use Rattle.record_reading.specs.ReadRecord.{IsFault, text_of}
use Rattle.record_flaws.specs.declared.verdict.Said.{Said}
use Rattle.record_flaws.specs.declared.verdict.Said.TheVariants.{Judged, Unread}
use Rattle.record_check.specs.Verdicts.{IsVerdict}

-- It is the report of a well-shaped record, whose verdict is told; or no such record has it, and the line at fault is told.
abbrev pub IsSaid : Script → List ℕ → Said → Type 0
IsSaid script report (Judged verdict) = (kept : RunRecord) × WellShaped script kept × (text_of script kept ≡ report) × IsVerdict script kept verdict
IsSaid script report (Unread line) = IsFault script report line
