-- Which records are linearizable, and so which runs, and what holds of a report that is judged right.
use Rattle.std.specs.Prelude.{◌≡◌, ℕ, List, []}
use Rattle.map_script.specs.declared.script.Script.{Script}
use Rattle.map_script.specs.WellFormed.{IsWellFormed}
use Rattle.map_report.specs.declared.record.RunRecord.{RunRecord}
use Rattle.map_report.specs.Record.{IsRecord, StartsRise}
use Rattle.map_report.specs.Runs.{serial}
use Rattle.one_map.specs.Linear.{IsAnsweredByOneMap, IsLinearizable}
use Rattle.record_check.specs.Said.{IsSaid}
use Rattle.record_flaws.specs.declared.verdict.Said.TheVariants.{Judged}
use Rattle.record_flaws.specs.declared.verdict.Verdict.TheVariants.{Yes}
use Rattle.record_reading.specs.ReadRecord.{text_of}
use Rattle.serial_laws.specs.Served.{SuitsItsMap}

-- Each record is where the tickets of the starts of its phases never fall, as they don't in a run.
abbrev pub RecordsAreLinearizable : Type 0
RecordsAreLinearizable = (script : Script) (kept : RunRecord) → SuitsItsMap script → IsRecord script kept → StartsRise kept → IsLinearizable script kept

-- So is each run in serial order.
abbrev pub SerialIsLinearizable : Type 0
SerialIsLinearizable = (script : Script) → SuitsItsMap script → IsLinearizable script (serial script)

-- A report of which mode `check` says yes tells a record whose calls are answered by one plain map. That the starts of its phases never
-- fall isn't asked there: where they don't, and so where the script has one phase, it is linearizable.
pub record IsOfOneMap (script : Script) (report : List ℕ) : Type 0 where
  pub kept : RunRecord
  pub report_is : text_of script kept ≡ report
  pub answered : IsAnsweredByOneMap script kept
  pub linear : StartsRise kept → IsLinearizable script kept
  pub in_one_phase : script.cuts ≡ [] → IsLinearizable script kept

abbrev pub YesIsOfOneMap : Type 0
YesIsOfOneMap = (script : Script) (report : List ℕ) → IsWellFormed script → IsSaid script report (Judged Yes) → IsOfOneMap script report
