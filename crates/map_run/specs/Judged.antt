-- What the status of a run in mode `check` tells of its report, and what is said of the report of a race.
use Rattle.std.specs.Prelude.{◌≡◌, ℕ, List, Option, Some, None, Ok, IsTrue, codes}
use Rattle.map_script.specs.declared.script.Form.TheVariants.{Calls}
use Rattle.map_script.specs.declared.script.Script.{Script}
use Rattle.map_script.specs.Reading.{read_as}
use Rattle.map_script.specs.WellFormed.{IsWellFormed}
use Rattle.map_report.specs.declared.record.RunRecord.{RunRecord}
use Rattle.record_reading.specs.ReadRecord.{text_of}
use Rattle.place_table.specs.Closing.{ClosedView}
use Rattle.record_flaws.specs.declared.verdict.Said.{Said}
use Rattle.record_flaws.specs.declared.verdict.Said.TheVariants.{Judged}
use Rattle.record_flaws.specs.declared.verdict.Verdict.TheVariants.{Yes}
use Rattle.run_ends.specs.SourceReads.{Rose}
use Rattle.run_ends.specs.Writes.{Written, AddsWhole}
use Rattle.run_endings.specs.declared.record.Finish.{Finish}
use Rattle.run_endings.specs.Divided.{is_divided, report_part, script_part}
use Rattle.run_endings.specs.Finish.{CopyKept, Finishes, HasCause}
use Rattle.run_records.specs.Copies.{IsCopyOf}
use Rattle.run_words.specs.declared.words.Mode.TheVariants.{Check, Race}
use Rattle.run_words.specs.Words.{mode_of}
use Rattle.map_run.specs.Finish.{RanAs}
use Rattle.record_check.specs.Said.{IsSaid}

-- An input is divided, its script part is read, and the verdict on the record whose report its report part is is yes; that was written.
pub record IsYes (input : List ℕ) (before after : Option Written) : Type 0 where
  pub divided : IsTrue (is_divided input)
  pub script : Script
  pub is_read : read_as Calls (script_part input) ≡ Ok script
  pub said : IsSaid script (report_part input) (Judged Yes)
  pub written : AddsWhole before after (codes "yes\n")

-- In mode `check` the program ends with status 0 only of such an input, and nothing is kept.
abbrev pub EndsWithYes : Type 0
EndsWithYes =
    (words : List (List ℕ)) (input : List ℕ) (rest : Option (List ℕ)) (read_faults read_then : ℕ) (before after : Option Written) (write_faults written_then : ℕ) (finish : Finish ClosedView) → mode_of words ≡ Check → finish.status ≡ 0
    → Finishes IsCopyOf (HasCause RanAs IsSaid words (Some input) rest (Rose read_faults read_then)) before after (Rose write_faults written_then) finish → IsYes input before after × (finish.kept ≡ None)

-- Of the report of a race, with its history and its dump, it is said that it is right.
abbrev pub RacesPass : Type 0
RacesPass =
    (script : Script) (kept : RunRecord) (copy : Option CopyKept) (said : Said) → IsWellFormed script → RanAs Race script kept copy → IsSaid script (text_of script kept) said
    → said ≡ Judged Yes
