-- The laws of reading a report, of each well-formed script.
use Rattle.std.specs.Prelude.{◌≡◌, ◌⊎◌, ℕ, List, Result, Ok, Err}
use Rattle.map_script.specs.declared.script.Script.{Script}
use Rattle.map_script.specs.WellFormed.{IsWellFormed}
use Rattle.map_report.specs.declared.record.RunRecord.{RunRecord}
use Rattle.record_reading.specs.declared.refusal.RecordRefusal.{RecordRefusal}
use Rattle.record_reading.specs.declared.refusal.RecordRefusal.TheVariants.{NoMemory}
use Rattle.record_reading.specs.ReadRecord.{IsFault, read_text, text_of}
use Rattle.record_reading.specs.RecordAnswers.{IsRecordIn}
use Rattle.record_shape.specs.WellShaped.{WellShaped}

-- the text of a well-shaped record is read as that record
abbrev pub ReadsEach : Type 0
ReadsEach = (script : Script) (kept : RunRecord) → IsWellFormed script → WellShaped script kept → read_text script (text_of script kept) ≡ Ok kept

-- what is read is a well-shaped record, whose text it is
abbrev pub ReadsRight : Type 0
ReadsRight =
    (script : Script) (text : List ℕ) (kept : RunRecord) → IsWellFormed script → read_text script text ≡ Ok kept
    → (text_of script kept ≡ text) × WellShaped script kept

-- the line at which a text is refused is the first at fault
abbrev pub RefusesAtFault : Type 0
RefusesAtFault = (script : Script) (text : List ℕ) (n : ℕ) → IsWellFormed script → read_text script text ≡ Err n → IsFault script text n

-- no two well-shaped records have one text
abbrev pub OneRecordEach : Type 0
OneRecordEach =
    (script : Script) (kept other : RunRecord) → IsWellFormed script → WellShaped script kept → WellShaped script other
    → text_of script kept ≡ text_of script other → kept ≡ other

-- The record of each run is well shaped. So of its text it is that record that is answered, where memory is found.
abbrev pub ReadsBack : Type 0
ReadsBack =
    (script : Script) (kept : RunRecord) (read : Result RunRecord RecordRefusal) → WellShaped script kept → IsRecordIn script (text_of script kept) read
    → (read ≡ Ok kept) ⊎ (read ≡ Err NoMemory)
