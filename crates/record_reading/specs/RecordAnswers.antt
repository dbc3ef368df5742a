-- What is answered of a text.
use Rattle.std.specs.Prelude.{◌≡◌, List, ℕ, Result, Ok, Err}
use Rattle.map_script.specs.declared.script.Script.{Script}
use Rattle.map_report.specs.declared.record.RunRecord.{RunRecord}
use Rattle.record_reading.specs.declared.refusal.RecordRefusal.{RecordRefusal}
use Rattle.record_reading.specs.declared.refusal.RecordRefusal.TheVariants.{Fault, NoMemory}
use Rattle.record_reading.specs.ReadRecord.{IsFault, text_of}
use Rattle.record_shape.specs.WellShaped.{WellShaped}

-- A record is answered where it is well shaped and the text is its report, and it is the one such record. Where the text is no
-- such report, the line at fault is answered. Where memory isn't found, the text may be either.
abbrev pub IsRecordIn : Script → List ℕ → Result RunRecord RecordRefusal → Type 0
IsRecordIn script text (Ok kept) =
    WellShaped script kept × (text_of script kept ≡ text) × ((other : RunRecord) → WellShaped script other → text_of script other ≡ text → other ≡ kept)
IsRecordIn script text (Err (Fault line)) = IsFault script text line
IsRecordIn script text (Err NoMemory) = Unit {0}
