-- What the status of a run of the program tells of its cause.
use Rattle.std.specs.Prelude.{◌≡◌, ℕ, List, Option, IsTrue}
use Rattle.place_table.specs.Closing.{ClosedView}
use Rattle.record_check.specs.Said.{IsSaid}
use Rattle.run_ends.specs.SourceReads.{Rose}
use Rattle.run_ends.specs.Writes.{Written}
use Rattle.run_endings.specs.declared.record.Finish.{Finish}
use Rattle.run_endings.specs.Causes.{IsFaulty}
use Rattle.run_endings.specs.Finish.{Finishes, HasCause}
use Rattle.run_records.specs.Copies.{IsCopyOf}
use Rattle.run_words.specs.Words.{are_words, mode_of}
use Rattle.map_run.specs.Finish.{RanAs}

-- With status 1 the words are good, and an input was read to its end that is read as a fault.
abbrev pub FaultyInputHasCause : Type 0
FaultyInputHasCause =
    (words : List (List ℕ)) (left rest : Option (List ℕ)) (read_faults read_then : ℕ) (before after : Option Written) (write_faults written_then : ℕ) (finish : Finish ClosedView)
    → Finishes IsCopyOf (HasCause RanAs IsSaid words left rest (Rose read_faults read_then)) before after (Rose write_faults written_then) finish
    → finish.status ≡ 1 → IsTrue (are_words words) × IsFaulty (mode_of words) left rest

-- With status 3 the source's count of faults rose, or stands at its last value, and with 4 the sink's.
abbrev pub FaultsRose : Type 0
FaultsRose =
    (words : List (List ℕ)) (left rest : Option (List ℕ)) (read_faults read_then : ℕ) (before after : Option Written) (write_faults written_then : ℕ) (finish : Finish ClosedView)
    → Finishes IsCopyOf (HasCause RanAs IsSaid words left rest (Rose read_faults read_then)) before after (Rose write_faults written_then) finish
    → (finish.status ≡ 3 → Rose read_faults read_then) × (finish.status ≡ 4 → Rose write_faults written_then)
