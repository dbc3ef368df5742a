-- In which runs a copy is kept.
use Rattle.std.specs.Prelude.{◌≡◌, ℕ, ◌&&◌, is_some, List, Option}
use Rattle.map_script.specs.Reading.{is_copy}
use Rattle.place_table.specs.Closing.{ClosedView}
use Rattle.record_check.specs.Said.{IsSaid}
use Rattle.run_ends.specs.SourceReads.{Rose}
use Rattle.run_ends.specs.Writes.{Written}
use Rattle.run_endings.specs.declared.record.Finish.{Finish}
use Rattle.run_endings.specs.Finish.{Finishes, HasCause, form_of}
use Rattle.run_records.specs.Copies.{IsCopyOf}
use Rattle.run_words.specs.Words.{mode_of}
use Rattle.map_run.specs.Finish.{RanAs}

-- A copy is kept exactly in mode `copy`, where a record is kept, which is that of the source.
abbrev pub KeepsCopies : Type 0
KeepsCopies =
    (words : List (List ℕ)) (left rest : Option (List ℕ)) (read_faults read_then : ℕ) (before after : Option Written) (write_faults written_then : ℕ) (finish : Finish ClosedView)
    → Finishes IsCopyOf (HasCause RanAs IsSaid words left rest (Rose read_faults read_then)) before after (Rose write_faults written_then) finish
    → is_some finish.copy ≡ (is_copy (form_of (mode_of words)) && is_some finish.kept)
