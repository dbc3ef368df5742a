-- Answers that the contracts of runs don't allow.
use Rattle.std.specs.Prelude.{◌≡◌, ◌≢◌, ℕ, List, Option, None, Some, slice_get}
use Rattle.std.specs.List.{range_with_len}
use Rattle.map_types.specs.declared.call.Call.{Call}
use Rattle.map_types.specs.declared.reply.Reply.{Reply}
use Rattle.map_script.specs.declared.script.Script.{Script}
use Rattle.place_words.specs.declared.history.Strand.{Strand}
use Rattle.place_table.specs.Passes.{PassView, TableView}
use Rattle.map_report.specs.declared.record.RunRecord.{RunRecord}
use Rattle.run_ends.specs.SourceReads.{Rose}
use Rattle.run_ends.specs.Writes.{Written}
use Rattle.run_records.specs.declared.pieces.Piece.{Piece}
use Rattle.run_endings.specs.declared.record.Finish.{Finish}
use Rattle.run_endings.specs.Finish.{Finishes, HasCause}
use Rattle.place_table.specs.Closing.{ClosedView}
use Rattle.run_records.specs.Copies.{IsCopyOf}
use Rattle.map_run.specs.Finish.{RanAs}
use Rattle.record_check.specs.Said.{IsSaid}
use Rattle.run_records.specs.Parts.{lone_cpu}
use Rattle.run_records.specs.Races.{IsRaceRecord, RanByMany, RanCalls, calls_of}

-- The program doesn't end with a record that no closed table stands behind, whatever its words are, and whatever its source and its
-- sink tell: a run that is computed, and opens no table, is refused.
abbrev pub KeptFromATable : Type 0
KeptFromATable =
    (words : List (List ℕ)) (left rest : Option (List ℕ)) (read_faults read_then : ℕ) (before after : Option Written) (write_faults written_then : ℕ) (finish : Finish ClosedView) → finish.kept ≢ None → finish.closed ≡ None
    → ¬ Finishes IsCopyOf (HasCause RanAs IsSaid words left rest (Rose read_faults read_then)) before after (Rose write_faults written_then) finish

-- what workers tell of calls isn't what is told of calls that are all of one CPU
abbrev pub LoneCallsByOne : Type 0
LoneCallsByOne =
    (t : TableView) (p before : ℕ) (calls : List Call) (cpu : ℕ) (start now : PassView) (told : List Reply) (pieces : List Piece) → lone_cpu calls ≡ Some cpu → RanByMany t p before calls start now told pieces
    → ¬ RanCalls t p before calls start now told pieces

-- nor does the record of a race have, of a phase whose calls are all of one CPU, a strand of fewer CPUs than all, as a worker leaves it
abbrev pub LonePhaseIsWhole : Type 0
LonePhaseIsWhole =
    (script : Script) (kept : RunRecord) (i p cpu : ℕ) (strand : Strand) → lone_cpu (calls_of script p) ≡ Some cpu → slice_get kept.strands i ≡ Some strand → strand.phase ≡ p
    → strand.cpus ≢ range_with_len 0 script.shape.cpus → ¬ IsRaceRecord script kept
