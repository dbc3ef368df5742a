-- The laws of tickets.
use Rattle.std.specs.Prelude.{ℕ, ◌↔◌, ◌≡◌, List, IsTrue, Some, slice_get}
use Rattle.map_types.specs.declared.attr.Shape.{Shape}
use Rattle.map_types.specs.declared.kind.DomainId.{DomainId}
use Rattle.map_script.specs.declared.script.Script.{Script}
use Rattle.map_report.specs.declared.record.RunRecord.{RunRecord}
use Rattle.map_report.specs.Record.{IsRecord, entries_of, places_in}
use Rattle.place_words.specs.declared.history.LockHistory.{LockHistory}
use Rattle.place_words.specs.declared.history.Strand.{Strand}
use Rattle.place_words.specs.declared.history.StrandStep.{StrandStep}
use Rattle.place_words.specs.Locks.{is_lock}
use Rattle.place_words.specs.Strands.{places_on}
use Rattle.place_words.specs.Tickets.{AreTicketed}
use Rattle.record_shape.specs.WellShaped.{WellShaped}
use Rattle.record_order.specs.Tickets.{IsTicketFlaw, NamesEntries, Stands}

-- The tickets are as a record has them exactly where no entry's is wrong.
abbrev pub WhereNoneIsWrong : Type 0
WhereNoneIsWrong = (shape : Shape) (histories : List LockHistory) (strands : List Strand) → NamesEntries shape histories strands
    → ((place : StrandStep) → Stands histories place → IsTicketFlaw histories strands place → ⊥) ↔ AreTicketed histories strands

-- the steps of each strand on a lock are the entries that its CPUs have in the lock's history for calls of its phase
abbrev pub StepsAreEntries : Script → RunRecord → Type 0
StepsAreEntries script kept = (n : ℕ) (strand : Strand) → slice_get kept.strands n ≡ Some strand → (lock : DomainId) → IsTrue (is_lock script.shape lock)
    → places_on lock strand.steps ≡ places_in script.cuts strand.phase strand.cpus 0 (entries_of kept.histories lock)

-- What is asked of a record before its tickets are judged follows from its shape and from what its strands are.
abbrev pub RecordsNameEntries : Type 0
RecordsNameEntries = (script : Script) (kept : RunRecord) → WellShaped script kept → StepsAreEntries script kept → NamesEntries script.shape kept.histories kept.strands

-- It follows too of each record of a run: it is one of its locks and of its strands' calls.
abbrev pub WholeRecordsNameEntries : Type 0
WholeRecordsNameEntries = (script : Script) (kept : RunRecord) → IsRecord script kept → NamesEntries script.shape kept.histories kept.strands
