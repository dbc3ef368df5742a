-- What is known of a record whose calls are judged.
use Rattle.std.specs.Prelude.{◌≡◌, ℕ, ◌+◌, ◌*◌, ◌<◌, Bool, true, false, All, IsTrue, List, length, slice_get, slice_index_or, Some}
use Rattle.std.specs.List.{list_all, list_any}
use Rattle.map_types.specs.declared.call.Call.{Call}
use Rattle.map_types.specs.declared.reply.Reply.{Reply}
use Rattle.map_types.specs.declared.attr.Shape.{Shape}
use Rattle.map_types.specs.declared.kind.DomainId.{DomainId}
use Rattle.map_types.specs.declared.kind.DomainId.TheVariants.{Local, Global, CpuLru, Bucket, Freelist}
use Rattle.map_script.specs.declared.script.Script.{Script}
use Rattle.map_script.specs.WellFormed.{IsWellFormed}
use Rattle.place_words.specs.declared.history.LockHistory.{LockHistory}
use Rattle.place_words.specs.declared.history.StrandStep.{StrandStep}
use Rattle.place_words.specs.Histories.{IsLegal}
use Rattle.map_report.specs.declared.record.RunRecord.{RunRecord}
use Rattle.record_shape.specs.WellShaped.{WellShaped}
use Rattle.record_flaws.specs.StrandFlaws.{AreStrandsRight}
use Rattle.replay_words.specs.declared.note.Note.{Note}
use Rattle.replay_words.specs.Notes.{notes_of}
use Rattle.call_check.specs.By.{IsTraceBy}
use Rattle.call_check.specs.GoneTables.{gone_by_cpu}
use Rattle.call_check.specs.RightCalls.{is_of_cpu, spare_first, turns_named}
use Rattle.call_check.specs.Spares.{AreSpares}
use Rattle.call_check.specs.Steps.{Histories, LeadToStrands, is_late}
use Rattle.call_check.specs.declared.changes.Change.{Change}

-- a lock of lists
abbrev pub is_list_lock : DomainId → Bool
is_list_lock (Local cpu) = true
is_list_lock Global = true
is_list_lock (CpuLru cpu) = true
is_list_lock (Bucket bucket) = false
is_list_lock (Freelist cpu) = false

-- what was noted of the turns of each lock of lists
abbrev pub AreNoted : Shape → List LockHistory → List (List Note) → Type 0
AreNoted shape histories notes =
    (place : ℕ) (history : LockHistory) → slice_get histories place ≡ Some history → IsTrue (is_list_lock history.lock)
    → slice_get notes place ≡ Some (notes_of shape history.lock history.entries)

-- The record is one of the script's whose strands are right, and each history replays.
pub record MayBeJudged (script : Script) (kept : RunRecord) (notes : List (List Note)) : Type 0 where
  pub formed : IsWellFormed script
  pub shaped : WellShaped script kept
  pub strands : AreStrandsRight script kept
  pub legal : All (λ (history : LockHistory). IsLegal script.shape history.lock history.entries) kept.histories
  pub noted : AreNoted script.shape kept.histories notes

-- what calls are judged by
pub record AreTables (script : Script) (kept : RunRecord) (histories : Histories) (first : List ℕ) (changes : List (List Change)) (strand_of : List ℕ) (late : List Bool) (gone : List (List Bool)) : Type 0 where
  pub histories_are : histories ≡ record { shape = script.shape; all = kept.histories }
  pub spares : AreSpares script.cuts script.shape kept.histories first changes
  pub sized : length strand_of ≡ (length script.cuts + 1) * 16
  pub lead : LeadToStrands kept.strands strand_of
  pub counted : length late ≡ length script.calls + 1
  pub in_time : (number : ℕ) → number < length script.calls + 1 → slice_index_or late number false ≡ list_any (is_late kept.histories number) kept.strands
  pub gone_are : gone ≡ gone_by_cpu script.shape kept.histories

-- whether these steps, with its reply, are a call's trace
abbrev pub IsTraceOf : Script → RunRecord → Call → Reply → List StrandStep → Type 0
IsTraceOf script kept call reply row =
    IsTraceBy script.shape call.cpu (spare_first script.cuts script.shape kept.histories call.cpu) call.verb (turns_named kept.histories row) reply

-- These steps are of the call's CPU, with its reply they are its trace, and in no strand a step of the call stands behind one of a later call.
pub record IsRightRow (script : Script) (kept : RunRecord) (number : ℕ) (call : Call) (reply : Reply) (row : List StrandStep) : Type 0 where
  pub in_time : list_any (is_late kept.histories number) kept.strands ≡ false
  pub its_cpu : list_all (is_of_cpu kept.histories call.cpu) row ≡ true
  pub trace : IsTraceOf script kept call reply row
