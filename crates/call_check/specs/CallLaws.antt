-- Each call of a record is right; and where each is, with what is judged of histories, phases, strands and tickets, the record is one.
use Rattle.std.specs.Prelude.{◌≡◌, ℕ, ◌<◌, All, IsTrue, length}
use Rattle.map_types.specs.declared.kind.DomainId.{DomainId}
use Rattle.map_script.specs.declared.script.Script.{Script}
use Rattle.map_script.specs.WellFormed.{IsWellFormed}
use Rattle.place_words.specs.declared.history.LockHistory.{LockHistory}
use Rattle.place_words.specs.Histories.{IsLegal, content}
use Rattle.place_words.specs.Locks.{is_lock}
use Rattle.place_words.specs.Named.{entries_of}
use Rattle.place_words.specs.Tickets.{AreTicketed}
use Rattle.map_report.specs.declared.record.RunRecord.{RunRecord}
use Rattle.map_report.specs.Record.{HoldsElements, IsRecord, Tells}
use Rattle.map_report.specs.Turns.{spare_at}
use Rattle.record_shape.specs.WellShaped.{WellShaped}
use Rattle.record_flaws.specs.PhaseFlaws.{ArePhasesRight}
use Rattle.record_flaws.specs.StrandFlaws.{AreStrandsRight}
use Rattle.call_check.specs.RightCalls.{IsRightAt, spare_last}

-- the call at each place
abbrev pub AreCallsRight : Script → RunRecord → Type 0
AreCallsRight script kept = (place : ℕ) → place < length script.calls → IsRightAt script kept place

abbrev pub CallsOfRecords : Type 0
CallsOfRecords = (script : Script) (kept : RunRecord) → IsWellFormed script → WellShaped script kept → IsRecord script kept → AreCallsRight script kept

-- the spares that a record tells at the end are what the last replacements left
abbrev pub SparesOfRecords : Type 0
SparesOfRecords =
    (script : Script) (kept : RunRecord) → IsWellFormed script → WellShaped script kept → IsRecord script kept
    → (cpu : ℕ) → spare_last script.cuts script.shape kept.histories cpu ≡ spare_at kept.finals cpu

-- What is asked of a record's parts besides its form, but for tickets.
pub record ArePartsRight (script : Script) (kept : RunRecord) : Type 0 where
  pub histories : All (λ (history : LockHistory). IsLegal script.shape history.lock history.entries) kept.histories
  pub phases : ArePhasesRight script kept
  pub strands : AreStrandsRight script kept
  pub calls : AreCallsRight script kept
  pub contents : (lock : DomainId) → IsTrue (is_lock script.shape lock) → Tells kept.finals lock (content script.shape lock (entries_of kept.histories lock))
  pub finals : HoldsElements script.shape kept.finals
  pub spares : (cpu : ℕ) → cpu < script.shape.cpus → spare_last script.cuts script.shape kept.histories cpu ≡ spare_at kept.finals cpu

abbrev pub CallsMakeRecords : Type 0
CallsMakeRecords =
    (script : Script) (kept : RunRecord) → IsWellFormed script → WellShaped script kept → ArePartsRight script kept
    → AreTicketed kept.histories kept.strands → IsRecord script kept
