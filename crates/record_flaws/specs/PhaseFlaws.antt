-- Which phases of a record are right.
use Rattle.std.specs.Prelude.{◌≡◌, ℕ, List, [], All, Some, length, slice_get}
use Rattle.map_script.specs.declared.script.Script.{Script}
use Rattle.place_words.specs.declared.history.Entry.{Entry}
use Rattle.place_words.specs.declared.history.LockHistory.{LockHistory}
use Rattle.place_words.specs.Phases.{phase_of, phase_count}
use Rattle.map_report.specs.declared.record.PhaseStart.{PhaseStart}
use Rattle.map_report.specs.declared.record.RunRecord.{RunRecord}
use Rattle.map_report.specs.Record.{IsInItsPhase}

-- if an entry is of a call of this phase, it is in it
abbrev pub IsRightEntry : List ℕ → List PhaseStart → ℕ → Entry → Type 0
IsRightEntry cuts starts phase entry = phase_of cuts entry.call ≡ phase → IsInItsPhase cuts starts entry

abbrev pub IsRightHistory : List ℕ → List PhaseStart → ℕ → LockHistory → Type 0
IsRightHistory cuts starts phase history = All (IsRightEntry cuts starts phase) history.entries

-- The first phase starts with nothing drawn and nothing marked, and each entry of a call of a phase is in that phase.
pub record IsRightPhase (script : Script) (kept : RunRecord) (phase : ℕ) : Type 0 where
  pub first : phase ≡ 0 → slice_get kept.phases 0 ≡ Some (record { ticket = 0; marked = [] })
  pub entries : All (IsRightHistory script.cuts kept.phases phase) kept.histories

-- What a record says of its phases: one start each, the first with nothing drawn and nothing marked, and each entry in the phase of
-- its call.
pub record ArePhasesRight (script : Script) (kept : RunRecord) : Type 0 where
  pub one_each : length kept.phases ≡ phase_count script.cuts
  pub first : slice_get kept.phases 0 ≡ Some (record { ticket = 0; marked = [] })
  pub in_phases : All (λ (history : LockHistory). All (IsInItsPhase script.cuts kept.phases) history.entries) kept.histories
