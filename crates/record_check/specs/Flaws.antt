-- What is asked of a record, part by part, and where it fails first.
use Rattle.std.specs.Prelude.{◌≡◌, ℕ, suc, ◌<◌, All, Bool, MatchBool, IsTrue, List, [], length, take, slice_get, Some}
use Rattle.map_types.specs.declared.kind.DomainId.{DomainId}
use Rattle.map_script.specs.declared.script.Script.{Script}
use Rattle.place_words.specs.declared.history.LockHistory.{LockHistory}
use Rattle.place_words.specs.Histories.{IsLegal, content, opening_content}
use Rattle.place_words.specs.Interleaving.{AreEnabled}
use Rattle.place_words.specs.Locks.{is_lock}
use Rattle.place_words.specs.Named.{entries_of}
use Rattle.place_words.specs.OpeningState.{opening}
use Rattle.map_report.specs.declared.record.RunRecord.{RunRecord}
use Rattle.map_report.specs.Record.{HoldsElements, Tells}
use Rattle.map_report.specs.Turns.{spare_at}
use Rattle.replay_words.specs.Replays.{IsFirstFlaw}
use Rattle.record_flaws.specs.First.{IsFirstWrong}
use Rattle.turn_order.specs.Ordered.{interleaved_to, ordered}
use Rattle.call_check.specs.RightCalls.{IsRightAt, spare_last}

-- each history replays by the kernel's rules
abbrev pub AreLegal : Script → List LockHistory → Type 0
AreLegal script histories = All (λ (history : LockHistory). IsLegal script.shape history.lock history.entries) histories

-- the first turn that isn't allowed, in the order of the locks
pub record IsFirstTurn (script : Script) (kept : RunRecord) (lock : DomainId) (index : ℕ) : Type 0 where
  pub place : ℕ
  pub history : LockHistory
  pub there : slice_get kept.histories place ≡ Some history
  pub lock_is : history.lock ≡ lock
  pub before : AreLegal script (take place kept.histories)
  pub first : IsFirstFlaw script.shape lock history.entries index

-- each call is right
abbrev pub AreCallsRight : Script → RunRecord → Type 0
AreCallsRight script kept = (place : ℕ) → place < length script.calls → IsRightAt script kept place

-- the first call that isn't, counted from 1
abbrev pub IsFirstCall : Script → RunRecord → ℕ → Type 0
IsFirstCall script kept number = (place : ℕ) × (number ≡ suc place) × IsFirstWrong (IsRightAt script kept) (length script.calls) (Some place)

-- what the finals tell of each lock is what its history leads to, and whether it is was told
abbrev pub AreContentsRight : Script → RunRecord → Type 0
AreContentsRight script kept = (lock : DomainId) → IsTrue (is_lock script.shape lock) → Tells kept.finals lock (content script.shape lock (entries_of kept.histories lock))

abbrev pub AreContentsTold : Script → RunRecord → Bool → Type 0
AreContentsTold script kept told = MatchBool told (AreContentsRight script kept) (AreContentsRight script kept → ⊥)

-- the spares of the map's CPUs are those that the calls left, and each element is in one place
pub record AreWhole (script : Script) (kept : RunRecord) : Type 0 where
  pub spares : (cpu : ℕ) → cpu < script.shape.cpus → spare_last script.cuts script.shape kept.histories cpu ≡ spare_at kept.finals cpu
  pub finals : HoldsElements script.shape kept.finals

-- what the map holds at the end
pub record AreFinalsRight (script : Script) (kept : RunRecord) : Type 0 where
  pub contents : AreContentsRight script kept
  pub whole : AreWhole script kept

-- the first turns, in the order of their tickets, may be made in the core
abbrev pub AreMade : Script → RunRecord → ℕ → Type 0
AreMade script kept n = AreEnabled script.shape (opening script.shape) (interleaved_to n script.shape (opening_content script.shape) [] (ordered kept.histories))

-- and the turn at this ticket is the first that may not
pub record IsFirstStep (script : Script) (kept : RunRecord) (ticket : ℕ) : Type 0 where
  pub drawn : ticket < length (ordered kept.histories)
  pub before : AreMade script kept ticket
  pub refused : AreMade script kept (suc ticket) → ⊥
