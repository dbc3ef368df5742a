-- What the histories of a record lead to, each from its lock's opening, or the first turn in the order of the locks that isn't allowed.
use Rattle.std.specs.Prelude.{◌≡◌, ℕ, All, MatchBool, List, [], map, take, slice_get, Some, Bool}
use Rattle.map_types.specs.declared.attr.Shape.{Shape}
use Rattle.map_types.specs.declared.kind.DomainId.{DomainId}
use Rattle.map_types.specs.declared.kind.DomainId.TheVariants.{Local, Global, CpuLru, Bucket, Freelist}
use Rattle.map_report.specs.Record.{Tells}
use Rattle.map_report.specs.declared.record.RunRecord.{RunRecord}
use Rattle.place_words.specs.declared.finals.Finals.{Finals}
use Rattle.place_words.specs.declared.history.Entry.{Entry}
use Rattle.place_words.specs.declared.history.LockHistory.{LockHistory}
use Rattle.place_words.specs.Histories.{IsLegal, content}
use Rattle.replay_words.specs.declared.note.Note.{Note}
use Rattle.replay_words.specs.Notes.{notes_of}
use Rattle.replay_words.specs.Replays.{IsFirstFlaw}
use Rattle.record_check.specs.declared.lock.ReplayedLock.{ReplayedLock}
use Rattle.record_check.specs.declared.histories.Replayed.{Replayed}
use Rattle.record_check.specs.declared.stop.HistoryStop.{HistoryStop}
use Rattle.record_check.specs.declared.stop.HistoryStop.TheVariants.{NotAllowed, NoMemory}

-- Whether something holds is told.
abbrev pub TellsWhether : Type 0 → Bool → Type 0
TellsWhether Fact holds = MatchBool holds Fact (Fact → ⊥)

-- What is noted of the turns of a lock's history. Nothing is kept of those of buckets and freelists, of which there is nothing to note.
abbrev pub lock_notes : Shape → DomainId → List Entry → List Note
lock_notes shape (Local cpu) entries = notes_of shape (Local cpu) entries
lock_notes shape Global entries = notes_of shape Global entries
lock_notes shape (CpuLru cpu) entries = notes_of shape (CpuLru cpu) entries
lock_notes shape (Bucket bucket) entries = []
lock_notes shape (Freelist cpu) entries = []

-- A lock's history is legal. Whether the finals tell what it leads to is told, and what is noted of its turns.
pub record LockReplays (shape : Shape) (finals : Finals) (lock : DomainId) (entries : List Entry) (replayed : ReplayedLock) : Type 0 where
  pub legal : IsLegal shape lock entries
  pub told : TellsWhether (Tells finals lock (content shape lock entries)) replayed.told
  pub notes : replayed.notes ≡ lock_notes shape lock entries

-- All of these histories are legal; the finals tell what each leads to.
abbrev pub AreLegal : Shape → List LockHistory → Type 0
AreLegal shape histories = All (λ (history : LockHistory). IsLegal shape history.lock history.entries) histories

abbrev pub TellHistories : Shape → Finals → List LockHistory → Type 0
TellHistories shape finals histories = All (λ (history : LockHistory). Tells finals history.lock (content shape history.lock history.entries)) histories

-- All histories of a record are legal. Whether its finals tell what they lead to is told, and what is noted of their turns, history by history.
pub record Replays (shape : Shape) (kept : RunRecord) (replayed : Replayed) : Type 0 where
  pub legal : AreLegal shape kept.histories
  pub told : TellsWhether (TellHistories shape kept.finals kept.histories) replayed.told
  pub notes : replayed.notes ≡ map (λ (history : LockHistory). lock_notes shape history.lock history.entries) kept.histories

-- The first turn in the order of the locks that isn't allowed: all histories before its own are legal, and in its own it is the first.
pub record IsHistoryFlaw (shape : Shape) (histories : List LockHistory) (number index : ℕ) : Type 0 where
  pub before : AreLegal shape (take number histories)
  pub history : LockHistory
  pub there : slice_get histories number ≡ Some history
  pub first : IsFirstFlaw shape history.lock history.entries index

-- why the histories aren't replayed to their ends: nothing is said of want of memory
abbrev pub StopsIn : Shape → List LockHistory → HistoryStop → Type 0
StopsIn shape histories (NotAllowed history index) = IsHistoryFlaw shape histories history index
StopsIn shape histories NoMemory = Unit {0}

-- the first turn of the history of a number that isn't allowed
abbrev pub StopsAtLock : Shape → LockHistory → ℕ → HistoryStop → Type 0
StopsAtLock shape history number (NotAllowed of index) = (of ≡ number) × IsFirstFlaw shape history.lock history.entries index
StopsAtLock shape history number NoMemory = Unit {0}
