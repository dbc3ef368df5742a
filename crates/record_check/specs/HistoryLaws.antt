-- Laws of the flaw of a history, and of what the finals tell, as the definition of records has them.
use Rattle.std.specs.Prelude.{◌≡◌, ◌↔◌, ℕ, IsTrue, List, map}
use Rattle.map_types.specs.declared.attr.Shape.{Shape}
use Rattle.map_types.specs.declared.kind.DomainId.{DomainId}
use Rattle.map_report.specs.Record.{IsRecord, Tells, entries_of, locks_of}
use Rattle.map_report.specs.declared.record.RunRecord.{RunRecord}
use Rattle.map_script.specs.declared.script.Script.{Script}
use Rattle.place_words.specs.declared.history.LockHistory.{LockHistory}
use Rattle.place_words.specs.Histories.{content}
use Rattle.place_words.specs.Locks.{is_lock}
use Rattle.record_check.specs.declared.histories.Replayed.{Replayed}
use Rattle.record_check.specs.Replayed.{Replays, TellsWhether, AreLegal, TellHistories, IsHistoryFlaw}

-- Where a turn isn't allowed not all histories are legal, and it is no record.
abbrev pub FlawRefutesLegal : Type 0
FlawRefutesLegal = (shape : Shape) (histories : List LockHistory) (number index : ℕ) → IsHistoryFlaw shape histories number index → AreLegal shape histories → ⊥

abbrev pub FlawRefutesRecord : Type 0
FlawRefutesRecord = (script : Script) (kept : RunRecord) (number index : ℕ) → IsHistoryFlaw script.shape kept.histories number index → IsRecord script kept → ⊥

-- Two flaws of a record are one.
abbrev pub OneFlaw : Type 0
OneFlaw = (shape : Shape) (histories : List LockHistory) (number index other place : ℕ)
    → IsHistoryFlaw shape histories number index → IsHistoryFlaw shape histories other place → (number ≡ other) × (index ≡ place)

-- Where the histories are those of the map's locks, the finals tell what they lead to exactly where they tell what lies under each lock.
abbrev pub ToldIsContents : Type 0
ToldIsContents = (shape : Shape) (kept : RunRecord) → map (λ (history : LockHistory). history.lock) kept.histories ≡ locks_of shape
    → TellHistories shape kept.finals kept.histories ↔ ((lock : DomainId) → IsTrue (is_lock shape lock) → Tells kept.finals lock (content shape lock (entries_of kept.histories lock)))

-- A record tells what its histories lead to.
abbrev pub RecordsTellHistories : Type 0
RecordsTellHistories = (script : Script) (kept : RunRecord) → IsRecord script kept → TellHistories script.shape kept.finals kept.histories

-- So what was told of a replay decides what is asked of a record's histories and of its finals.
abbrev pub ReplaysDecide : Type 0
ReplaysDecide = (script : Script) (kept : RunRecord) (replayed : Replayed) → map (λ (history : LockHistory). history.lock) kept.histories ≡ locks_of script.shape
    → Replays script.shape kept replayed → AreLegal script.shape kept.histories
    × TellsWhether ((lock : DomainId) → IsTrue (is_lock script.shape lock) → Tells kept.finals lock (content script.shape lock (entries_of kept.histories lock))) replayed.told
