-- How a turn is recorded: in the strand of the pass, and in the slot of the lock, or where it is a bucket's in the log of the pass; or
-- nowhere.
use Rattle.std.specs.Prelude.{◌≡◌, ◌⊎◌, ℕ, ◌+◌, List, [], ◌∷◌, ◌++◌, length, map, Option, None, Some}
use Rattle.map_types.specs.declared.kind.DomainId.{DomainId}
use Rattle.map_types.specs.declared.kind.DomainId.TheVariants.{Bucket}
use Rattle.place_words.specs.declared.history.Entry.{Entry}
use Rattle.place_words.specs.declared.history.StrandStep.{StrandStep}
use Rattle.place_table.specs.declared.content.Behind.{Behind}
use Rattle.place_words.specs.declared.turn_logs.LoggedTurn.{LoggedTurn}
use Rattle.place_words.specs.TurnLogs.{no_turn, turn_logged}
use Rattle.place_table.specs.declared.content.Content.{Content}
use Rattle.place_table.specs.declared.content.SlotTurns.{SlotTurns}
use Rattle.place_table.specs.declared.content.SlotTurns.TheVariants.{Here, Logged}

-- a history and a log after a turn, and the entry of the turn where it isn't in them
pub record Recorded : Type 0 where
  pub history : Option SlotTurns
  pub log : List LoggedTurn
  pub lost : Option Entry

-- what stands in a slot with a content and a history
abbrev pub filled : Content → Option SlotTurns → Behind
filled content history = record { content = Some content; history = history }

-- the step of a strand that names this place in the lock's history
abbrev pub recorded_step : DomainId → ℕ → StrandStep
recorded_step lock index = record { lock = lock; index = index }

-- without a ticket there is no history any more
abbrev pub history_with : Option ℕ → Option SlotTurns → Option SlotTurns
history_with None history = None
history_with (Some ticket) history = history

-- nothing is recorded, the history is given up, and the entry is handed back
abbrev pub IsLost : List LoggedTurn → Entry → List StrandStep → List StrandStep → Recorded → Type 0
IsLost log entry before after recorded = (recorded.history ≡ None) × (recorded.lost ≡ Some entry) × (after ≡ before) × (recorded.log ≡ log)

-- the entry stands behind the turns in the slot, and the strand has its step
abbrev pub RecordsHere : List LoggedTurn → List Entry → List Entry → DomainId → Entry → List StrandStep → List StrandStep → Recorded → Type 0
RecordsHere log entries now lock entry before after recorded =
    (now ≡ entries ++ entry ∷ []) × (recorded.lost ≡ None) × (after ≡ before ++ recorded_step lock (length entries) ∷ []) × (recorded.log ≡ log)

-- the turn stands behind the others in the log, one turn more is counted, and the strand has its step
pub record IsLogged (log after_log : List LoggedTurn) (count now : ℕ) (lock : DomainId) (entry : Entry) (before after : List StrandStep) : Type 0 where
  pub turn : LoggedTurn
  pub now_is : now ≡ count + 1
  pub after_is : after ≡ before ++ recorded_step lock count ∷ []
  pub log_is : after_log ≡ log ++ turn ∷ []
  pub lock_is : lock ≡ Bucket turn.bucket
  pub index_is : turn.index ≡ count
  pub entry_is : turn_logged turn ≡ entry

-- the turn is recorded as the slot has it
abbrev pub RecordsIn : Option SlotTurns → List LoggedTurn → Option SlotTurns → DomainId → Entry → List StrandStep → List StrandStep → Recorded → Type 0
RecordsIn (Some (Here entries)) log (Some (Here now)) lock entry before after recorded = RecordsHere log entries.value now.value lock entry before after recorded
RecordsIn (Some (Logged count)) log (Some (Logged now)) lock entry before after recorded =
    (recorded.lost ≡ None) × IsLogged log recorded.log count now lock entry before after
RecordsIn history log now lock entry before after recorded = ⊥

-- it is recorded, or lost
abbrev pub Records : Option SlotTurns → List LoggedTurn → DomainId → Entry → List StrandStep → List StrandStep → Recorded → Type 0
Records history log lock entry before after recorded =
    IsLost log entry before after recorded ⊎ RecordsIn history log recorded.history lock entry before after recorded

-- the last of some entries
abbrev pub last_from : Entry → List Entry → Entry
last_from entry [] = entry
last_from entry (next ∷ entries) = last_from next entries

-- the last entry of a history, which stands there or in the log
abbrev pub last_in : List LoggedTurn → Option SlotTurns → Entry
last_in log None = no_turn
last_in log (Some (Here entries)) = last_from no_turn entries.value
last_in log (Some (Logged count)) = last_from no_turn (map turn_logged log)

-- The entry that a lock is given back with: the last one of the history of the slot taken last, or the one that was handed back.
abbrev pub entry_given : Option Entry → List LoggedTurn → List (ℕ × Behind) → Entry
entry_given (Some entry) log slots = entry
entry_given None log [] = no_turn
entry_given None log (slot ∷ slots) = last_in log slot.1.history
