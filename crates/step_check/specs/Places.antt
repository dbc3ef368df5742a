-- Where turns stand in histories, and the turns that places name.
use Rattle.std.specs.Prelude.{◌≡◌, ℕ, ◌<◌, ◌==◌, ◌+◌, All, Bool, List, [], ◌∷◌, length, map, slice_index_or}
use Rattle.std.specs.List.{range_with_len}
use Rattle.map_types.specs.declared.kind.DomainId.TheVariants.{Global}
use Rattle.place_words.specs.declared.free_part.FreePart.TheVariants.{FoundEmpty}
use Rattle.place_words.specs.declared.history.Entry.{Entry}
use Rattle.place_words.specs.declared.history.LockHistory.{LockHistory}
use Rattle.place_words.specs.declared.history.Part.TheVariants.{Free}
use Rattle.place_words.specs.Interleaving.{Drawn, tickets_of}
use Rattle.turn_order.specs.Ordered.{ordered}
use Rattle.step_check.specs.declared.places.TurnPlace.{TurnPlace}

-- what a place names that isn't there
abbrev pub no_history : LockHistory
no_history = record { lock = Global; entries = [] }

abbrev pub no_entry : Entry
no_entry = record { ticket = 0; cpu = 0; call = 0; part = Free FoundEmpty }

abbrev pub no_turn : Drawn
no_turn = record { lock = Global; entry = no_entry }

-- the history, the entry and the turn of a place
abbrev pub history_at : List LockHistory → TurnPlace → LockHistory
history_at histories place = slice_index_or histories place.history no_history

abbrev pub entry_at : List LockHistory → TurnPlace → Entry
entry_at histories place = slice_index_or (history_at histories place).entries place.index no_entry

abbrev pub turn_at : List LockHistory → TurnPlace → Drawn
turn_at histories place = record { lock = (history_at histories place).lock; entry = entry_at histories place }

abbrev pub turns_at : List LockHistory → List TurnPlace → List Drawn
turns_at histories places = map (turn_at histories) places

-- A turn stands there.
pub record IsPlace (histories : List LockHistory) (place : TurnPlace) : Type 0 where
  pub history : place.history < length histories
  pub index : place.index < length (history_at histories place).entries

-- the places of the entries of a history, which is that of this number, from one of them on, and those of all histories
abbrev pub places_in : ℕ → ℕ → List Entry → List TurnPlace
places_in history index [] = []
places_in history index (entry ∷ entries) = record { history = history; index = index } ∷ places_in history (index + 1) entries

-- of places the last, where there is one
abbrev pub last_of : TurnPlace → List TurnPlace → TurnPlace
last_of none [] = none
last_of none (place ∷ places) = last_of place places

-- the turn of a place has this ticket
abbrev pub has_ticket : List LockHistory → ℕ → TurnPlace → Bool
has_ticket histories ticket place = (entry_at histories place).ticket == ticket

-- These are the places of all turns, in the order of their tickets.
pub record AreInOrder (histories : List LockHistory) (places : List TurnPlace) : Type 0 where
  pub real : All (IsPlace histories) places
  pub in_order : turns_at histories places ≡ ordered histories
  -- each has its place in this order as its ticket
  pub tickets : tickets_of (turns_at histories places) ≡ range_with_len 0 (length places)
