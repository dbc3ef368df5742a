-- Whether a push that found its element gone from pending came after a refill that had flushed it.
use Rattle.std.specs.Prelude.{◌≡◌, ℕ, ◌<◌, ◌≤◌, Bool, false, All, List, length, map, slice_index_or, take, Option, None, Some, if◌then◌else◌}
use Rattle.std.specs.List.{range_with_len}
use Rattle.place_words.specs.declared.free_part.FreePart.TheVariants.{FoundEmpty}
use Rattle.place_words.specs.declared.history.Entry.{Entry}
use Rattle.place_words.specs.declared.history.Part.{Part}
use Rattle.place_words.specs.declared.history.Part.TheVariants as parts
use Rattle.place_words.specs.declared.list_part.LocalPart.{LocalPart}
use Rattle.place_words.specs.declared.list_part.LocalPart.TheVariants as local
use Rattle.place_words.specs.Takings.{ends_flushed}
use Rattle.call_check.specs.RightCalls.{entries_below}
use Rattle.call_check.specs.declared.moved.Ticketed.{Ticketed}

-- the element that a push found gone
abbrev pub gone_by_local : LocalPart → Option ℕ
gone_by_local (local.Pop hash e) = None
gone_by_local (local.Refill hash flushed gained got) = None
gone_by_local (local.Steal got first second) = None
gone_by_local (local.Add hash e cursor) = None
gone_by_local (local.Push e done) = if done then None else Some e

abbrev pub gone_by : Part → Option ℕ
gone_by (parts.Bucket part) = None
gone_by (parts.Free part) = None
gone_by (parts.Local part) = gone_by_local part
gone_by (parts.Global part) = None
gone_by (parts.Own part) = None

-- whether a refill moved it last, as these turns tell
abbrev pub ended_flushed : Option ℕ → List Entry → Bool
ended_flushed None entries = false
ended_flushed (Some e) entries = ends_flushed e false entries

-- whether one had flushed it before, by the tickets of the lock's turns
abbrev pub was_gone : List Entry → Entry → Bool
was_gone entries entry = ended_flushed (gone_by entry.part) (entries_below entry.ticket entries)

abbrev pub were_gone : List Entry → List Bool
were_gone entries = map (was_gone entries) entries

-- such elements are below a number
abbrev pub OneBelow : ℕ → Option ℕ → Type 0
OneBelow bound None = Unit {0}
OneBelow bound (Some e) = e < bound

abbrev pub AreGoneBelow : ℕ → List Entry → Type 0
AreGoneBelow bound entries = All (λ (entry : Entry). OneBelow bound (gone_by entry.part)) entries

-- the turns of a lock by their places, and the entries at places
abbrev pub no_entry : Entry
no_entry = record { ticket = 0; cpu = 0; call = 0; part = parts.Free FoundEmpty }

abbrev pub entry_at : List Entry → ℕ → Entry
entry_at entries place = slice_index_or entries place no_entry

abbrev pub placed_at : List Entry → ℕ → Ticketed
placed_at entries place = record { ticket = (entry_at entries place).ticket; place = place }

abbrev pub placed : List Entry → List Ticketed
placed entries = map (placed_at entries) (range_with_len 0 (length entries))

abbrev pub entry_of : List Entry → Ticketed → Entry
entry_of entries at = entry_at entries at.place

-- each is the turn at its place
abbrev pub IsPlaced : List Entry → Ticketed → Type 0
IsPlaced entries at = (at.place < length entries) × (at.ticket ≡ (entry_of entries at).ticket)

-- whether each element's last mover was a refill that flushed it
abbrev pub IsMoveTable : ℕ → List Entry → List Bool → Type 0
IsMoveTable elements entries table = (length table ≡ elements) × ((e : ℕ) → e < elements → slice_index_or table e false ≡ ends_flushed e false entries)

-- what such a table tells of an element
abbrev pub told_by : List Bool → Option ℕ → Bool
told_by table None = false
told_by table (Some e) = slice_index_or table e false

-- Of turns by their tickets the table is of so many, those with a lesser ticket than the next one. No turn below `at` has a greater.
pub record MovedTo (elements : ℕ) (entries : List Entry) (order : List Ticketed) (at moved : ℕ) (table : List Bool) : Type 0 where
  pub table_is : IsMoveTable elements (map (entry_of entries) (take moved order)) table
  pub front : (k : ℕ) (d : Ticketed) → k < moved → (slice_index_or order k d).ticket < (slice_index_or order moved d).ticket
  pub level : (k : ℕ) (d : Ticketed) → k < at → (slice_index_or order k d).ticket ≤ (slice_index_or order moved d).ticket
  pub within : moved ≤ at
