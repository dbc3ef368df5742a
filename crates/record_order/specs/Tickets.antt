-- Which entry is the first whose ticket is wrong. By their tickets all entries of a record stand in one order.
use Rattle.std.specs.Prelude.{◌≡◌, ℕ, suc, ◌+◌, ◌<◌, ◌≤◌, All, List, [], ◌∷◌, length, map, take, slice_get, Some, if◌then◌else◌}
use Rattle.map_types.specs.declared.attr.Shape.{Shape}
use Rattle.map_types.specs.declared.kind.DomainId.{DomainId}
use Rattle.map_types.specs.ElementLists.{IsIn}
use Rattle.place_words.specs.declared.history.LockHistory.{LockHistory}
use Rattle.place_words.specs.declared.history.Strand.{Strand}
use Rattle.place_words.specs.declared.history.StrandStep.{StrandStep}
use Rattle.place_words.specs.Locks.{is_same_lock}
use Rattle.place_words.specs.Named.{entries_of}
use Rattle.place_words.specs.Tickets.{all_entries, ticket_at, tickets_of}
use Rattle.map_report.specs.Record.{locks_of}

-- An entry stands at a place, which is a lock and an index in its history.
abbrev pub Stands : List LockHistory → StrandStep → Type 0
Stands histories place = place.index < length (entries_of histories place.lock)

-- how many entries the histories before this lock's have
abbrev pub entries_before : List LockHistory → DomainId → ℕ
entries_before [] lock = 0
entries_before (history ∷ histories) lock =
    if is_same_lock history.lock lock then 0 else length history.entries + entries_before histories lock

-- How many entries stand before a place: all of the locks before, and those before it in its history.
abbrev pub number_of : List LockHistory → StrandStep → ℕ
number_of histories place = entries_before histories place.lock + place.index

-- in a strand a step comes right after another
pub record IsNext (strand : Strand) (before step : StrandStep) : Type 0 where
  pub at : ℕ
  pub first : slice_get strand.steps at ≡ Some before
  pub second : slice_get strand.steps (suc at) ≡ Some step

-- What is wrong with the ticket at a place: it isn't below the number of entries, an entry before the place has it, or it isn't above
-- that of the entry before it in its history or in a strand. So of entries with one ticket the first in the order of the locks isn't
-- wrong by that alone, and each later one is.
pub data IsTicketFlaw (histories : List LockHistory) (strands : List Strand) (place : StrandStep) : Type 0 where
  not_below : length (all_entries histories) ≤ ticket_at histories place → IsTicketFlaw histories strands place
  used : IsIn (ticket_at histories place) (take (number_of histories place) (tickets_of (all_entries histories))) → IsTicketFlaw histories strands place
  in_history : (before : ℕ) → place.index ≡ suc before → ticket_at histories place ≤ ticket_at histories (record { lock = place.lock; index = before })
      → IsTicketFlaw histories strands place
  in_strand : (n : ℕ) (strand : Strand) (before : StrandStep) → slice_get strands n ≡ Some strand → IsNext strand before place
      → ticket_at histories place ≤ ticket_at histories before → IsTicketFlaw histories strands place

-- The first entry whose ticket is wrong, in the order of the locks.
pub record IsFirstFlaw (histories : List LockHistory) (strands : List Strand) (place : StrandStep) : Type 0 where
  pub stands : Stands histories place
  pub wrong : IsTicketFlaw histories strands place
  pub none_before : (other : StrandStep) → Stands histories other → number_of histories other < number_of histories place → IsTicketFlaw histories strands other → ⊥

-- What is asked of a record before its tickets are judged: each lock of the map has one history, in order, and each step of a strand
-- names an entry.
pub record NamesEntries (shape : Shape) (histories : List LockHistory) (strands : List Strand) : Type 0 where
  pub locks : map (λ (history : LockHistory). history.lock) histories ≡ locks_of shape
  pub steps : All (λ (strand : Strand). All (Stands histories) strand.steps) strands
