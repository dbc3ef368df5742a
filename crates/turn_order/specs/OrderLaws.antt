-- What holds of the turns of histories in the order of their tickets.
use Rattle.std.specs.Prelude.{◌≡◌, ℕ, Bool, IsTrue, IsFalse, IsPermutation, All, List, [], ◌∷◌, ◌++◌, length, map, filter}
use Rattle.std.specs.List.{list_any, range_with_len, Contains}
use Rattle.map_types.specs.declared.attr.Shape.{Shape}
use Rattle.map_types.specs.declared.kind.DomainId.{DomainId}
use Rattle.place_words.specs.declared.history.LockHistory.{LockHistory}
use Rattle.place_words.specs.Histories.{Content}
use Rattle.place_words.specs.Interleaving.{Drawn, Event, tickets_of, entry_of, drawn_on, interleaved}
use Rattle.place_words.specs.Locks.{is_same_lock}
use Rattle.place_words.specs.Named.{entries_of}
use Rattle.place_words.specs.Tickets as by_entry
use Rattle.place_words.specs.Tickets.{AscendIn, all_entries}
use Rattle.turn_order.specs.Ordered.{ordered, interleaved_to}

-- how many turns there are
abbrev pub turn_count : List LockHistory → ℕ
turn_count histories = length (all_entries histories)

-- their tickets are the numbers below that, each once, and ascend in each history
abbrev pub AreDrawnOnce : List LockHistory → Type 0
AreDrawnOnce histories = IsPermutation (range_with_len 0 (turn_count histories)) (by_entry.tickets_of (all_entries histories))

abbrev pub AscendInEach : List LockHistory → Type 0
AscendInEach histories = All (λ (history : LockHistory). AscendIn 0 (by_entry.tickets_of history.entries) (turn_count histories)) histories

-- whether a lock is one of these, and that no lock stands twice
abbrev pub is_one_of : List DomainId → DomainId → Bool
is_one_of locks lock = list_any (λ other. is_same_lock other lock) locks

abbrev pub AreApart : List DomainId → Type 0
AreApart [] = Unit {0}
AreApart (lock ∷ locks) = IsFalse (is_one_of locks lock) × AreApart locks

abbrev pub locks_in : List LockHistory → List DomainId
locks_in histories = map (λ (history : LockHistory). history.lock) histories

-- The turn at each place has that place as its ticket.
abbrev pub OrderedTickets : Type 0
OrderedTickets = (histories : List LockHistory) → AreDrawnOnce histories → tickets_of (ordered histories) ≡ range_with_len 0 (turn_count histories)

-- Each turn is of a lock that has a history, and the turns of each lock are its history.
abbrev pub OrderedOnLocks : Type 0
OrderedOnLocks =
    (histories : List LockHistory) → AreDrawnOnce histories → AscendInEach histories → AreApart (locks_in histories)
    → All (λ (drawn : Drawn). IsTrue (is_one_of (locks_in histories) drawn.lock)) (ordered histories)
    × ((lock : DomainId) → map entry_of (drawn_on lock (ordered histories)) ≡ entries_of histories lock)

-- No other turns in the order of their tickets have the same histories.
abbrev pub OneOrder : Type 0
OneOrder =
    (histories : List LockHistory) → AreDrawnOnce histories → AreApart (locks_in histories)
    → (turns : List Drawn) → tickets_of turns ≡ range_with_len 0 (turn_count histories)
    → ((lock : DomainId) → IsTrue (is_one_of (locks_in histories) lock) → map entry_of (drawn_on lock turns) ≡ entries_of histories lock)
    → turns ≡ ordered histories

-- The events of so many turns are those that all turns begin with, and those of all turns are all.
abbrev pub InterleavedTo : Type 0
InterleavedTo =
    (shape : Shape) (contents : DomainId → Content) (begun : List ℕ) (turns : List Drawn)
    → (interleaved_to (length turns) shape contents begun turns ≡ interleaved shape contents begun turns)
    × ((n : ℕ) → (later : List Event) × (interleaved shape contents begun turns ≡ interleaved_to n shape contents begun turns ++ later))

-- Turns whose tickets ascend, and which are those that a test picks, stand as in the order of all.
abbrev pub PickedInOrder : Type 0
PickedInOrder =
    (histories : List LockHistory) → AreDrawnOnce histories
    → (picks : Drawn → Bool) (turns : List Drawn) → AscendIn 0 (tickets_of turns) (turn_count histories)
    → ((drawn : Drawn) → Contains turns drawn → Contains (ordered histories) drawn × IsTrue (picks drawn))
    → ((drawn : Drawn) → Contains (ordered histories) drawn → IsTrue (picks drawn) → Contains turns drawn)
    → turns ≡ filter picks (ordered histories)
