-- All turns of some histories in the order of their tickets, and the events of the first of them.
use Rattle.std.specs.Prelude.{ℕ, zero, suc, ◌==◌, List, [], ◌∷◌, ◌++◌, map, filter, length}
use Rattle.std.specs.List.{flat_map, range_with_len}
use Rattle.map_types.specs.declared.attr.Shape.{Shape}
use Rattle.map_types.specs.declared.kind.DomainId.{DomainId}
use Rattle.place_words.specs.declared.history.LockHistory.{LockHistory}
use Rattle.place_words.specs.declared.history.Entry.{Entry}
use Rattle.place_words.specs.Histories.{Content}
use Rattle.place_words.specs.Interleaving.{Drawn, turn_of, Event, enclosing, lists_in, tickets_of, turn_events}
use Rattle.place_words.specs.Tickets.{all_entries}
use Rattle.place_words.specs.Turns.{after_turn}

-- the turns of a lock, in the order of its history, and those of all locks
abbrev pub drawn_in : LockHistory → List Drawn
drawn_in history = map (λ (entry : Entry). record { lock = history.lock; entry = entry }) history.entries

abbrev pub all_drawn : List LockHistory → List Drawn
all_drawn histories = flat_map drawn_in histories

-- the turns that have a ticket: one, where each ticket was drawn once
abbrev pub with_ticket : ℕ → List Drawn → List Drawn
with_ticket ticket turns = filter (λ (drawn : Drawn). drawn.entry.ticket == ticket) turns

-- all turns in the order of their tickets
abbrev pub ordered : List LockHistory → List Drawn
ordered histories = flat_map (λ ticket. with_ticket ticket (all_drawn histories)) (range_with_len 0 (length (all_entries histories)))

-- The events of the first turns, so many of them: which turns enclose one is looked for among all that come later.
unfoldable pub interleaved_to : ℕ → Shape → (DomainId → Content) → List ℕ → List Drawn → List Event
interleaved_to zero shape contents begun turns = []
interleaved_to (suc n) shape contents begun [] = []
interleaved_to (suc n) shape contents begun (drawn ∷ later) =
    let around : List Drawn = enclosing drawn later in
    let now : DomainId → Content = after_turn shape drawn.entry.cpu contents (turn_of drawn) in
    turn_events shape around begun (lists_in (now drawn.lock)) drawn
    ++ interleaved_to n shape now (drawn.entry.ticket ∷ tickets_of around ++ begun) later
