-- Turns that are made inside others: which turns of the outer one's lock come before the inner one.
use Rattle.std.specs.Prelude.{◌≡◌, ℕ, ◌<◌, All, List, ◌∷◌, ◌++◌}
use Rattle.place_words.specs.declared.history.Entry.{Entry}
use Rattle.place_words.specs.declared.history.LockHistory.{LockHistory}
use Rattle.place_words.specs.Interleaving.{Drawn, enclosing}
use Rattle.place_words.specs.Named.{entries_of}
use Rattle.turn_order.specs.Ordered.{ordered}

-- each turn of this one's lock with a ticket below its own has one below another too
abbrev pub EarlierBelow : List LockHistory → Drawn → ℕ → Type 0
EarlierBelow histories outer ticket =
    All (λ (entry : Entry). entry.ticket < outer.entry.ticket → entry.ticket < ticket) (entries_of histories outer.lock)

-- Whenever a turn was made inside another, each turn of the other's lock with a ticket below the other's has one below that of the turn
-- inside: the other's lock was held when that one drew. Where tickets ascend in each history, these are the turns that stand before the
-- other.
abbrev pub NestsApart : List LockHistory → Type 0
NestsApart histories =
    (before : List Drawn) (inner : Drawn) (later : List Drawn) → ordered histories ≡ before ++ inner ∷ later
    → All (λ (outer : Drawn). EarlierBelow histories outer inner.entry.ticket) (enclosing inner later)
