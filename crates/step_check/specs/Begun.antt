-- Which turns have begun, and what is taken for one.
use Rattle.std.specs.Prelude.{◌≡◌, ℕ, ◌+◌, ◌<◌, All, Bool, false, IsTrue, List, ◌∷◌, ◌++◌, length, drop, map, slice_index_or}
use Rattle.std.specs.List.{range_with_len}
use Rattle.place_words.specs.declared.history.LockHistory.{LockHistory}
use Rattle.place_words.specs.Choices.{among}
use Rattle.place_words.specs.declared.step.Lists.{Lists}
use Rattle.place_words.specs.Interleaving.{Drawn, enclosing, not_begun, takes, tickets_of, turn_events}
use Rattle.step_check.specs.declared.takes.Turns.{Turns}
use Rattle.step_check.specs.Outer.{AreOuter}
use Rattle.step_check.specs.Places.{IsPlace, no_turn, turns_at}
use Rattle.step_check.specs.Ran.{Ran}
use Rattle.step_check.specs.WordsView.{WordsView}

abbrev pub turns_of : List LockHistory → Turns → List Drawn
turns_of histories turns = turns_at histories turns.places.items

-- Each turn has its place in the order as its ticket, and which turn encloses it is told so.
pub record AreTurns (histories : List LockHistory) (turns : Turns) : Type 0 where
  pub real : All (IsPlace histories) turns.places.items
  pub tickets : tickets_of (turns_of histories turns) ≡ range_with_len 0 (length turns.places.items)
  pub outer : AreOuter (turns_of histories turns) turns.outer.items

-- the turn of a ticket, and those that enclose it
abbrev pub turn_in : List Drawn → ℕ → Drawn
turn_in turns ticket = slice_index_or turns ticket no_turn

abbrev pub around_in : List Drawn → ℕ → List Drawn
around_in turns ticket = enclosing (turn_in turns ticket) (drop (ticket + 1) turns)

-- which tickets are among these, bit by bit
abbrev pub AreBegun : List ℕ → List Bool → Type 0
AreBegun begun bits = (ticket : ℕ) → ticket < length bits → slice_index_or bits ticket false ≡ among begun ticket

-- What the taking of the locks of some turns answers, as far as they haven't begun; then they have.
pub record HasTaken (begun now_begun : List ℕ) (turns : List Drawn) (before now : WordsView) (bits : List Bool) (answer : Bool) : Type 0 where
  pub ran : Ran before (map takes (not_begun begun turns)) now answer
  pub marked : IsTrue answer → AreBegun now_begun bits

-- What one turn answers: its events, whatever lists it gives back; and then it and what encloses it have begun.
pub record HasRun (turns : List Drawn) (ticket : ℕ) (begun : List ℕ) (lists : Lists) (before now : WordsView) (bits : List Bool) (answer : Bool) : Type 0 where
  pub ran : Ran before (turn_events before.shape (around_in turns ticket) begun lists (turn_in turns ticket)) now answer
  pub marked : IsTrue answer → AreBegun (ticket ∷ (tickets_of (around_in turns ticket) ++ begun)) bits
