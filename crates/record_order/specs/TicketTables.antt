-- The tables by which tickets are judged, in one pass over the histories and one over the strands.
use Rattle.std.specs.Prelude.{ℕ, suc, ◌+◌, ◌-◌, ◌^◌, ◌<◌, min, max, All, Bool, true, false, ◌||◌, nat_lt, IsTrue, List, [], ◌∷◌, length, set, slice_index_or, Option, None, Some, if◌then◌else◌}
use Rattle.std.specs.List.{flat_map}
use Rattle.map_types.specs.declared.attr.Shape.{Shape}
use Rattle.place_words.specs.declared.history.LockHistory.{LockHistory}
use Rattle.place_words.specs.declared.history.Strand.{Strand}
use Rattle.place_words.specs.declared.history.StrandStep.{StrandStep}
use Rattle.place_words.specs.Locks.{is_lock, lock_number}
use Rattle.place_words.specs.Tickets.{tickets_of}

-- each history is of a lock of the map
abbrev pub AreReal : Shape → List LockHistory → Type 0
AreReal shape histories = All (λ (history : LockHistory). IsTrue (is_lock shape history.lock)) histories

-- how many entries stand before those of each history, by the lock's number
abbrev pub firsts_from : Shape → ℕ → List LockHistory → List ℕ → List ℕ
firsts_from shape count [] firsts = firsts
firsts_from shape count (history ∷ histories) firsts =
    firsts_from shape (count + length history.entries) histories (set firsts (lock_number shape history.lock) count)

-- the number of an entry by this table
abbrev pub number_by : Shape → List ℕ → StrandStep → ℕ
number_by shape firsts step = slice_index_or firsts (lock_number shape step.lock) 0 + step.index

-- a step is on a lock of the map, and its number is below the number of entries
pub record HasNumber (shape : Shape) (firsts : List ℕ) (entries : ℕ) (step : StrandStep) : Type 0 where
  pub lock : IsTrue (is_lock shape step.lock)
  pub below : number_by shape firsts step < entries

-- the entry of a number
abbrev pub place_of : List LockHistory → ℕ → Option StrandStep
place_of [] number = None
place_of (history ∷ histories) number =
    if nat_lt number (length history.entries) then Some (record { lock = history.lock; index = number }) else place_of histories (number - length history.entries)

-- the least ticket that may follow, in 64 bits
abbrev pub next_least : ℕ → ℕ
next_least ticket = min (ticket + 1) (2 ^ 64 - 1)

-- the least tickets that those of a history may be
abbrev pub least_after : ℕ → List ℕ → List ℕ
least_after least [] = []
least_after least (ticket ∷ tickets) = least ∷ least_after (next_least ticket) tickets

abbrev pub leasts_on_locks : List LockHistory → List ℕ
leasts_on_locks histories = flat_map (λ (history : LockHistory). least_after 0 (tickets_of history.entries)) histories

-- the same, raised by what the steps of a strand want, and by those of all strands
abbrev pub raised : (StrandStep → ℕ) → List ℕ → ℕ → List StrandStep → List ℕ → List ℕ
raised number tickets least [] leasts = leasts
raised number tickets least (step ∷ steps) leasts =
    raised number tickets (next_least (slice_index_or tickets (number step) 0)) steps (set leasts (number step) (max (slice_index_or leasts (number step) 0) least))

abbrev pub raised_for_all : (StrandStep → ℕ) → List ℕ → List Strand → List ℕ → List ℕ
raised_for_all number tickets [] leasts = leasts
raised_for_all number tickets (strand ∷ strands) leasts = raised_for_all number tickets strands (raised number tickets 0 strand.steps leasts)

-- a ticket has no place in the table of used ones, is used, or is below the least
abbrev pub is_wrong : List Bool → ℕ → ℕ → Bool
is_wrong used ticket least = if nat_lt ticket (length used) then slice_index_or used ticket false || nat_lt ticket least else true

-- the number of the first ticket that is wrong, from a number on
abbrev pub first_wrong : ℕ → List Bool → List ℕ → List ℕ → Option ℕ
first_wrong number used [] leasts = None
first_wrong number used (ticket ∷ tickets) leasts =
    if is_wrong used ticket (slice_index_or leasts number 0) then Some number else first_wrong (suc number) (set used ticket true) tickets leasts
