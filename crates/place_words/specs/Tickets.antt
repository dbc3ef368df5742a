-- Tickets: each turn that is recorded draws one from one count while its lock is still held. So all entries of a run stand in one
-- order, that of their draws, whatever locks they are of. On one lock, and along one strand, it is the order in which locks were
-- given back.
use Rattle.std.specs.Prelude.{ℕ, suc, ◌≤◌, All, IsPermutation, List, [], ◌∷◌, length, map, slice_index_or}
use Rattle.std.specs.List.{flat_map, range_with_len}
use Rattle.place_words.specs.declared.history.Entry.{Entry}
use Rattle.place_words.specs.declared.history.LockHistory.{LockHistory}
use Rattle.place_words.specs.declared.history.Strand.{Strand}
use Rattle.place_words.specs.declared.history.StrandStep.{StrandStep}
use Rattle.place_words.specs.Named.{entries_of}

-- each of these numbers is above the one before it, the first is at least `from`, and all are below `to`, which isn't below `from`
abbrev pub AscendIn : ℕ → List ℕ → ℕ → Type 0
AscendIn from [] to = from ≤ to
AscendIn from (x ∷ xs) to = (from ≤ x) × AscendIn (suc x) xs to

-- the tickets of some entries
abbrev pub tickets_of : List Entry → List ℕ
tickets_of [] = []
tickets_of (entry ∷ entries) = entry.ticket ∷ tickets_of entries

-- the entries of all locks
abbrev pub all_entries : List LockHistory → List Entry
all_entries histories = flat_map (λ (history : LockHistory). history.entries) histories

-- the ticket of the entry that a step of a strand names, 0 where it names none
abbrev pub ticket_at : List LockHistory → StrandStep → ℕ
ticket_at histories step = slice_index_or (tickets_of (entries_of histories step.lock)) step.index 0

-- The tickets of all entries are the numbers below the number of entries, each once. They ascend in each history and in each strand.
pub record AreTicketed (histories : List LockHistory) (strands : List Strand) : Type 0 where
  pub each_once : IsPermutation (range_with_len 0 (length (all_entries histories))) (tickets_of (all_entries histories))
  pub in_histories : All (λ (history : LockHistory). AscendIn 0 (tickets_of history.entries) (length (all_entries histories))) histories
  pub in_strands : All (λ (strand : Strand). AscendIn 0 (map (ticket_at histories) strand.steps) (length (all_entries histories))) strands
