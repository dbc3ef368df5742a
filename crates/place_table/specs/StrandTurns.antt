-- How the turns of a lock are shared out among strands, with their places in the lock's history.
use Rattle.std.specs.Prelude.{◌≡◌, ℕ, suc, ◌<◌, ◌==◌, true, List, [], ◌∷◌, length, Some, slice_get, if◌then◌else◌}
use Rattle.place_words.specs.declared.history.Entry.{Entry}
use Rattle.place_table.specs.declared.view.Ended.{Ended}
use Rattle.place_table.specs.Rules.{turns_on}
use Rattle.place_table.specs.Views.{is_among}

-- the entries of a history with their places in it
abbrev pub numbered : ℕ → List Entry → List (ℕ × Entry)
numbered place [] = []
numbered place (entry ∷ entries) = (place, entry) ∷ numbered (suc place) entries

-- of some turns with their places those that belong to this strand, by its place among the strands
abbrev pub turns_by : (ℕ → ℕ) → ℕ → List (ℕ × Entry) → List (ℕ × Entry)
turns_by strand_at n [] = []
turns_by strand_at n (turn ∷ turns) =
    if strand_at turn.0 == n then turn ∷ turns_by strand_at n turns else turns_by strand_at n turns

-- The turns of a lock are those of the strands: each is a turn of exactly one strand, which has the CPU of the entry, and each
-- strand has its turns in order.
pub record AreTurnsOf (k : ℕ) (strands : List Ended) (log : List Entry) : Type 0 where
  -- of a place in the history: the strand, by its place among them
  pub strand_at : ℕ → ℕ
  pub within : (place : ℕ) → place < length log → strand_at place < length strands
  pub has_cpu : (place : ℕ) (entry : Entry) (strand : Ended) → slice_get log place ≡ Some entry → slice_get strands (strand_at place) ≡ Some strand → is_among entry.cpu strand.cpus ≡ true
  pub turns : (n : ℕ) (strand : Ended) → slice_get strands n ≡ Some strand → turns_on k strand.steps ≡ turns_by strand_at n (numbered 0 log)
