use Rattle.std.proofs.Common.{◌≡◌, ℕ, ◌+◌, ◌≤◌, Bool, length, vec_capacity}
use Rattle.place_table.specs.Leaving.{Logs, AreKept, HaveTurnsFrom}
use Rattle.place_table.proofs.close.keep_turns.Given as goal

-- the histories so far
abbrev pub invariant-loop-history : goal.invariant-loop-history
invariant-loop-history l =
    (goal.iterator-loop-history).can_next l.history-iterator
    × (goal.iterator-loop-history).is_finite l.history-iterator
    × (l.number ≡ l.first + length l.yielded)
    × (vec_capacity l.histories.kept ≡ vec_capacity l.fn.histories.kept)
    × (length l.histories.kept.items ≤ l.number)
    × ((log : Logs) (lost : ℕ → Bool) → HaveTurnsFrom l.shape log lost l.first l.fn.turns.items
    → AreKept l.shape log lost l.first l.fn.histories.kept.items l.fn.histories.lost
    → AreKept l.shape log lost l.number l.histories.kept.items l.histories.lost)
