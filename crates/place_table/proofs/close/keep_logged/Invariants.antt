use Rattle.std.proofs.Common.{◌≡◌, ℕ, ◌+◌, ◌≤◌, Bool, length, vec_capacity}
use Rattle.map_types.specs.declared.attr.Shape.{Shape}
use Rattle.place_words.specs.Locks.{first_bucket}
use Rattle.place_table.specs.Leaving.{Logs, AreCounts, AreKept, TellTurns}
use Rattle.place_table.proofs.close.keep_logged.Given as goal

-- those of the buckets so far
abbrev pub invariant-loop-bucket : goal.invariant-loop-bucket
invariant-loop-bucket l = record {
  kept : (shape : Shape) (log : Logs) (lost : ℕ → Bool) → AreCounts shape log lost shape.buckets l.counts → TellTurns shape log lost l.fn.logs.items
      → AreKept shape log lost (first_bucket shape) l.fn.histories.kept.items l.fn.histories.lost → AreKept shape log lost (first_bucket shape + l.bucket) l.histories.kept.items l.histories.lost;
  room : vec_capacity l.histories.kept ≡ vec_capacity l.fn.histories.kept;
  few : length l.histories.kept.items ≤ length l.fn.histories.kept.items + l.bucket;
}
