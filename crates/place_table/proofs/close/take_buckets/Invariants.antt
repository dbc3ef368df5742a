use Rattle.std.proofs.Common.{◌≡◌, ℕ, ◌+◌, ◌≤◌, ◌++◌, Bool, length, map, take, vec_capacity}
use Rattle.std.specs.Prelude.{OnOk}
use Rattle.std.specs.Slots.{slots_filled, slots_len, slots_items}
use Rattle.place_words.specs.Locks.{first_bucket}
use Rattle.place_table.specs.declared.content.Behind.{Behind}
use Rattle.place_table.specs.Leaving.{Logs, bodies_in, HaveHistories, AreCounts, AreTaken}
use Rattle.place_table.proofs.close.take_buckets.Given as goal

-- the slots of the buckets so far
abbrev pub invariant-loop-bucket : goal.invariant-loop-bucket
invariant-loop-bucket l = record {
  same : slots_items l.closed.slots ≡ slots_items l.fn.closed.slots;
  count : slots_len l.closed.slots ≡ slots_len l.fn.closed.slots;
  taken : AreTaken (first_bucket l.shape + l.bucket) (slots_filled l.closed.slots);
  buckets : OnOk l.copied (take (first_bucket l.shape + l.bucket) (map (λ (behind : Behind). bodies_in behind.content) (slots_items l.fn.closed.slots))
      ≡ take (first_bucket l.shape) (map (λ (behind : Behind). bodies_in behind.content) (slots_items l.fn.closed.slots)) ++ l.buckets.items);
  many : length l.buckets.items ≤ l.bucket;
  room : vec_capacity l.buckets ≡ vec_capacity l.fn.buckets;
  room_for_counts : vec_capacity l.counts ≡ vec_capacity l.fn.counts;
  counts : (log : Logs) (lost : ℕ → Bool) → HaveHistories l.shape log lost (map (λ (behind : Behind). behind.history) (slots_items l.fn.closed.slots)) → AreCounts l.shape log lost l.bucket l.counts.items;
  counted : length l.counts.items ≡ l.bucket;
}
