use Rattle.std.proofs.Common.{◌≡◌, ℕ, ◌+◌, ◌≤◌, ◌++◌, Bool, length, map, take, vec_capacity}
use Rattle.std.specs.Slots.{slots_filled, slots_len, slots_items}
use Rattle.place_table.specs.declared.content.Behind.{Behind}
use Rattle.place_table.specs.Leaving.{Logs, HaveHistories, AreKept, AreTaken}
use Rattle.place_table.proofs.close.take_lists.Given as goal

-- the slots so far
abbrev pub invariant-loop-slot : goal.invariant-loop-slot
invariant-loop-slot l = record {
  same : slots_items l.closed.slots ≡ slots_items l.fn.closed.slots;
  count : slots_len l.closed.slots ≡ slots_len l.fn.closed.slots;
  taken : AreTaken l.slot (slots_filled l.closed.slots);
  contents : take l.slot (map (λ (behind : Behind). behind.content) (slots_items l.fn.closed.slots))
      ≡ take l.first (map (λ (behind : Behind). behind.content) (slots_items l.fn.closed.slots)) ++ l.contents.items;
  so_many : l.first + length l.contents.items ≡ l.slot;
  room : l.past ≤ l.first + vec_capacity l.contents;
  histories : (log : Logs) (lost : ℕ → Bool) → HaveHistories l.shape log lost (map (λ (behind : Behind). behind.history) (slots_items l.fn.closed.slots))
      → AreKept l.shape log lost l.first l.fn.histories.kept.items l.fn.histories.lost → AreKept l.shape log lost l.slot l.histories.kept.items l.histories.lost;
  room_for_histories : vec_capacity l.histories.kept ≡ vec_capacity l.fn.histories.kept;
  few : length l.histories.kept.items ≤ l.slot;
}
