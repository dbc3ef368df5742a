use Rattle.std.proofs.Common.{◌≡◌, ◌+◌, ◌≤◌, ◌++◌, length, map, take, vec_capacity}
use Rattle.std.specs.Slots.{slots_filled, slots_len, slots_items}
use Rattle.place_table.specs.declared.content.Behind.{Behind}
use Rattle.place_table.specs.Leaving.{AreTaken}
use Rattle.place_table.proofs.close.take_behind.Given as goal

-- the slots so far
abbrev pub invariant-loop-slot : goal.invariant-loop-slot
invariant-loop-slot l = record {
  same : slots_items l.closed.slots ≡ slots_items l.fn.closed.slots;
  count : slots_len l.closed.slots ≡ slots_len l.fn.closed.slots;
  taken : AreTaken l.slot (slots_filled l.closed.slots);
  contents : take l.slot (map (λ (behind : Behind). behind.content) (slots_items l.fn.closed.slots))
      ≡ take l.first (map (λ (behind : Behind). behind.content) (slots_items l.fn.closed.slots)) ++ l.contents.items;
  turns : take l.slot (map (λ (behind : Behind). behind.history) (slots_items l.fn.closed.slots))
      ≡ take l.first (map (λ (behind : Behind). behind.history) (slots_items l.fn.closed.slots)) ++ l.turns.items;
  so_many : l.first + length l.contents.items ≡ l.slot;
  so_many_turns : l.first + length l.turns.items ≡ l.slot;
  room : l.past ≤ l.first + vec_capacity l.contents;
  room_for_turns : l.past ≤ l.first + vec_capacity l.turns;
}
