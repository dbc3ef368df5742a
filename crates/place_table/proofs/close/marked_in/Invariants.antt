use Rattle.std.proofs.Common.{◌≡◌, ℕ, ◌+◌, ◌<◌, Bool, get_or}
use Rattle.std.specs.Prelude.{filter}
use Rattle.std.specs.List.{range_with_len}
use Rattle.std.specs.Slots.{slots_items}
use Rattle.map_types.specs.ElementLists.{one}
use Rattle.place_table.proofs.close.marked_in.Given as goal

-- those of the elements so far
abbrev pub invariant-loop-element : goal.invariant-loop-element
invariant-loop-element l =
    (bit : ℕ → Bool) → ((e : ℕ) → e < l.elements → get_or (slots_items l.closed.words) (l.first + e) 0 ≡ one (bit e)) → l.marked.items ≡ filter bit (range_with_len 0 l.element)
