use Rattle.std.specs.Prelude.{◌≡◌, ◌<◌, ℕ, false, length, map, slice_index_or, take}
use Rattle.place_words.specs.Takings.{ends_flushed}
use Rattle.call_check.specs.Moved.{entry_of}
use Rattle.call_check.proofs.moved.move_all.Given as goal

abbrev pub invariant-loop-at : goal.invariant-loop-at
invariant-loop-at l = (length l.table.items ≡ length l.fn.table.items)
    × ((e : ℕ) → e < length l.fn.table.items → slice_index_or l.table.items e false ≡ ends_flushed e (slice_index_or l.fn.table.items e false) (map (entry_of l.entries) (take l.at-index l.order)))
