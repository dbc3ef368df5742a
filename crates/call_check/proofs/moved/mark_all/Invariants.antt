use Rattle.std.specs.Prelude.{◌≡◌, ◌<◌, ℕ, false, length, slice_index_or, take, true, if◌then◌else◌}
use Rattle.place_words.specs.Takings.{has_visit}
use Rattle.call_check.proofs.moved.mark_all.Given as goal

abbrev pub invariant-loop-visit : goal.invariant-loop-visit
invariant-loop-visit l = (length l.table.items ≡ length l.fn.table.items)
    × ((e : ℕ) → e < length l.fn.table.items → slice_index_or l.table.items e false ≡ (if has_visit e (take l.visit-index l.flushed) then true else slice_index_or l.fn.table.items e false))
