use Rattle.std.specs.Prelude.{◌≡◌, ◌<◌, ℕ, false, length, slice_index_or}
use Rattle.call_check.specs.Moved.{MovedTo, entry_of, was_gone}
use Rattle.call_check.specs.declared.moved.Ticketed.{Ticketed}
use Rattle.call_check.proofs.moved.were_gone.Given as goal

abbrev pub invariant-loop-at : goal.invariant-loop-at
invariant-loop-at l = MovedTo l.elements l.entries l.order.items l.at l.moved l.table.items × (length l.gone.items ≡ length l.entries)
    × ((k : ℕ) (d : Ticketed) → k < l.at → slice_index_or l.gone.items (slice_index_or l.order.items k d).place false ≡ was_gone l.entries (entry_of l.entries (slice_index_or l.order.items k d)))
