use Rattle.std.specs.Prelude.{◌≡◌, ◌+◌, ◌==◌, ℕ, count_by, length, slice_index_or, take}
use Rattle.record_parts.specs.StrandTables.{cell_of}
use Rattle.record_parts.proofs.strands.count_each.Given as goal

abbrev pub invariant-loop-index : goal.invariant-loop-index
invariant-loop-index l = (length l.counts.items ≡ length l.fn.counts.items)
    × ((k : ℕ) → slice_index_or l.counts.items k 0 ≡ slice_index_or l.fn.counts.items k 0 + count_by (λ entry. cell_of l.cuts entry == k) (take l.index l.entries))
