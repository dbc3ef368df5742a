use Rattle.std.specs.Prelude.{◌≡◌, ◌==◌, ◌||◌, ℕ, false, length, slice_index_or, take}
use Rattle.std.specs.List.{list_any}
use Rattle.record_parts.specs.StrandTables.{cell}
use Rattle.record_parts.proofs.strands.meet.Given as goal

abbrev pub invariant-loop-cpu : goal.invariant-loop-cpu
invariant-loop-cpu l = (length l.met.items ≡ length l.fn.met.items)
    × ((k : ℕ) → slice_index_or l.met.items k false ≡ (slice_index_or l.fn.met.items k false || list_any (λ cpu. cell l.strand.phase cpu == k) (take l.cpu-index l.cpus)))
