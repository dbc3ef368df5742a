use Rattle.std.specs.Prelude.{◌≡◌, ◌==◌, ℕ, length, slice_index_or, take, if◌then◌else◌}
use Rattle.std.specs.List.{list_any}
use Rattle.call_check.specs.StrandPlaces.{cell}
use Rattle.call_check.proofs.strand_of.write_cpus.Given as goal

abbrev pub invariant-loop-cpu : goal.invariant-loop-cpu
invariant-loop-cpu l = (length l.table.items ≡ length l.fn.table.items)
    × ((k : ℕ) → slice_index_or l.table.items k 0 ≡ (if list_any (λ cpu. cell l.strand.phase cpu == k) (take l.cpu-index l.cpus) then l.place else slice_index_or l.fn.table.items k 0))
