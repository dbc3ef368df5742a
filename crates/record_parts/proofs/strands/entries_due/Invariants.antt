use Rattle.std.specs.Prelude.{◌≡◌, slice_index_or, take}
use Rattle.std.specs.List.{sum_by}
use Rattle.record_parts.specs.StrandTables.{cell}
use Rattle.record_parts.proofs.strands.entries_due.Given as goal

abbrev pub invariant-loop-cpu : goal.invariant-loop-cpu
invariant-loop-cpu l = l.due ≡ sum_by (λ cpu. slice_index_or l.counts (cell l.strand.phase cpu) 0) (take l.cpu-index l.cpus)
