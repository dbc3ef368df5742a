use Rattle.std.specs.Prelude.{◌≡◌, false, slice_index_or, take}
use Rattle.std.specs.List.{list_any}
use Rattle.record_parts.specs.StrandTables.{cell}
use Rattle.record_parts.proofs.strands.has_met.Given as goal

abbrev pub invariant-loop-cpu : goal.invariant-loop-cpu
invariant-loop-cpu l = list_any (λ cpu. slice_index_or l.met (cell l.strand.phase cpu) false) (take l.cpu-index l.cpus) ≡ false
