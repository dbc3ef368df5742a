use Rattle.std.specs.Prelude.{◌≡◌, ◌<◌, ℕ, true, false, slice_index_or}
use Rattle.record_parts.specs.StrandTables.{cell}
use Rattle.record_parts.proofs.strands.all_met.Given as goal

abbrev pub invariant-loop-phase : goal.invariant-loop-phase
invariant-loop-phase l = (phase cpu : ℕ) → phase < l.phase → cpu < l.cpus → slice_index_or l.met (cell phase cpu) false ≡ true

abbrev pub invariant-loop-cpu : goal.invariant-loop-cpu
invariant-loop-cpu l = (cpu : ℕ) → cpu < l.cpu → slice_index_or l.met (cell l.phase cpu) false ≡ true
