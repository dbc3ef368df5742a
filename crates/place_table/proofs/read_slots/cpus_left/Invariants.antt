use Rattle.std.proofs.Common.{◌≡◌, false, get_or}
use Rattle.std.specs.Prelude.{filter}
use Rattle.std.specs.List.{range_with_len}
use Rattle.place_table.proofs.read_slots.cpus_left.Given as goal

-- those of the CPUs so far
abbrev pub invariant-loop-cpu : goal.invariant-loop-cpu
invariant-loop-cpu l = l.cpus.items ≡ filter (λ cpu. get_or l.flags cpu false) (range_with_len 0 l.cpu)
