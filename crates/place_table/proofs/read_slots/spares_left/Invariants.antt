use Rattle.std.proofs.Common.{◌≡◌}
use Rattle.place_table.proofs.Leaves.{spares_below}
use Rattle.place_table.proofs.read_slots.spares_left.Given as goal

-- those of the CPUs so far
abbrev pub invariant-loop-cpu : goal.invariant-loop-cpu
invariant-loop-cpu l = l.elements.items ≡ spares_below l.spares l.cpu
