use Rattle.std.specs.Prelude.{◌≡◌, map}
use Rattle.std.specs.List.{range_with_len}
use Rattle.call_check.specs.RightCalls.{spare_last}
use Rattle.call_check.proofs.spares.last_spares.Given as goal

abbrev pub invariant-loop-cpu : goal.invariant-loop-cpu
invariant-loop-cpu l = l.left.items ≡ map (spare_last l.script.cuts l.script.shape l.histories) (range_with_len 0 l.cpu)
