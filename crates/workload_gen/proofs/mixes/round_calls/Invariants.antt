use Rattle.std.specs.Prelude.{◌≡◌, map}
use Rattle.std.specs.List.{range_with_len}
use Rattle.workload_gen.specs.Generated.{round_call}
use Rattle.workload_gen.proofs.mixes.round_calls.Given as goal

abbrev pub invariant-loop-i : goal.invariant-loop-i
invariant-loop-i l = l.calls.items ≡ map (round_call l.shape l.spec) (range_with_len 0 l.i)
