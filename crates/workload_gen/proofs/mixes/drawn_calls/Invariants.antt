use Rattle.std.specs.Prelude.{◌≡◌, ◌*◌, map}
use Rattle.std.specs.List.{range_with_len}
use Rattle.workload_gen.specs.Draws.{state_after}
use Rattle.workload_gen.specs.Generated.{drawn_call}
use Rattle.workload_gen.proofs.mixes.drawn_calls.Given as goal

abbrev pub invariant-loop-i : goal.invariant-loop-i
invariant-loop-i l = record {
  so_far : l.calls.items ≡ map (drawn_call l.shape l.spec) (range_with_len 0 l.i);
  drawn : l.draws.state ≡ state_after l.spec.seed (3 * l.i);
}
