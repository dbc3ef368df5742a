use Rattle.std.proofs.Common.{◌≡◌, [], ◌∷◌, ◌++◌, rules}
use Rattle.workload_gen.specs.Generated.{drawn_call}
use Rattle.workload_gen.proofs.Numbered.{one_more}
use Rattle.workload_gen.proofs.mixes.drawn_calls.Goals as goal

pub loop-i-preserved : goal.loop-i-preserved
loop-i-preserved c =
    let pushed : c.push.new.self.items ≡ c.loop-i.calls.items ++ c.in_ok-call.call ∷ [] = search rules in
    record {
      so_far = one_more (drawn_call c.args.shape.now c.args.spec.now) c.loop-i.i _ _ _ c.loop-i.invariant.so_far c.in_ok-call.ensures.call pushed;
      drawn = c.drawn_call.ensures.drawn;
    }
