use Rattle.std.proofs.Common.{◌≡◌, [], ◌∷◌, ◌++◌, rules}
use Rattle.workload_gen.specs.Generated.{round_call}
use Rattle.workload_gen.proofs.Numbered.{one_more}
use Rattle.workload_gen.proofs.mixes.round_calls.Goals as goal

pub loop-i-preserved : goal.loop-i-preserved
loop-i-preserved c =
    let pushed : c.push.new.self.items ≡ c.loop-i.calls.items ++ c.in_ok-call.call ∷ [] = search rules in
    one_more (round_call c.args.shape.now c.args.spec.now) c.loop-i.i _ _ _ c.loop-i.invariant c.in_ok-call.ensures pushed
