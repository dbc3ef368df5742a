use Rattle.std.proofs.Common.{arith}
use Rattle.set_replay.proofs.ShrinkLemmas.{seens_step}
use Rattle.set_replay.proofs.shrinking.seens_of.Goals as goal

pub loop-look-preserved : goal.loop-look-preserved
loop-look-preserved c =
    seens_step c.args.looks.now c.loop-look.look-index _ c.loop-look.seens.items c.add_seen.new.seens.items c.in_ok-add_seen.ensures c.loop-look.invariant
    (omega (arith, c.loop-look-test.true, c.loop-look.auto.look-index-end))
