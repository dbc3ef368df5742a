use Rattle.elem_walk.proofs.Copies.{handed_more}
use Rattle.elem_walk.proofs.walk.copy_all.Goals as goal

pub loop-place-preserved : goal.loop-place-preserved
loop-place-preserved c =
    handed_more c.args.shape.now c.args.cpu c.args.chain.now.bodies c.loop-place.place c.body_at.result.now c.requires.sized c.body_at.ensures c.args.over.now c.loop-place.over c.add.new.self c.loop-place.invariant c.add.ensures
