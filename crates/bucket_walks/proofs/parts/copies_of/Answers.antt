use Rattle.bucket_walks.proofs.Gathered.{copies_more}
use Rattle.bucket_walks.proofs.parts.copies_of.Goals as goal

pub loop-place-preserved : goal.loop-place-preserved
loop-place-preserved c =
    copies_more c.args.shape.now c.args.cpu c.args.chain.now.bodies c.loop-place.place c.body_at.result.now c.body_at.ensures c.loop-place.copies.items c.push.new.self.items c.in_ok-copy_of.field-0 c.loop-place.invariant c.in_ok-copy_of.ensures c.in_ok-push.ensures.items
