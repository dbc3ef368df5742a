use Rattle.bucket_walks.proofs.Gathered.{pairs_more}
use Rattle.bucket_walks.proofs.whole.read_all.Goals as goal

pub loop-place-preserved : goal.loop-place-preserved
loop-place-preserved c =
    pairs_more c.args.shape.now c.args.cpu c.args.chain.now.bodies c.loop-place.place c.body_at.result.now c.body_at.ensures c.args.out.now c.loop-place.out c.add.new.self c.loop-place.invariant c.add.ensures
