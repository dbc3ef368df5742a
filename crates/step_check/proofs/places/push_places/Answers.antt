use Rattle.std.proofs.Common.{arith}
use Rattle.step_check.proofs.AllPlaces.{place_more}
use Rattle.step_check.proofs.places.push_places.Goals as goal

pub loop-index-preserved : goal.loop-index-preserved
loop-index-preserved c =
    place_more c.args.history c.loop-index.index c.args.entries.now c.loop-index.places.items c.push.new.self.items _ (omega (arith, c.loop-index-test.true, c.len-index-end.ensures)) c.in_ok-push.ensures.items c.loop-index.invariant
