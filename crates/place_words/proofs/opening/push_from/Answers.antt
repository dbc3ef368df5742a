use Rattle.std.proofs.Common.{arith}
use Rattle.place_words.proofs.StartLemmas.{push_more}
use Rattle.place_words.proofs.opening.push_from.Goals as goal

pub loop-left-preserved : goal.loop-left-preserved
loop-left-preserved c = record {
  few = omega (arith, c.loop-left.invariant.few);
  same = push_more c.args.first c.loop-left.left c.loop-left.list.items c.push.new.self.items _ c.loop-left-test.true c.in_ok-push.ensures.items c.loop-left.invariant.same;
}
