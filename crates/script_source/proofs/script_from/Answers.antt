use Rattle.std.proofs.Common.{arith}
use Rattle.std.proofs.lemmas.Grind.{common_steps}
use Rattle.run_ends.proofs.Io.{TakesUpTo-none}
use Rattle.script_source.proofs.SoFar.{none_so_far, more_so_far, all_so_far, bounded_more, bounded_so_far, long_so_far, feeds_fit}
use Rattle.script_source.proofs.script_from.Goals as goal

pub loop-taken-init : goal.loop-taken-init
loop-taken-init g c = record {
  so_far = none_so_far (g.S.Source.left c.args.source.now) c.args.form c.in-Ok.reader c.in-Ok.ensures.empty c.in-Ok.ensures.line_feeds;
  fits = omega arith;
  faults = omega arith;
}

pub loop-taken-preserved : goal.loop-taken-preserved
loop-taken-preserved g c =
    let p = c.in_ok-count.ensures.fed in record {
      so_far = more_so_far _ _ _ _ _ _ _ p.0 c.in_ok-count.count c.loop-taken.invariant.so_far p.1 p.2 p.3;
      fits = grind (arith, common_steps, c.in_ok-count.ensures.fits);
      faults = grind arith;
    }

pub feed_more-requires : goal.feed_more-requires
feed_more-requires g c = feeds_fit _ c.loop-taken.invariant.so_far c.loop-taken-test.true (grind (arith, common_steps))

pub returns-then-count-eq0-clause-whole : goal.returns-then-count-eq0-clause-whole
returns-then-count-eq0-clause-whole g c =
    let p = c.in_ok-count.ensures.fed in
    all_so_far _ _ _ _ _ _ _ p.0 _ c.in_ok-count.count c.finish.result c.loop-taken.invariant.so_far c.loop-taken-test.true p.1 p.2 p.3 (grind (arith, common_steps)) c.in_ok-count.ensures.end c.if-count-eq0.true
    (λ form bytes stands. c.finish.ensures.exact form bytes stands)

pub returns-then-count-eq0-clause-bounded : goal.returns-then-count-eq0-clause-bounded
returns-then-count-eq0-clause-bounded g c = bounded_more _ _ _ _ _ c.feed_more.new.reader _ _ c.loop-taken.invariant.so_far (grind (arith, common_steps)) c.feed_more.ensures.bounded

pub returns-in_err-count-clause-bounded : goal.returns-in_err-count-clause-bounded
returns-in_err-count-clause-bounded g c = bounded_more _ _ _ _ _ c.feed_more.new.reader _ _ c.loop-taken.invariant.so_far (grind (arith, common_steps)) c.feed_more.ensures.bounded

pub returns-in_err-block-clause-bounded : goal.returns-in_err-block-clause-bounded
returns-in_err-block-clause-bounded g c = TakesUpTo-none (g.S.Source.left c.args.source.now) 16777217

pub returns-in_default-clause-bounded : goal.returns-in_default-clause-bounded
returns-in_default-clause-bounded g c = TakesUpTo-none (g.S.Source.left c.args.source.now) 16777217

pub returns-clause-bounded : goal.returns-clause-bounded
returns-clause-bounded g c = bounded_so_far c.loop-taken.invariant.so_far c.loop-taken.invariant.fits

pub returns-clause-too_long : goal.returns-clause-too_long
returns-clause-too_long g c = λ _. long_so_far c.loop-taken.invariant.so_far (omega (arith, c.loop-taken.invariant.fits, c.loop-taken-test.false))
