use Rattle.std.proofs.Common.{true, eqb, get_or, ◌∙◌, arith}
use Rattle.place_words.specs.declared.visits.Try.{Try}
use Rattle.place_words.specs.Shrinking.{try_removed}
use Rattle.local_replay.specs.Walks.{spares_none}
use Rattle.local_replay.proofs.WalkSteps.{some_row, some_try, and_true, walk_past, walk_stop, walk_ends, walk_next, walk_whole}
use Rattle.local_replay.proofs.walks.is_unsparing.Goals as goal

pub returns-then-index-rows : goal.returns-then-index-rows
returns-then-index-rows c =
    walk_past (λ (x : Try). x.element) (λ (x : Try). true) try_removed c.args.rows.now c.args.tries.now c.loop-index.index some_try (spares_none c.args.rows.now c.args.tries.now) c.if-index-rows.true c.loop-index-test.true c.loop-index.invariant.left

pub returns-then-not-is_try_at : goal.returns-then-not-is_try_at
returns-then-not-is_try_at c =
    walk_stop (λ (x : Try). x.element) (λ (x : Try). true) try_removed c.args.rows.now c.args.tries.now c.loop-index.index some_try c.is_try_at.result (spares_none c.args.rows.now c.args.tries.now) (omega (arith, c.if-index-rows.false)) c.loop-index-test.true c.if-not-is_try_at.true (c.is_try_at.ensures some_row some_try ∙ and_true (eqb (get_or c.args.tries.now c.loop-index.index some_try).element (get_or c.args.rows.now c.loop-index.index some_row).element)) c.loop-index.invariant.left

pub returns-then-takes_at : goal.returns-then-takes_at
returns-then-takes_at c =
    walk_ends (λ (x : Try). x.element) (λ (x : Try). true) try_removed c.args.rows.now c.args.tries.now c.loop-index.index some_try c.is_try_at.result c.takes_at.result (spares_none c.args.rows.now c.args.tries.now) (omega (arith, c.if-index-rows.false)) c.loop-index-test.true c.if-not-is_try_at.false (c.is_try_at.ensures some_row some_try ∙ and_true (eqb (get_or c.args.tries.now c.loop-index.index some_try).element (get_or c.args.rows.now c.loop-index.index some_row).element)) c.if-takes_at.true (c.takes_at.ensures some_try) c.loop-index.invariant.left

pub loop-index-preserved : goal.loop-index-preserved
loop-index-preserved c = record {
  left = walk_next (λ (x : Try). x.element) (λ (x : Try). true) try_removed c.args.rows.now c.args.tries.now c.loop-index.index some_try c.is_try_at.result c.takes_at.result (spares_none c.args.rows.now c.args.tries.now) (omega (arith, c.if-index-rows.false)) c.loop-index-test.true c.if-not-is_try_at.false (c.is_try_at.ensures some_row some_try ∙ and_true (eqb (get_or c.args.tries.now c.loop-index.index some_try).element (get_or c.args.rows.now c.loop-index.index some_row).element)) c.if-takes_at.false (c.takes_at.ensures some_try) c.loop-index.invariant.left;
  within = omega (arith, c.if-index-rows.false);
}

pub returns : goal.returns
returns c = walk_whole (λ (x : Try). x.element) (λ (x : Try). true) try_removed c.args.rows.now c.args.tries.now c.loop-index.index (spares_none c.args.rows.now c.args.tries.now) c.loop-index.invariant.within (omega (arith, c.loop-index-test.false, c.loop-index.auto.index-end)) c.loop-index.invariant.left
