use Rattle.std.proofs.Common.{arith}
use Rattle.place_words.specs.declared.visits.Look.{Look}
use Rattle.place_words.specs.Shrinking.{look_removed}
use Rattle.local_replay.specs.Walks.{is_probed, spares}
use Rattle.local_replay.proofs.WalkSteps.{some_row, some_look, walk_past, walk_stop, walk_ends, walk_next, walk_whole}
use Rattle.local_replay.proofs.walks.is_sparing.Goals as goal

pub returns-then-index-rows : goal.returns-then-index-rows
returns-then-index-rows c =
    walk_past (λ (x : Look). x.element) is_probed look_removed c.args.rows.now c.args.looks.now c.loop-index.index some_look (spares c.args.rows.now c.args.looks.now) c.if-index-rows.true c.loop-index-test.true c.loop-index.invariant.left

pub returns-then-not-is_look_at : goal.returns-then-not-is_look_at
returns-then-not-is_look_at c =
    walk_stop (λ (x : Look). x.element) is_probed look_removed c.args.rows.now c.args.looks.now c.loop-index.index some_look c.is_look_at.result (spares c.args.rows.now c.args.looks.now) (omega (arith, c.if-index-rows.false)) c.loop-index-test.true c.if-not-is_look_at.true (c.is_look_at.ensures some_row some_look) c.loop-index.invariant.left

pub returns-then-removes_at : goal.returns-then-removes_at
returns-then-removes_at c =
    walk_ends (λ (x : Look). x.element) is_probed look_removed c.args.rows.now c.args.looks.now c.loop-index.index some_look c.is_look_at.result c.removes_at.result (spares c.args.rows.now c.args.looks.now) (omega (arith, c.if-index-rows.false)) c.loop-index-test.true c.if-not-is_look_at.false (c.is_look_at.ensures some_row some_look) c.if-removes_at.true (c.removes_at.ensures some_look) c.loop-index.invariant.left

pub loop-index-preserved : goal.loop-index-preserved
loop-index-preserved c = record {
  left = walk_next (λ (x : Look). x.element) is_probed look_removed c.args.rows.now c.args.looks.now c.loop-index.index some_look c.is_look_at.result c.removes_at.result (spares c.args.rows.now c.args.looks.now) (omega (arith, c.if-index-rows.false)) c.loop-index-test.true c.if-not-is_look_at.false (c.is_look_at.ensures some_row some_look) c.if-removes_at.false (c.removes_at.ensures some_look) c.loop-index.invariant.left;
  within = omega (arith, c.if-index-rows.false);
}

pub returns : goal.returns
returns c = walk_whole (λ (x : Look). x.element) is_probed look_removed c.args.rows.now c.args.looks.now c.loop-index.index (spares c.args.rows.now c.args.looks.now) c.loop-index.invariant.within (omega (arith, c.loop-index-test.false, c.loop-index.auto.index-end)) c.loop-index.invariant.left
