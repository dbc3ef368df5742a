use Rattle.std.proofs.Common.{sym, arith}
use Rattle.local_replay.proofs.WalkLaws.{visits_short, visits_next, visits_stop, visits_end}
use Rattle.local_replay.specs.Walks.{visits_are}
use Rattle.local_replay.proofs.allowed.visits_all.Goals as goal

pub returns-then-visits-rows : goal.returns-then-visits-rows
returns-then-visits-rows c = sym (visits_short c.args.rows.now c.args.visits.now c.if-visits-rows.true)

pub returns-then-not-is_visited_at : goal.returns-then-not-is_visited_at
returns-then-not-is_visited_at c =
    visits_stop c.args.rows.now c.args.visits.now c.loop-index.index c.is_visited_at.result (visits_are c.args.rows.now c.args.visits.now) c.loop-index-test.true c.if-visits-rows.false c.if-not-is_visited_at.true
    c.is_visited_at.ensures c.loop-index.invariant

pub loop-index-preserved : goal.loop-index-preserved
loop-index-preserved c =
    visits_next c.args.rows.now c.args.visits.now c.loop-index.index c.is_visited_at.result (visits_are c.args.rows.now c.args.visits.now) c.loop-index-test.true c.if-visits-rows.false c.if-not-is_visited_at.false
    c.is_visited_at.ensures c.loop-index.invariant

pub returns : goal.returns
returns c =
    visits_end c.args.rows.now c.args.visits.now c.loop-index.index (visits_are c.args.rows.now c.args.visits.now) (omega (arith, c.loop-index-test.false)) c.if-visits-rows.false c.loop-index.invariant
