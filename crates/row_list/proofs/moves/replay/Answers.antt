use Rattle.row_list.proofs.MoveLemmas.{room_to_push}
use Rattle.row_list.proofs.moves.replay.Goals as goal

pub push_head-requires-clause-room : goal.push_head-requires-clause-room
push_head-requires-clause-room g c =
    let list = c.loop-step.rows in
    room_to_push (g.R.Rows.bound list) (g.R.Rows.rows list) c.args.moves.now c.loop-step.step-index _ c.in-Push.row (g.met.R.Rows.whole list) c.loop-step.invariant.can c.loop-step-test.true c.in-Push.is
