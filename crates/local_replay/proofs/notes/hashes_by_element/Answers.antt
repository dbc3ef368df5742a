use Rattle.local_replay.proofs.NoteLaws.{hashes_more}
use Rattle.local_replay.proofs.notes.hashes_by_element.Goals as goal

pub loop-row-preserved : goal.loop-row-preserved
loop-row-preserved c = hashes_more c.args.rows.now c.loop-row.row-index _ c.loop-row.hashes c.insert.new.self c.loop-row-test.true c.loop-row.invariant c.in_ok-insert.ensures.updates
