use Rattle.place_table.proofs.JoinedSpares.{joined_none, joined_more, joined_all}
use Rattle.place_table.proofs.spares.join_spares.Goals as goal

pub loop-cpu-init : goal.loop-cpu-init
loop-cpu-init c = joined_none c.args.ours.now c.args.theirs.now

pub loop-cpu-preserved : goal.loop-cpu-preserved
loop-cpu-preserved c = joined_more c.args.ours.now c.args.theirs.now c.loop-cpu.cpu _ _ _ _ c.loop-cpu.invariant c.join_spare.ensures.here c.join_spare.ensures.others.0 c.join_spare.ensures.others.1

pub returns : goal.returns
returns c = joined_all c.args.ours.now c.args.theirs.now c.loop-cpu.cpu c.loop-cpu.ours c.loop-cpu.theirs c.told-ours c.told-theirs c.loop-cpu-test.false c.loop-cpu.invariant
