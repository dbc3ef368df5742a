use Rattle.place_table.proofs.Flags.{added_none, added_more, added_all}
use Rattle.place_table.proofs.cpus.add_cpus.Goals as goal

pub loop-cpu-init : goal.loop-cpu-init
loop-cpu-init c = added_none c.args.cpus.now c.args.others.now c.told-cpus

pub loop-cpu-preserved : goal.loop-cpu-preserved
loop-cpu-preserved c = added_more c.args.cpus.now c.args.others.now c.loop-cpu.cpus c.loop-cpu.cpu c.loop-cpu-test.true c.loop-cpu.invariant

pub returns : goal.returns
returns c = λ first second. added_all c.args.cpus.now c.args.others.now c.loop-cpu.cpus c.loop-cpu.cpu first second c.loop-cpu-test.false c.loop-cpu.invariant
