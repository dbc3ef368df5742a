use Rattle.std.proofs.Common.{arith}
use Rattle.run_records.proofs.BitsSeen.{saw_none, saw_more}
use Rattle.map_run.proofs.phases.marked_elements.Goals as goal

pub loop-element-init : goal.loop-element-init
loop-element-init c = saw_none c.args.pass.now c.new-marked.result.items c.new-marked.ensures.items

pub loop-element-preserved : goal.loop-element-preserved
loop-element-preserved c =
    saw_more c.loop-element.element _ c.args.pass.now c.loop-element.pass c.bit_of-bit.new.pass c.loop-element.marked.items c.add_marked.new.marked.items c.bit_of-bit.result (omega arith) c.requires.all_cpus c.loop-element.invariant c.bit_of-bit.ensures c.in_ok-add_marked.ensures
