use Rattle.std.proofs.Common.{◌∙◌}
use Rattle.evicting_traces.proofs.Emptying.{freed_on}
use Rattle.evicting_traces.proofs.batch_reads.read_all_freed.Goals as goal

pub loop-freed-preserved : goal.loop-freed-preserved
loop-freed-preserved c = λ answer. c.loop-freed.invariant answer ∙ freed_on c.args.shape.now answer c.loop-freed.left c.from_tail.ensures c.in_ok-left.left c.in_ok-left.ensures
