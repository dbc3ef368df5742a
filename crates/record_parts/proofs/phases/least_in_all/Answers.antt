use Rattle.std.proofs.Common.{arith}
use Rattle.record_flaws.specs.PhaseFlaws.{IsRightHistory}
use Rattle.record_parts.proofs.Least.{least_more, least_in_one}
use Rattle.record_parts.proofs.phases.least_in_all.Goals as goal

pub loop-history-preserved : goal.loop-history-preserved
loop-history-preserved c =
    least_more (IsRightHistory c.args.cuts.now c.args.starts.now) c.args.histories.now c.loop-history.history-index c.history-item.result c.args.first c.loop-history.least c.least_in-least.result
    (omega arith) c.history-item.is c.loop-history.invariant
    (least_in_one c.args.cuts.now c.args.starts.now c.history-item.result c.loop-history.least c.least_in-least.result c.least_in-least.ensures)
