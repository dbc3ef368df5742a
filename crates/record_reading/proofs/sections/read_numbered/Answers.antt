use Rattle.record_reading.proofs.LoopLemmas.{numbered_start}
use Rattle.std.proofs.Common.{refl}
use Rattle.record_reading.proofs.sections.read_numbered.Goals as goal

pub loop-number-init : goal.loop-number-init
loop-number-init g c = (numbered_start (g.T.Numbered.section c.args.shape.now) c.args.count c.args.lines.now.0 c.of-all.result (cc), refl)
