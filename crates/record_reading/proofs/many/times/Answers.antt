use Rattle.std.proofs.Common.{◌-◌, arith}
use Rattle.record_reading.proofs.TimesLemmas.{times_start}
use Rattle.record_reading.proofs.many.times.Goals as goal

pub loop-i-init : goal.loop-i-init
loop-i-init g c = times_start (g.T.Readable.front c.args.shape.now) c.args.count (c.args.count - 0) c.args.text.now c.of-found.result (omega arith) (cc)
