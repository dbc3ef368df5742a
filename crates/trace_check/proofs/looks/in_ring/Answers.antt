use Rattle.trace_check.proofs.Rings.{upwards, wrapped}
use Rattle.trace_check.proofs.looks.in_ring.Goals as goal

pub returns-then-place-upwards : goal.returns-then-place-upwards
returns-then-place-upwards c = upwards c.args.cpu c.args.cpus c.args.place c.requires.cpu c.requires.place c.if-place-upwards.true

pub returns-else-place-upwards : goal.returns-else-place-upwards
returns-else-place-upwards c = wrapped c.args.cpu c.args.cpus c.args.place c.requires.cpu c.requires.place c.if-place-upwards.false
