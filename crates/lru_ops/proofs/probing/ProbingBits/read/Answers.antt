use Rattle.lru_ops.proofs.Asked.{asked_read, probe_read, since_read}
use Rattle.lru_ops.proofs.probing.ProbingBits.read.Goals as goal

pub returns-clause-noted : goal.returns-clause-noted
returns-clause-noted g c n can = (can.0, since_read can.1 c.args.element c.bit_of.new.pass c.bit_of.result c.bit_of.ensures)

pub returns-clause-asked : goal.returns-clause-asked
returns-clause-asked g c e may = asked_read c.args.self.now.table.now e c.args.element c.args.self.now.pass.now c.bit_of.new.pass c.bit_of.result c.bit_of.ensures may

pub returns-clause-probed : goal.returns-clause-probed
returns-clause-probed g c row = probe_read c.args.self.now.table.now g.K.Begun.rows c.args.element c.args.self.now.pass.now c.bit_of.new.pass c.bit_of.result row c.bit_of.ensures
