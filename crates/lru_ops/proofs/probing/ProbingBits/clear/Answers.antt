use Rattle.lru_ops.proofs.Asked.{asked_cleared, probe_cleared, since_cleared}
use Rattle.lru_ops.proofs.probing.ProbingBits.clear.Goals as goal

pub returns-clause-noted : goal.returns-clause-noted
returns-clause-noted g c n can = (can.0, since_cleared can.1 c.args.element c.clear.new.pass c.clear.result c.clear.ensures)

pub returns-clause-asked : goal.returns-clause-asked
returns-clause-asked g c e may = asked_cleared c.args.self.now.table.now e c.args.element c.args.self.now.pass.now c.clear.new.pass c.clear.result c.clear.ensures may

pub returns-clause-probed : goal.returns-clause-probed
returns-clause-probed g c row = probe_cleared c.args.self.now.table.now g.K.Begun.rows c.args.element c.args.self.now.pass.now c.clear.new.pass c.clear.result row c.clear.ensures
