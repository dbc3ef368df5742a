use Rattle.std.proofs.Common.{Ok}
use Rattle.map_batch.specs.Calls.{table_of}
use Rattle.map_batch.proofs.UpdatedEach.{updates_by, updates_refused}
use Rattle.map_batch.proofs.writes.update_batch.Goals as goal

pub returns-then-flags-ne0 : goal.returns-then-flags-ne0
returns-then-flags-ne0 g c = updates_refused (table_of c.args.map.now) c.args.pass.now c.args.pairs.now c.args.flags c.requires.can c.if-flags-ne0.true

pub returns : goal.returns
returns g c = updates_by (table_of c.args.map.now) c.args.pass.now c.args.pairs.now c.update_each.new.pass c.args.flags (Ok c.update_each.result) c.if-flags-ne0.false c.update_each.ensures
