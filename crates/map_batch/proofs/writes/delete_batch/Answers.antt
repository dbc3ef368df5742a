use Rattle.std.proofs.Common.{List, ℕ, Ok, subst}
use Rattle.map_batch.specs.Calls.{table_of}
use Rattle.map_batch.specs.Writes.{DeletesBatch}
use Rattle.map_batch.proofs.DeletedEach.{deletes_by, deletes_refused}
use Rattle.map_batch.proofs.writes.delete_batch.Goals as goal

pub returns-then-flags-ne0 : goal.returns-then-flags-ne0
returns-then-flags-ne0 g c = deletes_refused (table_of c.args.map.now) c.args.pass.now c.args.keys.now c.args.flags c.requires.can c.if-flags-ne0.true

pub returns : goal.returns
returns g c =
    deletes_by (table_of c.args.map.now) c.args.pass.now c.args.keys.now c.delete_each.new.pass c.args.flags (Ok c.delete_each.result) c.if-flags-ne0.false
    (subst (λ (keys : List (List ℕ)). DeletesBatch (table_of c.args.map.now) c.args.pass.now c.delete_each.new.pass 0 keys (Ok c.delete_each.result)) c.as_slice.ensures c.delete_each.ensures)
