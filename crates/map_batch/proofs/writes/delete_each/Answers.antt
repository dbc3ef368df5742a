use Rattle.std.proofs.Common.{arith}
use Rattle.map_batch.specs.Calls.{table_of}
use Rattle.map_batch.proofs.DeletedEach.{deleted_none, deleted_more, deleted_stopped, deleted_all}
use Rattle.map_batch.proofs.writes.delete_each.Goals as goal

pub loop-key-init : goal.loop-key-init
loop-key-init g c = record { count = omega arith; so_far = deleted_none (table_of c.args.map.now) c.args.pass.now c.args.keys.now c.requires.can }

pub loop-key-preserved : goal.loop-key-preserved
loop-key-preserved g c = record {
  count = omega arith;
  so_far = deleted_more (table_of c.args.map.now) c.args.pass.now c.args.keys.now c.loop-key.pass c.delete.new.pass c.loop-key.done c.loop-key.key-index c.key-item.result c.loop-key.invariant.so_far c.loop-key.invariant.count (omega arith) c.key-item.is c.as_slice.result.now c.as_slice.ensures c.in-Ok.ensures.0;
}

pub returns-in-Err : goal.returns-in-Err
returns-in-Err g c =
    deleted_stopped (table_of c.args.map.now) c.args.pass.now c.args.keys.now c.loop-key.pass c.delete.new.pass c.loop-key.done c.loop-key.key-index c.key-item.result c.loop-key.invariant.so_far c.loop-key.invariant.count (omega arith) c.key-item.is c.as_slice.result.now c.as_slice.ensures c.in-Err.ensures.0

pub returns : goal.returns
returns g c = deleted_all (table_of c.args.map.now) c.args.pass.now c.args.keys.now c.loop-key.pass c.loop-key.done c.loop-key.invariant.so_far (omega arith)
