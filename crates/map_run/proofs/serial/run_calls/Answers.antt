use Rattle.std.proofs.Common.{◌+◌, arith}
use Rattle.map_batch.specs.Calls.{table_of}
use Rattle.map_run.proofs.AloneRuns.{alone_first, alone_on, alone_all, gone_nowhere, gone_more, whole_on}
use Rattle.run_records.proofs.RunOn.{from_first, from_more, from_all}
use Rattle.map_run.proofs.serial.run_calls.Goals as goal

pub loop-call-init : goal.loop-call-init
loop-call-init g c = record {
  count = omega arith;
  whole = c.requires.whole;
  gone = gone_nowhere (table_of c.args.map.now).shape c.args.pass.now;
  from = from_first (table_of c.args.map.now) c.args.before c.args.calls.now c.args.pass.now c.in_ok-replies.replies.items c.in_ok-replies.ensures.items;
  alone = alone_first (table_of c.args.map.now) c.args.before c.args.calls.now c.args.pass.now c.in_ok-replies.replies.items c.in_ok-replies.ensures.items c.requires.whole;
}

pub loop-call-preserved : goal.loop-call-preserved
loop-call-preserved g c =
    let so_far = c.loop-call.invariant in
    record {
      count = omega arith;
      whole = whole_on (table_of c.args.map.now) c.loop-call.pass c.run_call.new.pass c.call-item.result (c.loop-call.number + 1) c.in_ok-reply.reply so_far.whole c.in_ok-reply.ensures.called;
      gone = gone_more (table_of c.args.map.now) c.args.pass.now c.loop-call.pass c.run_call.new.pass c.call-item.result (c.loop-call.number + 1) c.in_ok-reply.reply so_far.whole.of_table so_far.gone c.in_ok-reply.ensures.called;
      from = from_more (table_of c.args.map.now) c.args.before c.args.calls.now c.loop-call.call-index c.call-item.result c.args.pass.now c.loop-call.pass c.run_call.new.pass (c.loop-call.number + 1) c.in_ok-reply.reply c.loop-call.replies.items c.push.new.self.items c.requires.shape c.requires.calls
          (omega arith) c.call-item.is (omega arith) so_far.from c.in_ok-reply.ensures.called c.in_ok-push.ensures.items;
      alone = alone_on (table_of c.args.map.now) c.args.before c.args.calls.now c.loop-call.call-index c.call-item.result c.args.pass.now c.loop-call.pass c.run_call.new.pass (c.loop-call.number + 1) c.in_ok-reply.reply c.loop-call.replies.items c.push.new.self.items
          (omega arith) c.call-item.is (omega arith) so_far.alone c.in_ok-reply.ensures.called c.in_ok-reply.ensures.answers c.in_ok-push.ensures.items;
    }

pub returns-clause-from : goal.returns-clause-from
returns-clause-from g c =
    from_all (table_of c.args.map.now) c.args.before c.args.calls.now c.loop-call.call-index c.args.pass.now c.loop-call.pass c.loop-call.replies.items (omega arith) c.loop-call.invariant.from

pub returns-clause-alone : goal.returns-clause-alone
returns-clause-alone g c =
    alone_all (table_of c.args.map.now) c.args.before c.args.calls.now c.loop-call.call-index c.args.pass.now c.loop-call.pass c.loop-call.replies.items (omega arith) c.loop-call.invariant.alone
