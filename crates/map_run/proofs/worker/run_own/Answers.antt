use Rattle.std.proofs.Common.{◌+◌, suc, [], List, rules, arith, sym, subst}
use Rattle.map_types.specs.declared.reply.Reply.{Reply}
use Rattle.map_batch.specs.Calls.{table_of}
use Rattle.run_records.specs.Work.{HasWorked}
use Rattle.run_records.proofs.OwnCalls.{none_worked, passes_by}
use Rattle.map_run.proofs.Working.{works_on}
use Rattle.map_run.proofs.worker.run_own.Goals as goal

pub loop-call-init : goal.loop-call-init
loop-call-init g c = record {
  count = omega arith;
  same = search rules;
  worked = subst (λ (replies : List Reply). HasWorked (table_of c.args.map.now) c.args.worker.now.cpu (suc c.args.before) [] c.args.worker.now.pass c.args.worker.now.pass replies) (sym c.requires.first.none)
      (none_worked (table_of c.args.map.now) c.args.worker.now.cpu (suc c.args.before) c.args.worker.now.pass c.requires.first.of_table c.requires.first.in_no_call);
}

pub loop-call-preserved-then-call-cpu : goal.loop-call-preserved-then-call-cpu
loop-call-preserved-then-call-cpu g c = record {
  count = omega arith;
  same = c.loop-call.invariant.same;
  worked = passes_by (table_of c.args.map.now) c.args.worker.now.cpu (suc c.args.before) c.args.calls.now c.loop-call.call-index c.call-item.result c.args.worker.now.pass c.loop-call.worker.pass c.loop-call.worker.replies (omega arith) c.call-item.is c.if-call-cpu.true c.loop-call.invariant.worked;
}

pub loop-call-preserved : goal.loop-call-preserved
loop-call-preserved g c = record {
  count = omega arith;
  same = c.loop-call.invariant.same;
  worked = works_on (table_of c.args.map.now) c.args.worker.now.cpu c.args.before c.args.calls.now c.loop-call.call-index c.call-item.result c.args.worker.now.pass c.loop-call.worker.pass c.run_call.new.pass (c.loop-call.number + 1) c.in_ok-reply.reply c.loop-call.worker.replies c.push.new.self
      (omega arith) c.call-item.is (omega arith) c.if-call-cpu.false c.loop-call.invariant.worked c.in_ok-reply.ensures.called c.in_ok-reply.ensures.answers c.in_ok-push.ensures;
}
