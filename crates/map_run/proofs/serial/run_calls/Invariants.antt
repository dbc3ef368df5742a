use Rattle.std.proofs.Common.{◌≡◌, ℕ, suc, ◌+◌, All, List, ◌++◌, length, take}
use Rattle.map_types.specs.declared.call.Call.{Call}
use Rattle.map_types.specs.declared.reply.Reply.{Reply}
use Rattle.map_batch.specs.Calls.{table_of}
use Rattle.place_words.specs.AtRest.{IsStart}
use Rattle.run_records.specs.ByLogs.{RunStart, HaveRunFrom}
use Rattle.run_records.specs.Phased.{HasGone, IsWhole}
use Rattle.serial_laws.specs.Served.{IsServedCall}
use Rattle.run_records.specs.Work.{HasWorked}
use Rattle.map_run.proofs.serial.run_calls.Given as goal

-- the calls so far were run
abbrev pub invariant-loop-call : goal.invariant-loop-call
invariant-loop-call g l = record {
  count : l.number ≡ l.before + l.call-index;
  whole : IsWhole (table_of l.map) l.pass;
  gone : HasGone (table_of l.map).shape l.fn.pass l.pass;
  from : (from : RunStart) (done : List Call) (told : List Reply) → from.number + length done ≡ suc l.before → IsStart (table_of l.map).shape from.state → All (IsServedCall (table_of l.map).shape) done
      → HaveRunFrom (table_of l.map) from done l.fn.pass told → HaveRunFrom (table_of l.map) from (done ++ take l.call-index l.calls) l.pass (told ++ l.replies.items);
  alone : (cpu : ℕ) → All (λ (call : Call). call.cpu ≡ cpu) l.calls → HasWorked (table_of l.map) cpu (suc l.before) (take l.call-index l.calls) l.fn.pass l.pass l.replies.items;
}
