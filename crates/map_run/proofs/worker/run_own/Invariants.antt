use Rattle.std.proofs.Common.{◌≡◌, ◌+◌, suc, take}
use Rattle.map_batch.specs.Calls.{table_of}
use Rattle.run_records.specs.Work.{HasWorked}
use Rattle.map_run.proofs.worker.run_own.Given as goal

-- the CPU's calls among those so far were made, by this worker
abbrev pub invariant-loop-call : goal.invariant-loop-call
invariant-loop-call g l = record {
  count : l.number ≡ l.before + l.call-index;
  same : l.worker.cpu ≡ l.cpu;
  worked : HasWorked (table_of l.map) l.cpu (suc l.before) (take l.call-index l.calls) l.fn.worker.pass l.worker.pass l.worker.replies;
}
