use Rattle.std.proofs.Common.{◌≡◌, ◌≤◌, length, vec_capacity}
use Rattle.map_batch.specs.Calls.{table_of}
use Rattle.map_run.specs.Workers.{HasSplit, AreSplitOff}
use Rattle.map_run.proofs.race.split_all.Given as goal

-- the CPUs so far have their workers
abbrev pub invariant-loop-cpu : goal.invariant-loop-cpu
invariant-loop-cpu l = record {
  rest : HasSplit (table_of l.map) l.fn.pass l.cpu l.pass;
  workers : AreSplitOff (table_of l.map) l.fn.pass 0 l.workers.items;
  count : length l.workers.items ≡ l.cpu;
  room : l.cpus ≤ vec_capacity l.workers;
}
