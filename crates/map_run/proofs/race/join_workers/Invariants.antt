use Rattle.std.proofs.Common.{◌≡◌, ℕ, List, length}
use Rattle.map_types.specs.declared.call.Call.{Call}
use Rattle.map_batch.specs.Calls.{table_of}
use Rattle.place_table.specs.Passes.{PassView}
use Rattle.map_run.specs.Joined.{HaveJoined, told_by}
use Rattle.map_run.specs.Workers.{HaveEnded}
use Rattle.map_run.proofs.race.join_workers.Given as goal

-- the workers so far were joined
abbrev pub invariant-loop-worker : goal.invariant-loop-worker
invariant-loop-worker l =
    (goal.iterator-loop-worker).can_next l.worker-iterator
    × (goal.iterator-loop-worker).is_finite l.worker-iterator
    × ((number : ℕ) (calls : List Call) (start : PassView) → HaveEnded (table_of l.map) number calls start l.fn.pass l.fn.workers.items
    → HaveJoined (table_of l.map) number calls start (length l.yielded) l.pass l.replies.items l.counts.items)
    × (l.replies.items ≡ told_by l.yielded)
