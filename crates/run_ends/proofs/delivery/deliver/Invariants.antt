use Rattle.std.proofs.Common.{◌-◌, ◌≤◌, length, take}
use Rattle.run_ends.specs.Writes.{Adds}
use Rattle.run_ends.proofs.delivery.deliver.Given as goal

abbrev pub invariant-loop-done : goal.invariant-loop-done
invariant-loop-done g l =
    (l.done ≤ length l.text)
    × Adds (g.K.Sink.written l.fn.sink) (g.K.Sink.written l.sink) (take l.done l.text)
    × (g.K.Sink.faults l.fn.sink ≤ g.K.Sink.faults l.sink)

abbrev pub decreases-loop-done : goal.decreases-loop-done
decreases-loop-done g l = length l.text - l.done
