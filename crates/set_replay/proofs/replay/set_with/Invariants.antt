use Rattle.std.proofs.Common.{◌≤◌, length, drop}
use Rattle.set_replay.specs.Replayed.{Opens}
use Rattle.set_replay.proofs.replay.set_with.Given as goal

abbrev pub invariant-loop-left : goal.invariant-loop-left
invariant-loop-left g l = record { within : l.left ≤ length l.free; opens : Opens l.elements (drop l.left l.free) l.set }

abbrev pub decreases-loop-left : goal.decreases-loop-left
decreases-loop-left g l = l.left
