use Rattle.std.proofs.Common.{take}
use Rattle.set_replay.specs.GlobalTurns.{Flushed}
use Rattle.set_replay.proofs.global.flushes.Given as goal

abbrev pub invariant-loop-i : goal.invariant-loop-i
invariant-loop-i g l = Flushed (take l.i l.flushed) l.fn.set l.set
