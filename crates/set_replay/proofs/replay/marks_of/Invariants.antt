use Rattle.std.proofs.Common.{take}
use Rattle.set_replay.specs.GlobalTurns.{AreMarksOf}
use Rattle.set_replay.proofs.replay.marks_of.Given as goal

abbrev pub invariant-loop-i : goal.invariant-loop-i
invariant-loop-i l = AreMarksOf (take l.i l.free) l.elements l.marks.items
