use Rattle.std.proofs.Common.{take}
use Rattle.set_replay.proofs.GlobalLemmas.{MovedSoFar}
use Rattle.set_replay.proofs.global.moves_off.Given as goal

abbrev pub invariant-loop-i : goal.invariant-loop-i
invariant-loop-i g l = MovedSoFar (take l.i l.free) l.fn.set l.set l.marks.items
