use Rattle.std.proofs.Common.{◌≡◌}
use Rattle.elem_walk.specs.Walks.{Answers}
use Rattle.elem_walk.proofs.Stops.{HasPassed}
use Rattle.elem_walk.proofs.walk.ElemWalk.hand_from.Given as goal

abbrev pub invariant-loop-i : goal.invariant-loop-i
invariant-loop-i g l = HasPassed (Answers g.F.Fn l.self.call) l.from l.i l.fn.over.pairs × (l.over ≡ l.fn.over)
