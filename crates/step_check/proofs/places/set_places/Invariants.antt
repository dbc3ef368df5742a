use Rattle.std.proofs.Common.{take}
use Rattle.step_check.proofs.ByTicket.{AreSet}
use Rattle.step_check.proofs.places.set_places.Given as goal

-- what stands at each ticket is the last so far
abbrev pub invariant-loop-place : goal.invariant-loop-place
invariant-loop-place l = AreSet l.histories (take l.place-index l.places) l.fn.by_ticket l.by_ticket
