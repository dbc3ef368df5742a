use Rattle.std.proofs.Common.{◌-◌, length}
use Rattle.step_check.specs.Places.{turns_at}
use Rattle.step_check.proofs.OuterTurns.{AreFound}
use Rattle.step_check.proofs.outer.find_outer.Given as goal

-- what is found so far
abbrev pub invariant-loop-handled : goal.invariant-loop-handled
invariant-loop-handled l = AreFound (turns_at l.histories l.places) (length l.places - l.handled) (length l.fn.next) l.outer l.next
