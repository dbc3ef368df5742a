use Rattle.std.proofs.Common.{◌≡◌, drop}
use Rattle.finals_check.specs.Marking.{met_after}
use Rattle.finals_check.proofs.meeting.meet.Given as goal

-- what is left
abbrev pub invariant-loop-element : goal.invariant-loop-element
invariant-loop-element l = met_after l.met (drop l.element-index l.elements) ≡ met_after l.fn.met l.elements
