use Rattle.std.proofs.Common.{◌≡◌, drop}
use Rattle.std.specs.List.{concat}
use Rattle.finals_check.specs.Marking.{met_after}
use Rattle.finals_check.proofs.meeting.meet_freelists.Given as goal

-- what is left
abbrev pub invariant-loop-freelist : goal.invariant-loop-freelist
invariant-loop-freelist l = met_after l.met (concat (drop l.freelist-index l.freelists)) ≡ met_after l.fn.met (concat l.freelists)
