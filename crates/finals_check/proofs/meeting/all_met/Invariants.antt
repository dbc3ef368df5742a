use Rattle.std.proofs.Common.{◌≡◌, drop}
use Rattle.finals_check.specs.Marking.{all_met}
use Rattle.finals_check.proofs.meeting.all_met.Given as goal

-- what is left
abbrev pub invariant-loop-one : goal.invariant-loop-one
invariant-loop-one l = all_met (drop l.one-index l.met) ≡ all_met l.met
