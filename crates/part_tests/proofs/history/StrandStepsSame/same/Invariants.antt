use Rattle.std.proofs.Common.{◌≡◌, take}
use Rattle.part_tests.proofs.history.StrandStepsSame.same.Given as goal

-- the steps so far are the same
abbrev pub invariant-loop-place : goal.invariant-loop-place
invariant-loop-place l = take l.place l.self ≡ take l.place l.other
