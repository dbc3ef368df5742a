use Rattle.std.proofs.Common.{◌≡◌, take}
use Rattle.part_tests.proofs.reply.PairsSame.same.Given as goal

-- the pairs so far are the same
abbrev pub invariant-loop-i : goal.invariant-loop-i
invariant-loop-i l = take l.i l.self ≡ take l.i l.other
