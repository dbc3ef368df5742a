use Rattle.std.proofs.Common.{◌≡◌, take}
use Rattle.part_tests.proofs.history.EntriesSame.same.Given as goal

-- the turns so far are the same
abbrev pub invariant-loop-index : goal.invariant-loop-index
invariant-loop-index l = take l.index l.self ≡ take l.index l.other
