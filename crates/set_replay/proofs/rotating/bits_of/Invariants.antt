use Rattle.std.proofs.Common.{◌≡◌, ◌++◌, take}
use Rattle.set_replay.specs.ByPlace.{visit_bits}
use Rattle.set_replay.proofs.rotating.bits_of.Given as goal

abbrev pub invariant-loop-visit : goal.invariant-loop-visit
invariant-loop-visit l = l.bits.items ≡ visit_bits (take l.visit-index l.first)

abbrev pub invariant-loop-visit-2 : goal.invariant-loop-visit-2
invariant-loop-visit-2 l = l.bits.items ≡ visit_bits l.first ++ visit_bits (take l.visit-index l.second)
