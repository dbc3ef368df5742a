use Rattle.std.proofs.Common.{◌≡◌, take}
use Rattle.set_replay.specs.ByPlace.{look_bits}
use Rattle.set_replay.proofs.shrinking.bits_of.Given as goal

abbrev pub invariant-loop-look : goal.invariant-loop-look
invariant-loop-look l = l.bits.items ≡ look_bits (take l.look-index l.looks)
