use Rattle.std.proofs.Common.{[]}
use Rattle.set_replay.proofs.rotating.rotates.Given as goal

abbrev pub ghosts-rotate_told : goal.ghosts-rotate_told
ghosts-rotate_told g a = record { bits = a.bits.now; seens = [] }
