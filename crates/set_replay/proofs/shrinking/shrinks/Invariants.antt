use Rattle.set_replay.proofs.shrinking.shrinks.Given as goal

abbrev pub ghosts-shrink_told : goal.ghosts-shrink_told
ghosts-shrink_told g a = record { bits = a.bits.now; seens = a.seens.now }
