use Rattle.map_types.specs.declared.kind.DomainId.TheVariants as locks
use Rattle.place_words.specs.Histories.{in_own}
use Rattle.set_replay.proofs.Replaying.{SoFar}
use Rattle.set_replay.proofs.replay.replay_own.Given as goal

abbrev pub invariant-loop-i : goal.invariant-loop-i
invariant-loop-i l = SoFar l.shape (locks.CpuLru l.cpu) in_own l.entries l.i l.set l.notes
