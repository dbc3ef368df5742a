use Rattle.std.proofs.Common.{◌≡◌}
use Rattle.map_types.specs.declared.kind.DomainId.TheVariants as locks
use Rattle.place_words.specs.Histories.{in_global}
use Rattle.set_replay.specs.GlobalTurns.{AreMarked}
use Rattle.set_replay.proofs.Replaying.{SoFar}
use Rattle.set_replay.proofs.replay.replay_global.Given as goal

abbrev pub invariant-loop-i : goal.invariant-loop-i
invariant-loop-i l = record {
  so_far : SoFar l.shape locks.Global in_global l.entries l.i l.set l.notes;
  marked : AreMarked l.marks.items l.set;
  bound : l.set.elements ≡ l.shape.elements;
}
