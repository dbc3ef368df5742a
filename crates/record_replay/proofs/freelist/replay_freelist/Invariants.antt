use Rattle.std.proofs.Common.{reverse}
use Rattle.map_types.specs.declared.kind.DomainId.TheVariants as locks
use Rattle.place_words.specs.Histories.{on_freelist}
use Rattle.replay_words.proofs.Steps.{LeadsFirst}
use Rattle.record_replay.proofs.freelist.replay_freelist.Given as goal

abbrev pub invariant-loop-i : goal.invariant-loop-i
invariant-loop-i l = LeadsFirst l.shape (locks.Freelist l.cpu) l.entries l.i (on_freelist (reverse l.stack.items))
