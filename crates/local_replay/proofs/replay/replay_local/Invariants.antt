use Rattle.std.proofs.Common.{◌≡◌, take}
use Rattle.map_types.specs.declared.kind.DomainId.TheVariants.{Local}
use Rattle.place_words.specs.Histories.{in_locals}
use Rattle.replay_words.specs.Notes.{notes_of}
use Rattle.replay_words.proofs.Steps.{LeadsFirst}
use Rattle.local_replay.proofs.replay.replay_local.Given as goal

-- the entries so far are allowed, and lead to these lists
abbrev pub invariant-loop-i : goal.invariant-loop-i
invariant-loop-i l = record {
  leads : LeadsFirst l.shape (Local l.cpu) l.entries l.i (in_locals l.lists);
  noted : l.notes ≡ notes_of l.shape (Local l.cpu) (take l.i l.entries);
}
