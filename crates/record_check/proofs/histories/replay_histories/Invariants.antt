use Rattle.std.proofs.Common.{◌≡◌, map, take}
use Rattle.place_words.specs.declared.history.LockHistory.{LockHistory}
use Rattle.record_check.specs.Replayed.{AreLegal, TellHistories, TellsWhether, lock_notes}
use Rattle.record_check.proofs.histories.replay_histories.Given as goal

-- of the histories so far
abbrev pub invariant-loop-i : goal.invariant-loop-i
invariant-loop-i l = record {
  legal : AreLegal l.shape (take l.i l.histories);
  told : TellsWhether (TellHistories l.shape l.kept.finals (take l.i l.histories)) l.told;
  noted : l.notes ≡ map (λ (history : LockHistory). lock_notes l.shape history.lock history.entries) (take l.i l.histories);
}
