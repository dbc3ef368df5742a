use Rattle.std.proofs.Common.{◌≡◌, ◌+◌, ◌&&◌, ap, sym, ◌∙◌, subst, List, take}
use Rattle.std.proofs.lemmas.List.Elements.{All-more}
use Rattle.map_types.specs.declared.attr.Shape.{Shape}
use Rattle.map_report.specs.Record.{Tells}
use Rattle.place_words.specs.declared.history.LockHistory.{LockHistory}
use Rattle.place_words.specs.Histories.{IsLegal, content}
use Rattle.record_check.specs.Replayed.{TellHistories, TellsWhether, lock_notes}
use Rattle.record_check.proofs.Loops.{more_mapped, more_told}
use Rattle.record_check.proofs.histories.replay_histories.Goals as goal
use Rattle.record_check.proofs.histories.replay_histories.Goals.{then-told, else-told}

pub loop-i-preserved : goal.loop-i-preserved
loop-i-preserved c =
    let shape : Shape = c.args.shape.now in
    let histories : List LockHistory = c.as_slice-histories.result.now in
    let history : LockHistory = c.index-histories-i.result in
    let told : c.if-told.told ≡ (c.loop-i.told && c.in_ok-replayed.replayed.told) =
    elim c.if-told.branch [
      | then-told w ↦ w.told-is ∙ ap (λ b. b && c.in_ok-replayed.replayed.told) (sym w.if-told.true)
      | else-told w ↦ w.told-is ∙ w.if-told.false ∙ ap (λ b. b && c.in_ok-replayed.replayed.told) (sym w.if-told.false)
    ] in
    record {
      legal = All-more (λ (h : LockHistory). IsLegal shape h.lock h.entries) histories c.loop-i.i history c.loop-i-test.true c.loop-i.invariant.legal
          (subst (λ (h : LockHistory). IsLegal shape h.lock h.entries) c.index-histories-i.is c.in_ok-replayed.ensures.legal);
      told = subst (TellsWhether (TellHistories shape c.args.kept.now.finals (take (c.loop-i.i + 1) histories))) (sym told)
          (more_told (λ (h : LockHistory). Tells c.args.kept.now.finals h.lock (content shape h.lock h.entries)) histories c.loop-i.i history c.loop-i-test.true c.loop-i.told c.in_ok-replayed.replayed.told c.loop-i.invariant.told
          (subst (λ (h : LockHistory). TellsWhether (Tells c.args.kept.now.finals h.lock (content shape h.lock h.entries)) c.in_ok-replayed.replayed.told) c.index-histories-i.is c.in_ok-replayed.ensures.told));
      noted = more_mapped (λ (h : LockHistory). lock_notes shape h.lock h.entries) histories c.loop-i.i history c.loop-i.notes c.push.new.self c.in_ok-replayed.replayed.notes c.loop-i-test.true c.loop-i.invariant.noted
          (c.in_ok-replayed.ensures.notes ∙ ap (λ (h : LockHistory). lock_notes shape h.lock h.entries) c.index-histories-i.is) c.in_ok-push.ensures.added;
    }
