-- In a phase that is exact, from a state with no call under way, no reply is ENOMEM and no probe finds its element in a CPU's hand.
use Rattle.std.proofs.Common.{◌≢◌, ℕ, suc, ◌-◌, ◌<◌, length, drop, subst}
use Rattle.std.specs.Prelude.{All, Option, Some, IsTrue}
use Rattle.std.proofs.lemmas.List.Elements.{All-take, All-drop}
use Rattle.map_types.specs.Creation.{IsShape}
use Rattle.map_types.specs.declared.call.Call.{Call}
use Rattle.map_types.specs.declared.kind.DomainId.{DomainId}
use Rattle.map_types.specs.declared.refusal.Errno.TheVariants.{Enomem}
use Rattle.map_types.specs.declared.reply.Reply.{Reply}
use Rattle.map_types.specs.Replies.{error_of}
use Rattle.place_words.specs.declared.history.Entry.{Entry}
use Rattle.place_words.specs.Locks.{is_lock}
use Rattle.place_words.specs.Named.{entries_of}
use Rattle.place_words.specs.Phases.{calls_before, of_phase, drawn_between, state_at}
use Rattle.place_words.specs.SerialOrder.{FindsNoneHeld}
use Rattle.place_words.proofs.AnyStart.{IsStart, gets_from, fine_from}
use Rattle.map_script.specs.declared.script.Script.{Script}
use Rattle.map_report.specs.declared.record.RunRecord.{RunRecord}
use Rattle.map_report.specs.Phases.{IsExact, end_of}

module _ (script : Script) (created : IsShape script.shape) (served : All (λ (call : Call). call.cpu < script.shape.cpus) script.calls) (kept : RunRecord) (spares : ℕ → ℕ → Option ℕ) (p : ℕ)
    (exact : IsExact script kept spares p) where
  abbrev at : ℕ → ℕ
  at q = calls_before script.cuts (length script.calls) q

  served_in : All (λ (call : Call). call.cpu < script.shape.cpus) (of_phase script.cuts p script.calls)
  served_in =
      All-take (λ (call : Call). call.cpu < script.shape.cpus) (at (suc p) - at p) (drop (at p) script.calls) (All-drop (λ (call : Call). call.cpu < script.shape.cpus) (at p) script.calls served)

  pub exact_gets : IsStart script.shape (state_at kept.histories exact.start.ticket exact.start.marked (spares p)) → All (λ (reply : Reply). error_of reply ≢ Some Enomem) (of_phase script.cuts p kept.replies)
  exact_gets start =
      subst (All (λ (reply : Reply). error_of reply ≢ Some Enomem)) exact.replies
      (gets_from script.shape created (suc (at p)) (of_phase script.cuts p script.calls) (state_at kept.histories exact.start.ticket exact.start.marked (spares p)) served_in start)

  pub exact_none_held : (lock : DomainId) → IsTrue (is_lock script.shape lock) → All (λ (entry : Entry). FindsNoneHeld entry.part) (drawn_between exact.start.ticket (end_of kept p).ticket (entries_of kept.histories lock))
  exact_none_held lock there =
      subst (All (λ (entry : Entry). FindsNoneHeld entry.part)) (exact.entries lock there)
      (fine_from script.shape (suc (at p)) (of_phase script.cuts p script.calls) (state_at kept.histories exact.start.ticket exact.start.marked (spares p)) lock)
