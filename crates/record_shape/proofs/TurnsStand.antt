-- Each turn of a record stands where its lock is the map's, and it may be made there.
use Rattle.std.proofs.Common.{◌≡◌, ℕ, suc, List, [], ◌∷◌, ◌++◌, take, drop, Some, ap, sym, ◌∙◌, subst}
use Rattle.std.specs.Prelude.{slice_get, IsTrue}
use Rattle.std.proofs.lemmas.List.{append_assoc}
use Rattle.map_types.specs.declared.attr.Shape.{Shape}
use Rattle.map_types.specs.declared.call.Call.{Call}
use Rattle.map_types.specs.declared.kind.DomainId.{DomainId}
use Rattle.place_words.specs.declared.history.Entry.{Entry}
use Rattle.place_words.specs.declared.history.LockHistory.{LockHistory}
use Rattle.place_words.specs.declared.history.StrandStep.{StrandStep}
use Rattle.place_words.specs.Histories.{Content, Allows, AllAllowed, IsLegal, content, content_after, opening_content, replayed}
use Rattle.place_words.specs.Locks.{is_lock}
use Rattle.place_words.specs.Named.{entries_of, Names}
use Rattle.place_words.specs.Turns.{TurnAt}
use Rattle.place_words.proofs.HistoryLemmas.{content_more}
use Rattle.map_script.specs.declared.script.Script.{Script}
use Rattle.map_report.specs.declared.record.RunRecord.{RunRecord}
use Rattle.map_report.specs.Record.{IsRecord}
use Rattle.record_shape.specs.Fits.{AllFit}
use Rattle.place_words.specs.Real.{IsAlwaysReal, IsReal}
use Rattle.record_shape.specs.OfTable.{IsOfTable}
use Rattle.record_shape.proofs.Premises.{ContentFits, Stands}
use Rattle.record_shape.proofs.ByPlaces.{all_at, fit_each, split_there}
use Rattle.record_shape.proofs.CallsOf.{OfCall, named_by}
use Rattle.record_shape.proofs.HistoriesOf.{IsHeld, is_held, lock_real}

-- what lies under a lock fits after any number of its turns
abbrev pub AlwaysFits : Shape → DomainId → List Entry → Type 0
AlwaysFits shape lock entries = (before after : List Entry) → entries ≡ before ++ after → ContentFits shape (content shape lock before)

-- a turn of a history that replays may be made at its place
allowed_there : (shape : Shape) (here : Content) (before : List Entry) (entry : Entry) (after : List Entry)
    → AllAllowed shape here (before ++ entry ∷ after) → Allows shape entry.cpu entry.part (replayed shape here before)
unfolding AllAllowed replayed
allowed_there shape here [] entry after all = all.0
allowed_there shape here (first ∷ before) entry after all = allowed_there shape (content_after shape first.cpu first.part here) before entry after all.1

-- a turn that is an entry of its lock's history stands there
module _ (shape : Shape) (cpu number ticket : ℕ) (at : TurnAt) where
  abbrev its_entry : Entry
  its_entry = record { ticket = ticket; cpu = cpu; call = number; part = at.turn.part }

  stands_behind : (entries after : List Entry) → entries ≡ at.earlier ++ its_entry ∷ after → IsTrue (is_lock shape at.turn.lock)
      → IsLegal shape at.turn.lock entries
      → IsAlwaysReal shape at.turn.lock entries → AlwaysFits shape at.turn.lock entries → Stands shape cpu at
  stands_behind entries after split real legal always fits = record {
    lock = real;
    allowed = allowed_there shape (opening_content shape at.turn.lock) at.earlier its_entry after (subst (IsLegal shape at.turn.lock) split legal);
    before = always at.earlier (its_entry ∷ after) split;
    after =
        subst (IsReal shape) (content_more shape at.turn.lock at.earlier its_entry) (always (at.earlier ++ its_entry ∷ []) after (split ∙ sym (append_assoc at.earlier (its_entry ∷ []) after)));
    fits = fits at.earlier (its_entry ∷ after) split;
  }

module _ (script : Script) (kept : RunRecord) (is : IsRecord script kept) (table : IsOfTable script kept)
    (fits : (lock : DomainId) → IsTrue (is_lock script.shape lock) → AlwaysFits script.shape lock (entries_of kept.histories lock)) where
  turn_stands : (cpu number : ℕ) (step : StrandStep) (at : TurnAt) → Names kept.histories cpu number step at → Stands script.shape cpu at
  turn_stands cpu number step at names =
      let entries : List Entry = entries_of kept.histories at.turn.lock in
      let there : slice_get entries step.index ≡ Some (its_entry script.shape cpu number names.ticket at) =
      ap (λ (l : DomainId). slice_get (entries_of kept.histories l) step.index) (sym names.lock) ∙ names.entry in
      let earlier : at.earlier ≡ take step.index entries =
      names.earlier ∙ ap (λ (l : DomainId). take step.index (entries_of kept.histories l)) names.lock in
      by (is_held kept.histories at.turn.lock step.index (its_entry script.shape cpu number names.ticket at) there)
      (split_there entries step.index (its_entry script.shape cpu number names.ticket at) there
      ∙ ap (λ (before : List Entry). before ++ its_entry script.shape cpu number names.ticket at ∷ drop (suc step.index) entries) (sym earlier))
    where
      by : IsHeld kept.histories at.turn.lock
          → entries_of kept.histories at.turn.lock ≡ at.earlier ++ its_entry script.shape cpu number names.ticket at ∷ drop (suc step.index) (entries_of kept.histories at.turn.lock)
          → Stands script.shape cpu at
      by held split =
          let real : IsTrue (is_lock script.shape at.turn.lock) =
          subst (λ (l : DomainId). IsTrue (is_lock script.shape l)) held.lock_is (lock_real script.shape kept.histories is.locks held.place held.history held.there) in
          let legal : IsLegal script.shape held.history.lock held.history.entries =
          all_at (λ (h : LockHistory). IsLegal script.shape h.lock h.entries) kept.histories is.legal held.place held.history held.there in
          stands_behind script.shape cpu number names.ticket at (entries_of kept.histories at.turn.lock) (drop (suc step.index) (entries_of kept.histories at.turn.lock)) split real
          (subst (λ (es : List Entry). IsLegal script.shape at.turn.lock es) (sym held.entries_are) (subst (λ (l : DomainId). IsLegal script.shape l held.history.entries) held.lock_is legal))
          (table.real at.turn.lock real) (fits at.turn.lock real)

  pub turns_stand : (n : ℕ) (call : Call) (of : OfCall script kept n call) → AllFit (Stands script.shape call.cpu) of.turns
  turns_stand n call of =
      fit_each (Stands script.shape call.cpu) of.turns
      (λ k at there. let named = named_by kept.histories call.cpu (suc n) of.steps of.turns of.names k at there in turn_stands call.cpu (suc n) named.0 at named.1)
