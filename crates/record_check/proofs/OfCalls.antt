-- The entries of a call of a record are by its CPU.
use Rattle.std.proofs.Common.{◌≡◌, ◌≤◌, ℕ, List, Some, length, ap, sym, ◌∙◌, subst, arith}
use Rattle.std.specs.Prelude.{All, slice_get, IsTrue}
use Rattle.std.proofs.lemmas.Option.{same_Some}
use Rattle.map_types.specs.declared.call.Call.{Call}
use Rattle.map_types.specs.declared.kind.DomainId.{DomainId}
use Rattle.map_script.specs.declared.script.Script.{Script}
use Rattle.map_script.specs.WellFormed.{IsWellFormed}
use Rattle.place_words.specs.declared.history.Entry.{Entry}
use Rattle.place_words.specs.declared.history.LockHistory.{LockHistory}
use Rattle.place_words.specs.Locks.{is_lock}
use Rattle.place_words.specs.Named.{entries_of}
use Rattle.place_words.specs.Tickets.{all_entries}
use Rattle.map_report.specs.declared.record.RunRecord.{RunRecord}
use Rattle.map_report.specs.Record.{IsRecord}
use Rattle.record_shape.specs.ShapedParts.{EntryFits}
use Rattle.record_shape.specs.WellShaped.{HistoryFits, WellShaped}
use Rattle.record_shape.proofs.ByPlaces.{fit_at}
use Rattle.record_shape.proofs.CallsOf.{OfEntry, entry_of_call}
use Rattle.record_shape.proofs.HistoriesOf.{histories_differ, lock_real, own_entries}
use Rattle.turn_order.proofs.Members.{IsAmong, all_among, among_at, flat_among}
use Rattle.step_check.specs.Refused.{AreOfCalls, CallsHaveOneCpu}

-- where an entry stands
record IsEntry (script : Script) (kept : RunRecord) (entry : Entry) : Type 0 where
  lock : DomainId
  real : IsTrue (is_lock script.shape lock)
  place : ℕ
  at : slice_get (entries_of kept.histories lock) place ≡ Some entry
  fits : EntryFits script.shape (length script.calls) lock entry

module _ (script : Script) (kept : RunRecord) (formed : IsWellFormed script) (shaped : WellShaped script kept) where
  entry_in : (n : ℕ) (history : LockHistory) → slice_get kept.histories n ≡ Some history → (place : ℕ) (entry : Entry) → slice_get history.entries place ≡ Some entry → IsEntry script kept entry
  entry_in n history there place entry at = record {
    lock = history.lock;
    real = lock_real script.shape kept.histories shaped.locks n history there;
    place = place;
    at = ap (λ (entries : List Entry). slice_get entries place) (own_entries kept.histories (histories_differ script.shape kept.histories shaped.locks) n history there) ∙ at;
    fits = fit_at (EntryFits script.shape (length script.calls) history.lock) history.entries
        (fit_at (HistoryFits script.shape (length script.calls)) kept.histories shaped.histories n history there).entries place entry at;
  }

  entry_is : (entry : Entry) → IsAmong entry (all_entries kept.histories) → IsEntry script kept entry
  entry_is entry there =
      let in_one = flat_among (λ (history : LockHistory). history.entries) entry kept.histories there in
      let n = among_at in_one.0 kept.histories in_one.1 in
      let place = among_at entry in_one.0.entries in_one.2 in
      entry_in n.0 in_one.0 n.1 place.0 entry place.1

  pub of_calls : AreOfCalls (length script.calls) (all_entries kept.histories)
  of_calls = all_among (λ (entry : Entry). entry.call ≤ length script.calls) (all_entries kept.histories) (λ entry there. (entry_is entry there).fits.of_script)

  -- where histories and the count of calls are read
  pub calls_read : (histories : List LockHistory) (count : ℕ) → histories ≡ kept.histories → count ≡ length script.calls → AreOfCalls count (all_entries histories)
  calls_read histories count same counted =
      subst (λ (hs : List LockHistory). AreOfCalls count (all_entries hs)) (sym same) (subst (λ (n : ℕ). AreOfCalls n (all_entries kept.histories)) (sym counted) of_calls)

  module _ (is : IsRecord script kept) where
    of : (entry : Entry) (its : IsEntry script kept entry) → OfEntry script kept its.lock its.place entry
    of entry its = entry_of_call script kept formed is its.lock its.place entry its.at its.real

    one_cpu : (entry other : Entry) → IsEntry script kept entry → IsEntry script kept other → other.call ≡ entry.call → other.cpu ≡ entry.cpu
    one_cpu entry other its others same =
        let first = of entry its in
        let second = of other others in
        let number : second.n ≡ first.n = omega (arith, first.number, second.number, same) in
        let call : second.call ≡ first.call = same_Some second.call first.call (sym second.called ∙ (ap (slice_get script.calls) number ∙ first.called)) in
        second.cpu ∙ (ap (λ (c : Call). c.cpu) call ∙ sym first.cpu)

    pub calls_have_one_cpu : CallsHaveOneCpu (all_entries kept.histories)
    calls_have_one_cpu =
        all_among (λ (entry : Entry). All (λ (other : Entry). other.call ≡ entry.call → other.cpu ≡ entry.cpu) (all_entries kept.histories)) (all_entries kept.histories) (λ entry there.
        all_among (λ (other : Entry). other.call ≡ entry.call → other.cpu ≡ entry.cpu) (all_entries kept.histories) (λ other others. one_cpu entry other (entry_is entry there) (entry_is other others)))

    pub one_cpu_read : (histories : List LockHistory) → histories ≡ kept.histories → CallsHaveOneCpu (all_entries histories)
    one_cpu_read histories same = subst (λ (hs : List LockHistory). CallsHaveOneCpu (all_entries hs)) (sym same) calls_have_one_cpu
