-- The record of a run is well shaped, by what its closed table tells beside that it is a record.
use Rattle.std.proofs.Common.{◌≡◌, ℕ, zero, suc, ◌+◌, ◌<◌, ◌≤◌, Bool, false, cond, List, [], ◌∷◌, length, map, refl, ap, sym, ◌∙◌, subst, arith}
use Rattle.std.specs.Prelude.{All, IsTrue, filter, ◌^◌}
use Rattle.std.specs.List.{range_with_len}
use Rattle.std.proofs.lemmas.List.Elements.{All-nil, All-cons, All-weaker}
use Rattle.map_types.specs.declared.attr.Shape.{Shape}
use Rattle.map_types.specs.declared.call.Call.{Call}
use Rattle.map_types.specs.declared.call.Verb.{Verb}
use Rattle.map_types.specs.declared.call.Verb.TheVariants.{Lookup, Update, Delete, Take, Next, BatchRead, BatchUpdate, BatchDelete, Each}
use Rattle.map_types.specs.declared.kind.DomainId.{DomainId}
use Rattle.map_types.specs.Kind.{is_lru}
use Rattle.place_words.specs.declared.history.LockHistory.{LockHistory}
use Rattle.place_words.specs.declared.finals.Finals.{Finals}
use Rattle.place_words.specs.Locks.{is_lock, lock_number}
use Rattle.place_words.specs.Named.{entries_of}
use Rattle.place_words.specs.Real.{IsAlwaysReal}
use Rattle.place_words.specs.Tickets.{all_entries}
use Rattle.place_words.proofs.LockLemmas.{named_by_number, number_within}
use Rattle.place_table.specs.Closing.{ClosedView, IsClosed}
use Rattle.place_table.specs.Passes.{PassView}
use Rattle.place_table.proofs.MapLeft as map_left
use Rattle.map_script.specs.declared.script.Script.{Script}
use Rattle.map_script.specs.WellFormed.{AreCuts}
use Rattle.map_report.specs.declared.record.PhaseStart.{PhaseStart}
use Rattle.map_report.specs.declared.record.RunRecord.{RunRecord}
use Rattle.map_report.specs.Record.{StartsRise}
use Rattle.map_report.specs.Runs.{serial}
use Rattle.record_shape.specs.OfTable.{HasFew, IsOfTable, NeverFall}
use Rattle.record_shape.specs.WellShaped.{WellShaped}
use Rattle.record_shape.proofs.Shaped.{shaped}
use Rattle.serial_laws.specs.Served.{HasFewEntries, IsScript, entry_count}
use Rattle.serial_laws.proofs.AnyRecord.{any_is_record, any_starts_rise}
use Rattle.run_records.specs.Races.{IsRaceRecord}
use Rattle.run_records.proofs.RaceHistories.{entries_told}
use Rattle.run_records.proofs.RaceTickets.{counted}
use Rattle.run_records.proofs.ShapeOrder.{race_in_order, serial_in_order}

pub few_of : (verb : Verb) → entry_count verb < 2 ^ 32 → HasFew verb
few_of (Lookup side key) few = tt
few_of (Update side flags key value) few = tt
few_of (Delete key) few = tt
few_of (Take key) few = tt
few_of (Next key) few = tt
few_of (BatchRead remove count start flags) few = tt
few_of (BatchUpdate flags pairs) few = few
few_of (BatchDelete flags keys) few = few
few_of (Each flags stop) few = tt

-- no bit is set, so none is told
none_set : (bits : ℕ → Bool) (from count : ℕ) → ((e : ℕ) → e < from + count → bits e ≡ false) → filter bits (range_with_len from count) ≡ []
none_set bits from zero clear = refl
none_set bits from (suc count) clear =
    ap (λ (b : Bool). cond b (from ∷ filter bits (range_with_len (from + 1) count)) (filter bits (range_with_len (from + 1) count))) (clear from (omega arith))
    ∙ none_set bits (from + 1) count (λ e less. clear e (omega (arith, less)))

-- no phase starts above the number of entries
none_above : (least count : ℕ) (starts : List PhaseStart) → AreCuts least count (map (λ (start : PhaseStart). start.ticket) starts) → All (λ (start : PhaseStart). start.ticket ≤ count) starts
none_above least count [] are = All-nil (λ (start : PhaseStart). start.ticket ≤ count)
none_above least count (start ∷ starts) are = All-cons (λ (one : PhaseStart). one.ticket ≤ count) start starts are.1 (none_above start.ticket count starts are.2)

module _ (script : Script) (some : IsScript script) (p : PassView) (closed : ClosedView) (ends : IsClosed script.shape p closed) (whole : closed.lost ≡ false) where
  abbrev shape : Shape
  shape = script.shape

  under : (lock : DomainId) → IsTrue (is_lock shape lock) → IsAlwaysReal shape lock (entries_of closed.histories lock)
  under lock is =
      let named = named_by_number shape lock is in
      subst (IsAlwaysReal shape lock) (sym (entries_told shape p closed ends whole lock is))
      (subst (λ (l : DomainId). IsAlwaysReal shape l (ends.log (lock_number shape lock))) named
      (ends.real (lock_number shape lock) (number_within shape lock is) (ap (is_lock shape) named ∙ is)))

  none_marked : is_lru shape.kind ≡ false → closed.finals.marked ≡ []
  none_marked plain = map_left.marked_are ends.left ∙ none_set ends.core.bit 0 shape.elements (λ e less. ends.unmarked plain e (omega (arith, less)))

  few_entries : (kept : RunRecord) → kept.histories ≡ closed.histories → length (all_entries kept.histories) < 2 ^ 64
  few_entries kept histories =
      subst (λ (l : List LockHistory). length (all_entries l) < 2 ^ 64) (sym histories)
      (subst (λ (n : ℕ). n < 2 ^ 64) (sym (counted shape p closed ends whole)) ends.counted)

  -- what is kept of a run is what its table left
  of_table : (kept : RunRecord) → kept.histories ≡ closed.histories → kept.finals ≡ closed.finals
      → StartsRise kept → NeverFall 0 kept.strands → IsOfTable script kept
  of_table kept histories finals rise in_order = record {
    few = All-weaker HasFewEntries (λ (call : Call). HasFew call.verb) (λ call few. few_of call.verb few) script.calls some.few_entries;
    real = λ lock is. subst (λ (l : List LockHistory). IsAlwaysReal shape lock (entries_of l lock)) (sym histories) (under lock is);
    unmarked = λ plain. ap (λ (f : Finals). f.marked) finals ∙ none_marked plain;
    counted = few_entries kept histories;
    starts =
        let few = few_entries kept histories in
        All-weaker (λ (start : PhaseStart). start.ticket ≤ length (all_entries kept.histories)) (λ (start : PhaseStart). start.ticket < 2 ^ 64) (λ start low. omega (arith, low, few)) kept.phases
        (none_above 0 (length (all_entries kept.histories)) kept.phases rise);
    in_order = in_order;
  }

  pub race_is_shaped : (kept : RunRecord) → IsRaceRecord script kept → kept.histories ≡ closed.histories → kept.finals ≡ closed.finals → WellShaped script kept
  race_is_shaped kept is histories finals =
      shaped script kept some.well_formed is.is_record (of_table kept histories finals is.starts_rise (race_in_order script kept is))

  pub serial_is_shaped : (kept : RunRecord) → kept ≡ serial script → kept.histories ≡ closed.histories → kept.finals ≡ closed.finals → WellShaped script kept
  serial_is_shaped kept is histories finals =
      subst (WellShaped script) (sym is)
      (shaped script (serial script) some.well_formed (any_is_record script some.well_formed)
      (of_table (serial script) (ap (λ (r : RunRecord). r.histories) (sym is) ∙ histories) (ap (λ (r : RunRecord). r.finals) (sym is) ∙ finals) (any_starts_rise script some.well_formed) (serial_in_order script)))
