-- The refills among the turns that a CPU's steps name were allowed where they stand.
use Rattle.std.proofs.Common.{◌≡◌, ℕ, zero, suc, Bool, true, false, cond, eqb, List, [], ◌∷◌, ◌++◌, map, take, Option, Some, refl, ap, sym, ◌∙◌, subst}
use Rattle.std.specs.Prelude.{All, option_map, option_to_list, slice_get, unwrap_or}
use Rattle.std.specs.List.{list_all}
use Rattle.std.proofs.lemmas.Bool.{and_parts, both_ways, eqb-true}
use Rattle.std.proofs.lemmas.Option.{get_or_from_slice_get, none-some, same_Some}
use Rattle.map_types.specs.declared.attr.Shape.{Shape}
use Rattle.map_types.specs.declared.kind.DomainId.{DomainId}
use Rattle.place_words.specs.declared.history.Entry.{Entry}
use Rattle.place_words.specs.declared.history.LockHistory.{LockHistory}
use Rattle.place_words.specs.declared.history.Part.{Part}
use Rattle.place_words.specs.declared.history.Part.TheVariants as parts
use Rattle.place_words.specs.declared.history.StrandStep.{StrandStep}
use Rattle.place_words.specs.declared.list_part.LocalPart.TheVariants as local
use Rattle.place_words.specs.Histories.{AllAllowed, Allows, Content, IsLegal, content, content_after, opening_content, replayed}
use Rattle.place_words.specs.Locks.{is_lock, lock_number}
use Rattle.place_words.specs.Named.{entries_of}
use Rattle.map_report.specs.Record.{locks_of}
use Rattle.record_shape.specs.WellShaped.{lock_of}
use Rattle.call_check.specs.StrandPlaces.{place_of}
use Rattle.call_check.proofs.Places.{history_at}
use Rattle.evicting_traces.specs.Reading.{AreRefillsLegal, IsRefillLegal, is_refill}
use Rattle.call_check.specs.PlainRows.{AreNamed}
use Rattle.call_check.specs.RightCalls.{entries_below, is_moved, is_of_cpu, named_by, turn_named, turns_named}

-- a turn of a history that replays
allowed_there : (shape : Shape) (here : Content) (entries : List Entry) (index : ℕ) (entry : Entry) → slice_get entries index ≡ Some entry → AllAllowed shape here entries
    → AllAllowed shape here (take index entries) × Allows shape entry.cpu entry.part (replayed shape here (take index entries))
unfolding AllAllowed replayed
allowed_there shape here [] index entry at all = absurd (none-some entry at)
allowed_there shape here (e ∷ entries) zero entry at all = (tt, subst (λ (x : Entry). Allows shape x.cpu x.part here) (same_Some e entry at) all.0)
allowed_there shape here (e ∷ entries) (suc index) entry at all =
    let rest = allowed_there shape (content_after shape e.cpu e.part here) entries index entry at all.1 in
    ((all.0, rest.0), rest.1)

-- a refill isn't such a push
not_moved : (part : Part) → is_refill part ≡ true → is_moved part ≡ false
not_moved (parts.Bucket part) is = refl
not_moved (parts.Free part) is = refl
not_moved (parts.Local (local.Pop hash e)) is = refl
not_moved (parts.Local (local.Refill hash flushed gained got)) is = refl
not_moved (parts.Local (local.Steal got first second)) is = refl
not_moved (parts.Local (local.Add hash e cursor)) is = refl
not_moved (parts.Local (local.Push e done)) is = absurd (both_ways false refl is)
not_moved (parts.Global part) is = refl
not_moved (parts.Own part) is = refl

module _ (shape : Shape) (histories : List LockHistory) (locks : map lock_of histories ≡ locks_of shape)
    (legal : All (λ (history : LockHistory). IsLegal shape history.lock history.entries) histories) where
  lock_legal : (lock : DomainId) → is_lock shape lock ≡ true → IsLegal shape lock (entries_of histories lock)
  lock_legal lock is =
      let there = history_at shape histories locks lock is in
      let at : IsLegal shape there.history.lock there.history.entries =
      subst (λ (h : LockHistory). IsLegal shape h.lock h.entries)
      (get_or_from_slice_get histories (place_of shape (lock_number shape lock)) there.history there.history there.there)
      (legal (place_of shape (lock_number shape lock)) there.history there.within) in
      subst (IsLegal shape lock) (sym there.entries_are) (subst (λ (l : DomainId). IsLegal shape l there.history.entries) there.lock_is at)

  of_step : (cpu : ℕ) (step : StrandStep) → is_lock shape step.lock ≡ true → (entry : Entry) → named_by histories step ≡ Some entry → entry.cpu ≡ cpu → IsRefillLegal shape cpu (turn_named histories step entry)
  of_step cpu step is entry at own refill =
      let entries : List Entry = entries_of histories step.lock in
      let there = allowed_there shape (opening_content shape step.lock) entries step.index entry at (lock_legal step.lock is) in
      let front : cond (is_moved entry.part) (entries_below entry.ticket entries) (take step.index entries) ≡ take step.index entries =
      ap (λ (b : Bool). cond b (entries_below entry.ticket entries) (take step.index entries)) (not_moved entry.part refill) in
      subst (λ (earlier : List Entry). IsLegal shape step.lock earlier × Allows shape cpu entry.part (content shape step.lock earlier)) (sym front)
      (there.0, subst (λ (c : ℕ). Allows shape c entry.part (content shape step.lock (take step.index entries))) own there.1)

  own_entry : (cpu : ℕ) (o : Option Entry) (entry : Entry) → o ≡ Some entry → unwrap_or (option_map (λ (entry : Entry). eqb entry.cpu cpu) o) false ≡ true → entry.cpu ≡ cpu
  own_entry cpu o entry at is = eqb-true entry.cpu cpu (sym (ap (λ (o : Option Entry). unwrap_or (option_map (λ (entry : Entry). eqb entry.cpu cpu) o) false) at) ∙ is)

  pub refills_legal : (cpu : ℕ) (row : List StrandStep) → AreNamed shape histories row → list_all (is_of_cpu histories cpu) row ≡ true → AreRefillsLegal shape cpu (turns_named histories row)
  refills_legal cpu [] named own = tt
  refills_legal cpu (step ∷ steps) named own =
      let both = and_parts (is_of_cpu histories cpu step) (list_all (is_of_cpu histories cpu) steps) own in
      let rest = refills_legal cpu steps named.1 both.1 in
      let here = of_step cpu step named.0.lock named.0.entry named.0.is (own_entry cpu (named_by histories step) named.0.entry named.0.is both.0) in
      subst (λ (o : Option Entry). AreRefillsLegal shape cpu (option_to_list (option_map (turn_named histories step) o) ++ turns_named histories steps)) (sym named.0.is) (here, rest)
