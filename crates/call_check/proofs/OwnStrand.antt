-- The steps of a call are all in the strand of its CPU, in its phase.
use Rattle.std.proofs.Common.{◌≡◌, ℕ, zero, suc, ◌+◌, ◌-◌, ◌<◌, ◌≤◌, Bool, true, false, cond, eqb, List, [], ◌∷◌, length, get_or, Option, Some, None, refl, ap, sym, ◌∙◌, subst, inl, inr, arith}
use Rattle.std.specs.Prelude.{MatchOption, filter, option_map, slice_get, unwrap_or}
use Rattle.std.specs.List.{list_all, range_with_len}
use Rattle.std.proofs.lemmas.Bool.{and_parts, eq-eqb, eqb-true}
use Rattle.std.proofs.lemmas.Option.{none-some, same_Some, slice_get-get_or}
use Rattle.map_types.specs.declared.attr.Shape.{Shape}
use Rattle.map_types.specs.declared.call.Call.{Call}
use Rattle.map_types.specs.declared.kind.DomainId.{DomainId}
use Rattle.map_script.specs.declared.script.Script.{Script}
use Rattle.map_script.specs.WellFormed.{IsWellFormed}
use Rattle.place_words.specs.declared.history.Entry.{Entry}
use Rattle.place_words.specs.declared.history.LockHistory.{LockHistory}
use Rattle.place_words.specs.declared.history.Strand.{Strand}
use Rattle.place_words.specs.declared.history.StrandStep.{StrandStep}
use Rattle.place_words.specs.Locks.{is_lock, is_same_lock}
use Rattle.place_words.specs.Phases.{phase_count, phase_of}
use Rattle.place_words.specs.Strands.{places_on}
use Rattle.map_report.specs.declared.record.RunRecord.{RunRecord}
use Rattle.map_report.specs.Record.{entries_of, has_cpu, places_in}
use Rattle.record_shape.specs.Fits.{AllFit}
use Rattle.record_shape.specs.ShapedParts.{EntryFits, StepFits}
use Rattle.record_shape.specs.WellShaped.{HistoryFits, WellShaped}
use Rattle.place_words.proofs.LockLemmas.{one_lock, same_lock}
use Rattle.call_check.specs.PlainRows.{AreNamed}
use Rattle.record_flaws.specs.StrandFlaws.{AreStrandsRight, is_call_of, is_own_call, passes}
use Rattle.turn_order.proofs.Members.{IsAmong, place_among}
use Rattle.call_check.specs.StrandPlaces.{cell}
use Rattle.call_check.proofs.CpuLists.{in_range, passing_left}
use Rattle.call_check.proofs.KnownStrands.{fits}
use Rattle.call_check.proofs.KnownTurns.{fit_member}
use Rattle.call_check.proofs.StrandOrder.{in_strand}
use Rattle.call_check.specs.RightCalls.{call_named, named_by}
use Rattle.call_check.specs.Steps.{LeadToStrands}

all_at : {A : Type 0} (p : A → Bool) (xs : List A) → list_all p xs ≡ true → (k : ℕ) (d : A) → k < length xs → p (get_or xs k d) ≡ true
all_at p [] is k d within = absurd (omega (arith, within))
all_at p (x ∷ xs) is zero d within = (and_parts (p x) (list_all p xs) is).0
all_at p (x ∷ xs) is (suc k) d within = all_at p xs (and_parts (p x) (list_all p xs) is).1 k d (omega (arith, within))

-- Each of the places that a strand is to name has an entry of the strand.
record Placed (cuts : List ℕ) (phase : ℕ) (cpus : List ℕ) (from : ℕ) (entries : List Entry) (k : ℕ) : Type 0 where
  behind : ℕ
  entry : Entry
  k_is : k ≡ from + behind
  there : slice_get entries behind ≡ Some entry
  passes : in_strand cuts phase cpus entry ≡ true

placed_in : (cuts : List ℕ) (phase : ℕ) (cpus : List ℕ) (from : ℕ) (entries : List Entry) (k : ℕ) → IsAmong k (places_in cuts phase cpus from entries) → Placed cuts phase cpus from entries k
placed_in cuts phase cpus from [] k there = absurd there
placed_in cuts phase cpus from (x ∷ entries) k there = by (in_strand cuts phase cpus x) refl there (placed_in cuts phase cpus (suc from) entries k)
  where
    next : Placed cuts phase cpus (suc from) entries k → Placed cuts phase cpus from (x ∷ entries) k
    next found = let is = found.k_is in record { behind = suc found.behind; entry = found.entry; k_is = omega (arith, is); there = found.there; passes = found.passes }

    by : (b : Bool) → in_strand cuts phase cpus x ≡ b → IsAmong k (cond b (from ∷ places_in cuts phase cpus (suc from) entries) (places_in cuts phase cpus (suc from) entries))
        → (IsAmong k (places_in cuts phase cpus (suc from) entries) → Placed cuts phase cpus (suc from) entries k) → Placed cuts phase cpus from (x ∷ entries) k
    by true is (inl same) rest = record { behind = 0; entry = x; k_is = omega (arith, same); there = refl; passes = is }
    by true is (inr later) rest = next (rest later)
    by false is later rest = next (rest later)

-- the place that a step names stands among those that the steps name on its lock
place_on : (step : StrandStep) (steps : List StrandStep) → IsAmong step steps → IsAmong step.index (places_on step.lock steps)
place_on step [] there = absurd there
place_on step (first ∷ steps) (inl same) = subst (λ (s : StrandStep). IsAmong s.index (places_on s.lock (first ∷ steps))) same here
  where
    here : IsAmong first.index (places_on first.lock (first ∷ steps))
    here = subst (λ (b : Bool). IsAmong first.index (cond b (first.index ∷ places_on first.lock steps) (places_on first.lock steps))) (sym (same_lock first.lock)) (inl refl)
place_on step (first ∷ steps) (inr later) = by (is_same_lock first.lock step.lock) (place_on step steps later)
  where
    by : (b : Bool) → IsAmong step.index (places_on step.lock steps) → IsAmong step.index (cond b (first.index ∷ places_on step.lock steps) (places_on step.lock steps))
    by true rest = inr rest
    by false rest = rest

-- calls are numbered from 1
some_calls : (shape : Shape) (calls : ℕ) (histories : List LockHistory) → AllFit (HistoryFits shape calls) histories → (lock : DomainId) (index : ℕ) (entry : Entry)
    → slice_get (entries_of histories lock) index ≡ Some entry → 1 ≤ entry.call
some_calls shape calls [] fit lock index entry at = absurd (none-some entry at)
some_calls shape calls (history ∷ histories) fit lock index entry at = by (is_same_lock history.lock lock) (some_calls shape calls histories fit.1 lock index entry) at
  where
    in_entries : (lock : DomainId) (entries : List Entry) → AllFit (Rattle.record_shape.specs.ShapedParts.EntryFits shape calls lock) entries → (index : ℕ) → slice_get entries index ≡ Some entry → 1 ≤ entry.call
    in_entries lock [] fit index at = absurd (none-some entry at)
    in_entries lock (e ∷ entries) fit zero at = let same = ap (λ (x : Entry). x.call) (same_Some e entry at) in let some = fit.0.some_call in omega (arith, same, some)
    in_entries lock (e ∷ entries) fit (suc index) at = in_entries lock entries fit.1 index at

    by : (b : Bool) → (slice_get (entries_of histories lock) index ≡ Some entry → 1 ≤ entry.call) → slice_get (cond b history.entries (entries_of histories lock)) index ≡ Some entry → 1 ≤ entry.call
    by true rest at = in_entries history.lock history.entries fit.0.entries index at
    by false rest at = rest at

-- an entry of a lock's history fits that lock
pub entry_fits : (shape : Shape) (calls : ℕ) (histories : List LockHistory) → AllFit (HistoryFits shape calls) histories → (lock : DomainId) (index : ℕ) (entry : Entry)
    → slice_get (entries_of histories lock) index ≡ Some entry → EntryFits shape calls lock entry
entry_fits shape calls [] fit lock index entry at = absurd (none-some entry at)
entry_fits shape calls (history ∷ histories) fit lock index entry at = by (is_same_lock history.lock lock) refl (entry_fits shape calls histories fit.1 lock index entry) at
  where
    in_entries : (entries : List Entry) → AllFit (EntryFits shape calls history.lock) entries → (index : ℕ) → slice_get entries index ≡ Some entry → EntryFits shape calls history.lock entry
    in_entries [] fit index at = absurd (none-some entry at)
    in_entries (e ∷ entries) fit zero at = subst (EntryFits shape calls history.lock) (same_Some e entry at) fit.0
    in_entries (e ∷ entries) fit (suc index) at = in_entries entries fit.1 index at

    by : (b : Bool) → is_same_lock history.lock lock ≡ b → (slice_get (entries_of histories lock) index ≡ Some entry → EntryFits shape calls lock entry)
        → slice_get (cond b history.entries (entries_of histories lock)) index ≡ Some entry → EntryFits shape calls lock entry
    by true same rest at = subst (λ (l : DomainId). EntryFits shape calls l entry) (one_lock history.lock lock same) (in_entries history.entries fit.0.entries index at)
    by false other rest at = rest at

-- what a step of a strand names
pub record OwnEntry (script : Script) (kept : RunRecord) (strand : Strand) (step : StrandStep) : Type 0 where
  pub entry : Entry
  pub is : named_by kept.histories step ≡ Some entry
  pub some : 1 ≤ entry.call
  pub called : call_named kept.histories step ≡ entry.call
  pub phase : phase_of script.cuts entry.call ≡ strand.phase
  pub caller : is_call_of script.calls strand.cpus entry ≡ true

module _ (script : Script) (kept : RunRecord) (formed : IsWellFormed script) (well : WellShaped script kept) (right : AreStrandsRight script kept) where
  pub own_entry : (n : ℕ) (strand : Strand) → slice_get kept.strands n ≡ Some strand → (k : ℕ) (d : StrandStep) → k < length strand.steps → OwnEntry script kept strand (get_or strand.steps k d)
  own_entry n strand at k d within =
      let step : StrandStep = get_or strand.steps k d in
      let inside : IsAmong step strand.steps = place_among step strand.steps k (slice_get-get_or strand.steps k d within) in
      let lock : is_lock script.shape step.lock ≡ true = (fit_member (StepFits script.shape) strand.steps (fits script kept formed well n strand at).steps step inside).lock in
      let placed = placed_in script.cuts strand.phase strand.cpus 0 (entries_of kept.histories step.lock) step.index
      (subst (λ (l : List ℕ). IsAmong step.index l) (right.steps n strand at step.lock lock) (place_on step strand.steps inside)) in
      let index : placed.behind ≡ step.index = let is = placed.k_is in omega (arith, is) in
      let named : (entry : Entry) × (named_by kept.histories step ≡ Some entry) × (in_strand script.cuts strand.phase strand.cpus entry ≡ true) =
      (placed.entry, ap (slice_get (entries_of kept.histories step.lock)) (sym index) ∙ placed.there, placed.passes) in
      let own = all_at (is_own_call script kept strand) strand.steps (right.own_calls n strand at) k d within in
      record {
        entry = named.0;
        is = named.1;
        some = some_calls script.shape (length script.calls) kept.histories well.histories (get_or strand.steps k d).lock (get_or strand.steps k d).index named.0 named.1;
        called = ap (λ (o : Option Entry). unwrap_or (option_map (λ (entry : Entry). entry.call) o) 0) named.1;
        phase = eqb-true (phase_of script.cuts named.0.call) strand.phase (and_parts (eqb (phase_of script.cuts named.0.call) strand.phase) (has_cpu named.0.cpu strand.cpus) named.2).0;
        caller = sym (ap (passes (is_call_of script.calls strand.cpus)) named.1) ∙ own;
      }

  pub some_named : (n : ℕ) (strand : Strand) → slice_get kept.strands n ≡ Some strand → (k : ℕ) (d : StrandStep) → k < length strand.steps → 1 ≤ call_named kept.histories (get_or strand.steps k d)
  some_named n strand at k d within = let own = own_entry n strand at k d within in omega (arith, own.called, own.some)

  -- the strand of a step of a call is the one to which its CPU leads
  pub own_strand : (table : List ℕ) → LeadToStrands kept.strands table → (n : ℕ) (strand : Strand) → slice_get kept.strands n ≡ Some strand → (k : ℕ) (d : StrandStep) → k < length strand.steps
      → (place : ℕ) (call : Call) → slice_get script.calls place ≡ Some call → call_named kept.histories (get_or strand.steps k d) ≡ suc place
      → get_or table (cell (phase_of script.cuts (suc place)) call.cpu) 0 ≡ n
  own_strand table lead n strand at k d within place call at_call named =
      let own = own_entry n strand at k d within in
      let number : own.entry.call ≡ suc place = sym own.called ∙ named in
      let less : own.entry.call - 1 ≡ place = omega (arith, number) in
      let phase : strand.phase ≡ phase_of script.cuts (suc place) = sym own.phase ∙ ap (phase_of script.cuts) number in
      let has : has_cpu call.cpu strand.cpus ≡ true =
      sym (ap (λ (j : ℕ). unwrap_or (option_map (λ (c : Call). has_cpu c.cpu strand.cpus) (slice_get script.calls j)) false) less
      ∙ ap (λ (o : Option Call). unwrap_or (option_map (λ (c : Call). has_cpu c.cpu strand.cpus) o) false) at_call) ∙ own.caller in
      subst (λ (p : ℕ). get_or table (cell p call.cpu) 0 ≡ n) phase (lead n strand at call.cpu has)

-- the strand of a CPU in a phase
pub record HomeOf (kept : RunRecord) (table : List ℕ) (phase cpu : ℕ) : Type 0 where
  pub strand : Strand
  pub at : slice_get kept.strands (get_or table (cell phase cpu) 0) ≡ Some strand
  pub phase_is : strand.phase ≡ phase
  pub has : has_cpu cpu strand.cpus ≡ true

pub home_of : (script : Script) (kept : RunRecord) → AreStrandsRight script kept → (table : List ℕ) → LeadToStrands kept.strands table → (phase cpu : ℕ) → phase < phase_count script.cuts → cpu < script.shape.cpus
    → HomeOf kept table phase cpu
home_of script kept right table lead phase cpu phase_in cpu_in = by (slice_get kept.strands (right.strand_of phase cpu)) refl (right.in_strand phase cpu phase_in cpu_in)
  where
    by : (o : Option Strand) → slice_get kept.strands (right.strand_of phase cpu) ≡ o → MatchOption o ⊥ (λ (strand : Strand). strand.phase ≡ phase) → HomeOf kept table phase cpu
    by None at of_phase = absurd of_phase
    by (Some strand) at of_phase =
        let left : has_cpu cpu (filter (λ c. eqb (right.strand_of strand.phase c) (right.strand_of phase cpu)) (range_with_len 0 script.shape.cpus)) ≡ true =
        passing_left (λ c. eqb (right.strand_of strand.phase c) (right.strand_of phase cpu)) cpu (range_with_len 0 script.shape.cpus) (in_range cpu 0 script.shape.cpus (omega arith) (omega (arith, cpu_in)))
        (eq-eqb (right.strand_of strand.phase cpu) (right.strand_of phase cpu) (ap (λ (q : ℕ). right.strand_of q cpu) of_phase)) in
        let there : has_cpu cpu strand.cpus ≡ true = subst (λ (cpus : List ℕ). has_cpu cpu cpus ≡ true) (sym (right.cpus_are (right.strand_of phase cpu) strand at).1) left in
        let home : get_or table (cell phase cpu) 0 ≡ right.strand_of phase cpu = subst (λ (p : ℕ). get_or table (cell p cpu) 0 ≡ right.strand_of phase cpu) of_phase (lead (right.strand_of phase cpu) strand at cpu there) in
        record { strand = strand; at = ap (slice_get kept.strands) home ∙ at; phase_is = of_phase; has = there }

-- each step names an entry
pub named_from : (script : Script) (kept : RunRecord) (strand : Strand) (steps : List StrandStep) → AllFit (StepFits script.shape) steps
    → ((k : ℕ) (d : StrandStep) → k < length steps → OwnEntry script kept strand (get_or steps k d)) → AreNamed script.shape kept.histories steps
named_from script kept strand [] fit own = tt
named_from script kept strand (step ∷ steps) fit own =
    let here = own 0 step (omega arith) in
    (record { lock = fit.0.lock; entry = here.entry; is = here.is }, named_from script kept strand steps fit.1 (λ k d less. own (suc k) d (omega (arith, less))))
