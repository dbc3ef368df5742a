-- The strands of a record fit, and the starts of its phases.
use Rattle.std.proofs.Common.{◌≡◌, ◌≢◌, ℕ, suc, ◌+◌, ◌<◌, ◌≤◌, ◌^◌, Bool, true, false, cond, eqb, List, [], ◌∷◌, ◌++◌, map, length, get_or, refl, ap, ◌∙◌, sym, subst, ⊎_elim, arith}
use Rattle.std.specs.Prelude.{All, MatchBool, Option, Some, filter, slice_get}
use Rattle.std.specs.List.{range_with_len}
use Rattle.std.proofs.lemmas.Bool.{eq-eqb, ne_eqb}
use Rattle.std.proofs.lemmas.List.{length-append, length-map}
use Rattle.std.proofs.lemmas.List.Elements.{All-filter, All-weaker, filter_passes}
use Rattle.std.proofs.lemmas.Option.{get_or_from_slice_get, same_Some, slice_get-get_or, slice_get_within}
use Rattle.map_types.specs.declared.attr.Shape.{Shape}
use Rattle.map_types.specs.declared.call.Call.{Call}
use Rattle.map_types.specs.declared.kind.DomainId.{DomainId}
use Rattle.map_types.specs.declared.reply.Reply.{Reply}
use Rattle.map_types.specs.ElementLists.{put}
use Rattle.place_words.specs.declared.history.Entry.{Entry}
use Rattle.place_words.specs.declared.history.LockHistory.{LockHistory}
use Rattle.place_words.specs.declared.history.Strand.{Strand}
use Rattle.place_words.specs.declared.history.StrandStep.{StrandStep}
use Rattle.place_words.specs.Locks.{is_lock, is_same_lock, lock_count, lock_named}
use Rattle.place_words.specs.Named.{NameAll, Names, entries_of}
use Rattle.place_words.specs.Phases.{phase_count}
use Rattle.place_words.specs.Tickets.{AscendIn, all_entries, ticket_at}
use Rattle.place_words.specs.Turns.{TurnAt}
use Rattle.place_words.specs.Walks.{spare_left}
use Rattle.place_words.proofs.LockLemmas.{one_lock}
use Rattle.place_words.proofs.PlainLaws.{chosen_second}
use Rattle.place_words.proofs.Supplies.{first_of_two}
use Rattle.map_script.specs.declared.script.Script.{Script}
use Rattle.map_script.specs.WellFormed.{IsWellFormed}
use Rattle.map_report.specs.declared.record.PhaseStart.{PhaseStart}
use Rattle.map_report.specs.declared.record.RunRecord.{RunRecord}
use Rattle.map_report.specs.Record.{IsConcatenation, IsRecord, has_cpu, locks_of}
use Rattle.map_report.proofs.ListedAtRest.{all_to, ascends as kept_ascend}
use Rattle.record_shape.specs.Fits.{AllFit, ascends}
use Rattle.record_shape.specs.OfTable.{IsOfTable, NeverFall}
use Rattle.record_shape.specs.ShapedParts.{CpusFit, StartFits, StepFits}
use Rattle.record_shape.specs.WellShaped.{SoManyFit, StartsFit, StrandFits, StrandsFit, only_start}
use Rattle.record_shape.proofs.FinalsFit.{all_ascend, fit_from_all, marks_fit}

-- ---- the starts of phases

alone : (starts : List PhaseStart) (start : PhaseStart) → length starts ≡ 1 → slice_get starts 0 ≡ Some start → starts ≡ start ∷ []
alone [] start one first = absurd cc
alone (x ∷ []) start one first = ap (λ (s : PhaseStart). s ∷ []) (same_Some x start first)
alone (x ∷ y ∷ starts) start one first = absurd (omega (arith, one))

pub starts_fit : (script : Script) (kept : RunRecord) → IsWellFormed script → IsRecord script kept → IsOfTable script kept → StartsFit script kept.phases
starts_fit script kept formed is_record of_table =
    ⊎_elim
    (λ (plain : (script.version ≡ 1) × (script.cuts ≡ [])).
    let other : script.version ≢ 2 = λ two. absurd (omega (arith, plain.0, two)) in
    let one : length kept.phases ≡ 1 = is_record.one_each ∙ ap phase_count plain.1 in
    chosen_second (eqb script.version 2) (SoManyFit (phase_count script.cuts) (StartFits script.shape) kept.phases) (kept.phases ≡ only_start ∷ []) (ne_eqb script.version 2 other) (alone kept.phases only_start one is_record.first))
    (λ (two : script.version ≡ 2). first_of_two (eqb script.version 2) (SoManyFit (phase_count script.cuts) (StartFits script.shape) kept.phases) (kept.phases ≡ only_start ∷ []) (eq-eqb script.version 2 two) (all_fit, is_record.one_each))
    formed.phases.known
  where
    start_fits : (k : ℕ) (d : PhaseStart) → k < length kept.phases → StartFits script.shape (get_or kept.phases k d)
    start_fits k d below =
        let marked = is_record.marked k d below in
        record { ticket = of_table.starts k d below; marked = marks_fit script.shape (get_or kept.phases k d).marked marked.0 marked.1 }

    all_fit : AllFit (StartFits script.shape) kept.phases
    all_fit = fit_from_all (StartFits script.shape) kept.phases start_fits

-- ---- the steps of strands

fit_both : {A : Type 0} (Fits : A → Type 0) (front back : List A) → AllFit Fits front → AllFit Fits back → AllFit Fits (front ++ back)
fit_both Fits [] back first second = second
fit_both Fits (item ∷ front) back first second = (first.0, fit_both Fits front back first.1 second)

fit_of_map : {A B : Type 0} (Fits : B → Type 0) (f : A → B) (items : List A) → AllFit Fits (map f items) → AllFit (λ (item : A). Fits (f item)) items
fit_of_map Fits f [] fit = tt
fit_of_map Fits f (item ∷ items) fit = (fit.0, fit_of_map Fits f items fit.1)

fit_map : {A B : Type 0} (Fits : B → Type 0) (f : A → B) (items : List A) → AllFit (λ (item : A). Fits (f item)) items → AllFit Fits (map f items)
fit_map Fits f [] fit = tt
fit_map Fits f (item ∷ items) fit = (fit.0, fit_map Fits f items fit.1)

either_way : (b : Bool) (A B C : Type 0) → (A → C) → (B → C) → MatchBool b A B → C
either_way true A B C first second it = first it
either_way false A B C first second it = second it

-- a lock that has an entry is one that has a history
has_history : (Fits : DomainId → Type 0) (histories : List LockHistory) (lock : DomainId) (index : ℕ) (entry : Entry)
    → AllFit (λ (history : LockHistory). Fits history.lock) histories → slice_get (entries_of histories lock) index ≡ Some entry → Fits lock
has_history Fits [] lock index entry fit is = absurd cc
has_history Fits (history ∷ histories) lock index entry fit is =
    by (is_same_lock history.lock lock) refl (λ found. has_history Fits histories lock index entry fit.1 found) is
  where
    by : (same : Bool) → is_same_lock history.lock lock ≡ same → (slice_get (entries_of histories lock) index ≡ Some entry → Fits lock)
        → slice_get (cond same history.entries (entries_of histories lock)) index ≡ Some entry → Fits lock
    by true same later found = subst Fits (one_lock history.lock lock same) fit.0
    by false other later found = later found

-- a history is no longer than all of them
entries_counted : (histories : List LockHistory) (lock : DomainId) → length (entries_of histories lock) ≤ length (all_entries histories)
entries_counted [] lock = omega arith
entries_counted (history ∷ histories) lock = by (is_same_lock history.lock lock) (entries_counted histories lock)
  where
    by : (same : Bool) → length (entries_of histories lock) ≤ length (all_entries histories) → length (cond same history.entries (entries_of histories lock)) ≤ length (history.entries ++ all_entries histories)
    by true later = omega (arith, length-append history.entries (all_entries histories))
    by false later = omega (arith, length-append history.entries (all_entries histories), later)

pub locks_are : (shape : Shape) → AllFit (λ (lock : DomainId). is_lock shape lock ≡ true) (locks_of shape)
locks_are shape =
    let test : ℕ → Bool = λ k. is_lock shape (lock_named shape k) in
    fit_map (λ (lock : DomainId). is_lock shape lock ≡ true) (lock_named shape) (filter test (range_with_len 0 (lock_count shape)))
    (fit_from_all (λ (k : ℕ). is_lock shape (lock_named shape k) ≡ true) (filter test (range_with_len 0 (lock_count shape))) (filter_passes test (range_with_len 0 (lock_count shape))))

module _ (shape : Shape) (histories : List LockHistory) (locks : AllFit (λ (history : LockHistory). is_lock shape history.lock ≡ true) histories) (counted : length (all_entries histories) < 2 ^ 64) where
  step_fits : (cpu number : ℕ) (step : StrandStep) (at : TurnAt) → Names histories cpu number step at → StepFits shape step
  step_fits cpu number step at named =
      let within = slice_get_within (entries_of histories step.lock) step.index _ named.entry in
      record {
        lock = has_history (λ (lock : DomainId). is_lock shape lock ≡ true) histories step.lock step.index _ locks named.entry;
        index = omega (arith, within, entries_counted histories step.lock, counted);
      }

  steps_of_call : (cpu number : ℕ) (steps : List StrandStep) (turns : List TurnAt) → NameAll histories cpu number steps turns → AllFit (StepFits shape) steps
  steps_of_call cpu number [] turns named = tt
  steps_of_call cpu number (step ∷ steps) [] named = absurd named
  steps_of_call cpu number (step ∷ steps) (at ∷ turns) named = (step_fits cpu number step at named.0, steps_of_call cpu number steps turns named.1)

  steps_of_calls : (cpus : List ℕ) (number : ℕ) (calls : List Call) (replies : List Reply) (spares last : ℕ → Option ℕ) (steps : List StrandStep)
      → IsConcatenation shape histories cpus number calls replies spares last steps → AllFit (StepFits shape) steps
  steps_of_calls cpus number [] replies spares last steps is = subst (AllFit (StepFits shape)) (sym is.0) tt
  steps_of_calls cpus number (call ∷ calls) [] spares last steps is = absurd is
  steps_of_calls cpus number (call ∷ calls) (reply ∷ replies) spares last steps is =
      either_way (has_cpu call.cpu cpus) _ _ (AllFit (StepFits shape) steps)
      (λ parts.
      let mine : AllFit (StepFits shape) parts.0 = steps_of_call call.cpu number parts.0 parts.2 parts.4.names in
      let rest : AllFit (StepFits shape) parts.1 = steps_of_calls cpus (suc number) calls replies (put spares call.cpu (spare_left shape (spares call.cpu) parts.2)) last parts.1 parts.5 in
      subst (AllFit (StepFits shape)) (sym parts.3) (fit_both (StepFits shape) parts.0 parts.1 mine rest))
      (λ parts. steps_of_calls cpus (suc number) calls replies spares last steps parts)
      is

-- numbers that ascend in a range are no more than it has
ascending_counted : (numbers : List ℕ) (from to : ℕ) → AscendIn from numbers to → from + length numbers ≤ to
ascending_counted [] from to ascend = omega (arith, ascend)
ascending_counted (x ∷ numbers) from to ascend = omega (arith, ascend.0, ascending_counted numbers (suc x) to ascend.1)

-- ---- strands

cpus_fit : (shape : Shape) (test : ℕ → Bool) (cpus : List ℕ) → cpus ≡ filter test (range_with_len 0 shape.cpus) → CpusFit shape cpus
cpus_fit shape test cpus are =
    let all : All (λ (cpu : ℕ). cpu < shape.cpus) (range_with_len 0 shape.cpus) =
    All-weaker (λ (cpu : ℕ). cpu < 0 + shape.cpus) (λ (cpu : ℕ). cpu < shape.cpus) (λ cpu less. omega (arith, less)) (range_with_len 0 shape.cpus) (all_to 0 shape.cpus) in
    let kept_below : AllFit (λ (cpu : ℕ). cpu < shape.cpus) (filter test (range_with_len 0 shape.cpus)) =
    fit_from_all (λ (cpu : ℕ). cpu < shape.cpus) (filter test (range_with_len 0 shape.cpus)) (All-filter test (λ (cpu : ℕ). cpu < shape.cpus) (range_with_len 0 shape.cpus) all) in
    record {
      below = subst (AllFit (λ (cpu : ℕ). cpu < shape.cpus)) (sym are) kept_below;
      ascending = ap ascends are ∙ all_ascend (filter test (range_with_len 0 shape.cpus)) (kept_ascend test 0 shape.cpus);
    }

-- each fits where it stands, and their phases never fall
in_their_order : (script : Script) (least : ℕ) (strands : List Strand) → NeverFall least strands → AllFit (λ (strand : Strand). StrandFits script strand.phase strand) strands → StrandsFit script least strands
in_their_order script least [] order fit = tt
in_their_order script least (strand ∷ strands) order fit = (
  record { in_order = order.0; phase = fit.0.phase; cpus = fit.0.cpus; steps = fit.0.steps; counted = fit.0.counted },
  in_their_order script strand.phase strands order.1 fit.1,
)

module _ (script : Script) (kept : RunRecord) (is_record : IsRecord script kept) (of_table : IsOfTable script kept) where
  has_locks : AllFit (λ (history : LockHistory). is_lock script.shape history.lock ≡ true) kept.histories
  has_locks =
      fit_of_map (λ (lock : DomainId). is_lock script.shape lock ≡ true) (λ (history : LockHistory). history.lock) kept.histories
      (subst (AllFit (λ (lock : DomainId). is_lock script.shape lock ≡ true)) (sym is_record.locks) (locks_are script.shape))

  strand_fits : (n : ℕ) (strand : Strand) → slice_get kept.strands n ≡ Some strand → StrandFits script strand.phase strand
  strand_fits n strand there =
      let of_cpus = is_record.cpus_are n strand there in
      let tickets : AscendIn 0 (map (ticket_at kept.histories) strand.steps) (length (all_entries kept.histories)) =
      subst (λ (s : Strand). AscendIn 0 (map (ticket_at kept.histories) s.steps) (length (all_entries kept.histories))) (get_or_from_slice_get kept.strands n strand strand there)
      (is_record.tickets.in_strands n strand (slice_get_within kept.strands n strand there)) in
      let few = ascending_counted (map (ticket_at kept.histories) strand.steps) 0 (length (all_entries kept.histories)) tickets in
      let all_counted = of_table.counted in
      record {
        in_order = omega arith;
        phase = of_cpus.0;
        cpus = cpus_fit script.shape (λ cpu. eqb (is_record.strand_of strand.phase cpu) n) strand.cpus of_cpus.1;
        steps = steps_of_calls script.shape kept.histories has_locks of_table.counted strand.cpus _ _ _ _ _ strand.steps (is_record.calls_are n strand there);
        counted = omega (arith, few, all_counted, length-map strand.steps (ticket_at kept.histories));
      }

  each_strand : AllFit (λ (strand : Strand). StrandFits script strand.phase strand) kept.strands
  each_strand =
      fit_from_all (λ (strand : Strand). StrandFits script strand.phase strand) kept.strands (λ k d below. strand_fits k (get_or kept.strands k d) (slice_get-get_or kept.strands k d below))

pub strands_fit : (script : Script) (kept : RunRecord) → IsWellFormed script → IsRecord script kept → IsOfTable script kept → StrandsFit script 0 kept.strands
strands_fit script kept formed is_record of_table = in_their_order script 0 kept.strands of_table.in_order (each_strand script kept is_record of_table)
