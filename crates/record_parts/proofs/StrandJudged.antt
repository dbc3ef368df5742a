-- What the tables tell of a strand is whether it is right.
use Rattle.std.proofs.Common.{◌≡◌, ℕ, zero, suc, ◌+◌, ◌<◌, ◌≤◌, Bool, true, false, eqb, ◌&&◌, ◌||◌, List, [], ◌∷◌, ◌++◌, length, get_or, replicate, take, Some, refl, ap, sym, ◌∙◌, subst, inl, inr, arith, length-take}
use Rattle.std.specs.Prelude.{All, slice_get, IsTrue}
use Rattle.std.specs.List.{flat_map, list_any}
use Rattle.std.proofs.lemmas.Bool.{both_ways, cases_eq, eq-eqb, eqb-true, ne_eqb}
use Rattle.std.proofs.lemmas.List.Elements.{All-nil, All-cons}
use Rattle.std.proofs.lemmas.List.{length-replicate}
use Rattle.std.proofs.lemmas.List.Folds.{list_any_more}
use Rattle.std.proofs.lemmas.Option.{slice_get_within, slice_get_read, same_Some}
use Rattle.map_types.specs.declared.kind.DomainId.{DomainId}
use Rattle.map_types.specs.ElementLists.{one}
use Rattle.map_types.proofs.CreationLemmas.{bounds_of_shape}
use Rattle.map_script.specs.declared.script.Script.{Script}
use Rattle.map_script.specs.WellFormed.{IsWellFormed}
use Rattle.place_words.specs.declared.history.Entry.{Entry}
use Rattle.place_words.specs.declared.history.LockHistory.{LockHistory}
use Rattle.place_words.specs.declared.history.Strand.{Strand}
use Rattle.place_words.specs.Locks.{is_lock, is_same_lock}
use Rattle.place_words.specs.Phases.{phase_of}
use Rattle.place_words.specs.Strands.{places_on}
use Rattle.place_words.specs.Tickets.{AscendIn, all_entries}
use Rattle.map_report.specs.declared.record.RunRecord.{RunRecord}
use Rattle.map_report.specs.Record.{entries_of, has_cpu, places_in}
use Rattle.record_shape.specs.Fits.{AllFit}
use Rattle.record_shape.specs.ShapedParts.{StepFits}
use Rattle.record_shape.specs.WellShaped.{HistoryFits, StrandFits, WellShaped}
use Rattle.record_shape.proofs.ByPlaces.{at_taken, fit_at, fit_each, taken_at}
use Rattle.record_shape.proofs.HistoriesOf.{histories_differ, lock_real, own_entries}
use Rattle.record_flaws.specs.StrandFlaws.{EachStands, HasOwnSteps, IsRightPlace, IsRightStrand, has_in_phase}
use Rattle.record_parts.specs.StrandTables.{AreCounts, AreMet, are_named, cell, cell_of, entries_due, has_met, is_own}
use Rattle.record_parts.proofs.CpuLists.{any_at, ascend_in, first_there}
use Rattle.record_parts.proofs.NamedEntries.{AreTaken, all_taken, named_taken, taken_named, taken_part}
use Rattle.record_parts.proofs.Places.{history_at}
use Rattle.record_parts.proofs.StrandLaws.{strand_fits}
use Rattle.record_parts.proofs.Sums.{counted, each_same, on_one, one_cpu, places_counted, steps_counted, total, total_flat, total_is, total_same, total_swap}

fit_weaker : {A : Type 0} (P Q : A → Type 0) → ((x : A) → P x → Q x) → (xs : List A) → AllFit P xs → AllFit Q xs
fit_weaker P Q more [] fit = tt
fit_weaker P Q more (x ∷ xs) fit = (more x fit.0, fit_weaker P Q more xs fit.1)

pub all_of_fit : {A : Type 0} (P : A → Type 0) (xs : List A) → AllFit P xs → All P xs
all_of_fit P [] fit = All-nil P
all_of_fit P (x ∷ xs) fit = All-cons P x xs fit.0 (all_of_fit P xs fit.1)

fit_two : {A : Type 0} (P : A → Type 0) (xs ys : List A) → AllFit P xs → AllFit P ys → AllFit P (xs ++ ys)
fit_two P [] ys fit more = more
fit_two P (x ∷ xs) ys fit more = (fit.0, fit_two P xs ys fit.1 more)

ascend_wide : (from : ℕ) (xs : List ℕ) (to more : ℕ) → to ≤ more → AscendIn from xs to → AscendIn from xs more
ascend_wide from xs to more less ascend = Rattle.place_words.proofs.Ascending.ascend_to from xs to more less ascend

module _ (script : Script) (kept : RunRecord) (formed : IsWellFormed script) (well : WellShaped script kept) where
  few_cpus : script.shape.cpus ≤ 16
  few_cpus = (bounds_of_shape script.shape formed.shape).cpus_bounded

  abbrev OnCpus : LockHistory → Type 0
  OnCpus history = AllFit (λ (entry : Entry). entry.cpu < 16) history.entries

  fit_cpus : AllFit OnCpus kept.histories
  fit_cpus = fit_weaker (HistoryFits script.shape (length script.calls)) OnCpus
      (λ history fits. fit_weaker _ (λ (entry : Entry). entry.cpu < 16) (λ entry is. let low = is.cpu in omega (arith, low, few_cpus)) history.entries fits.entries) kept.histories well.histories

  pub entries_on_cpus : All (λ (history : LockHistory). All (λ (entry : Entry). entry.cpu < 16) history.entries) kept.histories
  entries_on_cpus = all_of_fit (λ (history : LockHistory). All (λ (entry : Entry). entry.cpu < 16) history.entries) kept.histories
      (fit_weaker OnCpus (λ (history : LockHistory). All (λ (entry : Entry). entry.cpu < 16) history.entries) (λ history fit. all_of_fit (λ (entry : Entry). entry.cpu < 16) history.entries fit) kept.histories fit_cpus)

  flat_fit : (hs : List LockHistory) → AllFit OnCpus hs → AllFit (λ (entry : Entry). entry.cpu < 16) (all_entries hs)
  flat_fit [] fit = tt
  flat_fit (h ∷ hs) fit = fit_two (λ (entry : Entry). entry.cpu < 16) h.entries (all_entries hs) fit.0 (flat_fit hs fit.1)

  module _ (place : ℕ) (strand : Strand) (at : slice_get kept.strands place ≡ Some strand) where
    pub fits : StrandFits script (strand_fits script 0 kept.strands well.strands place strand at).0 strand
    fits = (strand_fits script 0 kept.strands well.strands place strand at).1

    pub phase_low : strand.phase < suc (length script.cuts)
    phase_low = fits.phase

    cpus_fit : AllFit (λ cpu. cpu < 16) strand.cpus
    cpus_fit = fit_weaker (λ cpu. cpu < script.shape.cpus) (λ cpu. cpu < 16) (λ cpu low. omega (arith, low, few_cpus)) strand.cpus fits.cpus.below

    pub cpus_low : All (λ cpu. cpu < 16) strand.cpus
    cpus_low = all_of_fit (λ cpu. cpu < 16) strand.cpus cpus_fit

    cpus_ascend : AscendIn 0 strand.cpus 16
    cpus_ascend = ascend_wide 0 strand.cpus script.shape.cpus 16 few_cpus (ascend_in strand.cpus script.shape.cpus fits.cpus.below fits.cpus.ascending)

    abbrev test : Entry → Bool
    test = is_own script.cuts strand.phase strand.cpus

    abbrev places : LockHistory → List ℕ
    places history = places_in script.cuts strand.phase strand.cpus 0 history.entries

    due_is : (size : ℕ) (counts : List ℕ) → AreCounts script.cuts size (all_entries kept.histories) counts → entries_due counts strand ≡ total (λ history. length (places history)) kept.histories
    due_is size counts are =
        total_is (λ cpu. get_or counts (cell strand.phase cpu) 0) strand.cpus
        ∙ (total_same (λ cpu. cpu < 16) (λ cpu. get_or counts (cell strand.phase cpu) 0) (λ cpu. total (λ entry. one (eqb (cell_of script.cuts entry) (cell strand.phase cpu))) (all_entries kept.histories)) strand.cpus cpus_fit
        (λ cpu low. are.1 (cell strand.phase cpu) ∙ counted (λ entry. eqb (cell_of script.cuts entry) (cell strand.phase cpu)) (all_entries kept.histories))
        ∙ (total_swap (λ cpu entry. one (eqb (cell_of script.cuts entry) (cell strand.phase cpu))) strand.cpus (all_entries kept.histories)
        ∙ (total_same (λ (entry : Entry). entry.cpu < 16) (λ entry. total (λ cpu. one (eqb (cell_of script.cuts entry) (cell strand.phase cpu))) strand.cpus) (λ entry. one (test entry)) (all_entries kept.histories) (flat_fit kept.histories fit_cpus)
        (λ entry low. one_cpu (phase_of script.cuts entry.call) entry.cpu strand.phase 0 strand.cpus low cpus_fit cpus_ascend)
        ∙ (total_flat (λ entry. one (test entry)) (λ (history : LockHistory). history.entries) kept.histories
        ∙ total_same OnCpus (λ history. total (λ entry. one (test entry)) history.entries) (λ history. length (places history)) kept.histories fit_cpus
        (λ history _. sym (places_counted script.cuts strand.phase strand.cpus 0 history.entries))))))

    steps_are : total (λ (history : LockHistory). length (places_on history.lock strand.steps)) kept.histories ≡ length strand.steps
    steps_are = steps_counted kept.histories strand.steps
        (fit_weaker (StepFits script.shape) (λ step. total (λ (history : LockHistory). one (is_same_lock step.lock history.lock)) kept.histories ≡ 1)
        (λ step is.
        let here = history_at script.shape kept.histories well.locks step.lock is.lock in
        subst (λ (lock : DomainId). total (λ (history : LockHistory). one (is_same_lock lock history.lock)) kept.histories ≡ 1) here.lock_is
        (on_one kept.histories (histories_differ script.shape kept.histories well.locks) _ here.history here.there))
        strand.steps fits.steps)

    -- steps that are named in order, and as many as the entries, are the entries
    pub steps_right : (size : ℕ) (counts : List ℕ) → AreCounts script.cuts size (all_entries kept.histories) counts → entries_due counts strand ≡ length strand.steps
        → are_named script.shape kept.histories test (λ _. 0) strand.steps ≡ true → (lock : DomainId) → is_lock script.shape lock ≡ true
        → places_on lock strand.steps ≡ places_in script.cuts strand.phase strand.cpus 0 (entries_of kept.histories lock)
    steps_right size counts are as_many named lock is =
        let here = history_at script.shape kept.histories well.locks lock is in
        let each = each_same (λ (history : LockHistory). length (places_on history.lock strand.steps)) (λ history. length (places history)) kept.histories most
        (steps_are ∙ (sym as_many ∙ due_is size counts are)) in
        let same : length (places_on here.history.lock strand.steps) ≡ length (places here.history) = fit_at (λ (history : LockHistory). length (places_on history.lock strand.steps) ≡ length (places history)) kept.histories each _ here.history here.there in
        let taken = named_taken script.shape kept.histories test (λ _. 0) strand.steps fits.steps named lock is in
        (taken_part script.cuts strand.phase strand.cpus (entries_of kept.histories lock) [] 0 (places_on lock strand.steps) refl taken).whole
        (ap (λ (l : DomainId). length (places_on l strand.steps)) (sym here.lock_is) ∙ (same ∙ ap (λ (es : List Entry). length (places_in script.cuts strand.phase strand.cpus 0 es)) (sym here.entries_are)))
      where
        most : AllFit (λ (history : LockHistory). length (places_on history.lock strand.steps) ≤ length (places history)) kept.histories
        most = fit_each (λ (history : LockHistory). length (places_on history.lock strand.steps) ≤ length (places history)) kept.histories (λ k history there.
            let taken = named_taken script.shape kept.histories test (λ _. 0) strand.steps fits.steps named history.lock (lock_real script.shape kept.histories well.locks k history there) in
            let own = own_entries kept.histories (histories_differ script.shape kept.histories well.locks) k history there in
            subst (λ (es : List Entry). length (places_on history.lock strand.steps) ≤ length (places_in script.cuts strand.phase strand.cpus 0 es)) own
            (taken_part script.cuts strand.phase strand.cpus (entries_of kept.histories history.lock) [] 0 (places_on history.lock strand.steps) refl taken).most)

    -- and the other way round
    pub right_named : HasOwnSteps script kept place strand → are_named script.shape kept.histories test (λ _. 0) strand.steps ≡ true
    right_named right = taken_named script.shape kept.histories test (λ _. 0) strand.steps fits.steps (λ lock is.
        subst (AreTaken test (entries_of kept.histories lock) 0) (sym (right.steps lock is)) (all_taken script.cuts strand.phase strand.cpus (entries_of kept.histories lock) [] 0 refl))

    pub right_due : (size : ℕ) (counts : List ℕ) → AreCounts script.cuts size (all_entries kept.histories) counts → HasOwnSteps script kept place strand → entries_due counts strand ≡ length strand.steps
    right_due size counts are right = due_is size counts are ∙ (same_lengths ∙ steps_are)
      where
        same_lengths : total (λ history. length (places history)) kept.histories ≡ total (λ (history : LockHistory). length (places_on history.lock strand.steps)) kept.histories
        same_lengths = total_same (λ (history : LockHistory). length (places history) ≡ length (places_on history.lock strand.steps)) (λ history. length (places history)) (λ (history : LockHistory). length (places_on history.lock strand.steps)) kept.histories
            (fit_each (λ (history : LockHistory). length (places history) ≡ length (places_on history.lock strand.steps)) kept.histories (λ k history there.
            let own = own_entries kept.histories (histories_differ script.shape kept.histories well.locks) k history there in
            ap (λ (es : List Entry). length (places_in script.cuts strand.phase strand.cpus 0 es)) (sym own) ∙ ap length (sym (right.steps history.lock (lock_real script.shape kept.histories well.locks k history there)))))
            (λ history same. same)

    -- CPUs that were met before
    module _ (size : ℕ) (met : List Bool) (are : AreMet size (take place kept.strands) met) where
      pub met_wrong : has_met met strand ≡ true → HasOwnSteps script kept place strand → ⊥
      met_wrong is right =
          let found = first_there (λ cpu. get_or met (cell strand.phase cpu) false) strand.cpus is in
          let low : found.item < 16 = fit_at (λ cpu. cpu < 16) strand.cpus cpus_fit _ found.item found.there in
          let earlier = first_there (has_in_phase strand.phase found.item) (take place kept.strands) (sym (are.1 strand.phase found.item low) ∙ found.passes) in
          let before = slice_get_within (take place kept.strands) _ earlier.item earlier.there in
          right.apart _ earlier.item (omega (arith, before, length-take place kept.strands)) (at_taken place kept.strands _ earlier.item earlier.there) found.item
          (any_at (λ c. eqb c found.item) strand.cpus _ found.item found.there (eq-eqb found.item found.item refl)) earlier.passes

      pub not_met : has_met met strand ≡ false → (earlier : ℕ) (other : Strand) → earlier < place → slice_get kept.strands earlier ≡ Some other
          → (cpu : ℕ) → IsTrue (has_cpu cpu strand.cpus) → IsTrue (has_in_phase strand.phase cpu other) → ⊥
      not_met is_not earlier other before there cpu inside passes =
          let found = first_there (λ c. eqb c cpu) strand.cpus inside in
          let same : found.item ≡ cpu = eqb-true found.item cpu found.passes in
          let low : found.item < 16 = fit_at (λ c. c < 16) strand.cpus cpus_fit _ found.item found.there in
          let any : list_any (has_in_phase strand.phase found.item) (take place kept.strands) ≡ true =
          any_at (has_in_phase strand.phase found.item) (take place kept.strands) earlier other (taken_at place kept.strands earlier other before there) (ap (λ (c : ℕ). has_in_phase strand.phase c other) same ∙ passes) in
          both_ways (has_met met strand) is_not (any_at (λ c. get_or met (cell strand.phase c) false) strand.cpus _ found.item found.there (are.1 strand.phase found.item low ∙ any))

      one_strand : (p c : ℕ) → c < 16 → (cpus : List ℕ) → AllFit (λ cpu. cpu < 16) cpus → list_any (λ cpu. eqb (cell strand.phase cpu) (cell p c)) cpus ≡ (eqb strand.phase p && has_cpu c cpus)
      one_strand p c few [] fit = by (eqb strand.phase p)
        where
          by : (b : Bool) → false ≡ (b && false)
          by true = refl
          by false = refl
      one_strand p c few (d ∷ cpus) fit = elim (cases_eq strand.phase p) [
        | inr other ↦
            let apart : eqb (cell strand.phase d) (cell p c) ≡ false = ne_eqb (cell strand.phase d) (cell p c) (λ is. absurd (other (omega (arith, is, few, fit.0)))) in
            let test : eqb strand.phase p ≡ false = ne_eqb strand.phase p other in
            (λ i. apart i || list_any (λ cpu. eqb (cell strand.phase cpu) (cell p c)) cpus)
            ∙ (one_strand p c few cpus fit.1 ∙ (ap (λ (b : Bool). b && has_cpu c cpus) test ∙ sym (ap (λ (b : Bool). b && (eqb d c || has_cpu c cpus)) test)))
        | inl same ↦
            let test : eqb strand.phase p ≡ true = eq-eqb strand.phase p same in
            let here : eqb (cell strand.phase d) (cell p c) ≡ eqb d c = elim (cases_eq d c) [
              | inl is ↦ eq-eqb (cell strand.phase d) (cell p c) (omega (arith, is, same)) ∙ sym (eq-eqb d c is)
              | inr other ↦ ne_eqb (cell strand.phase d) (cell p c) (λ is. absurd (other (omega (arith, is, same)))) ∙ sym (ne_eqb d c other)
            ] in
            (λ i. here i || list_any (λ cpu. eqb (cell strand.phase cpu) (cell p c)) cpus)
            ∙ (ap (λ (b : Bool). eqb d c || b) (one_strand p c few cpus fit.1 ∙ ap (λ (b : Bool). b && has_cpu c cpus) test) ∙ sym (ap (λ (b : Bool). b && (eqb d c || has_cpu c cpus)) test))
      ]

      pub met_more : (now : List Bool) → length now ≡ length met → ((k : ℕ) → get_or now k false ≡ (get_or met k false || list_any (λ cpu. eqb (cell strand.phase cpu) k) strand.cpus))
          → AreMet size (take (place + 1) kept.strands) now
      met_more now counted_same is = (
        counted_same ∙ are.0,
        λ p c few.
            let within = slice_get_within kept.strands place strand at in
            let item : get_or kept.strands place strand ≡ strand = Rattle.std.proofs.lemmas.Option.get_or_from_slice_get kept.strands place strand strand at in
            is (cell p c) ∙ ((λ i. are.1 p c few i || one_strand p c few strand.cpus cpus_fit i)
            ∙ (ap (λ (s : Strand). list_any (has_in_phase p c) (take place kept.strands) || has_in_phase p c s) (sym item) ∙ sym (list_any_more (has_in_phase p c) kept.strands place strand within))),
      )

-- A place before the end is right where its strand is.
pub place_right : (script : Script) (kept : RunRecord) (place : ℕ) (strand : Strand) → slice_get kept.strands place ≡ Some strand → IsRightStrand script kept place strand → IsRightPlace script kept place
place_right script kept place strand at right = record {
  strand = λ other at_other. subst (IsRightStrand script kept place) (same_Some strand other (sym at ∙ at_other)) right;
  each = λ same. absurd (omega (arith, same, slice_get_within kept.strands place strand at));
}

pub decided : (b : Bool) (P : Type 0) → (b ≡ true → P) → (b ≡ false → P → ⊥) → Rattle.std.specs.Prelude.MatchBool b P (P → ⊥)
decided true P holds fails = holds refl
decided false P holds fails = fails refl

pub strand_at : (strands kept : List Strand) (place : ℕ) (strand : Strand) → strands ≡ kept → place < length kept → strand ≡ get_or strands place strand → slice_get kept place ≡ Some strand
strand_at strands kept place strand same less is =
    subst (λ (xs : List Strand). slice_get xs place ≡ Some strand) same (slice_get_read strands (length strands) place strand refl (omega (arith, less, ap length same)) is)

-- At the start and at the end

read_same : {A : Type 0} (n k : ℕ) (x : A) → get_or (replicate n x) k x ≡ x
read_same zero k x = refl
read_same (suc n) zero x = refl
read_same (suc n) (suc k) x = read_same n k x

pub none_met : (size : ℕ) (met : List Bool) → met ≡ replicate size false → AreMet size [] met
none_met size met is = (ap length is ∙ length-replicate size false, λ p c few. ap (λ (xs : List Bool). get_or xs (cell p c) false) is ∙ read_same size (cell p c) false)

take_all : {A : Type 0} (n : ℕ) (xs : List A) → n ≡ length xs → take n xs ≡ xs
take_all zero [] is = refl
take_all zero (x ∷ xs) is = absurd (omega (arith, is))
take_all (suc n) [] is = refl
take_all (suc n) (x ∷ xs) is = ap (λ (l : List _). x ∷ l) (take_all n xs (omega (arith, is)))

module _ (script : Script) (kept : RunRecord) (formed : IsWellFormed script) (size n : ℕ) (met : List Bool) (are : AreMet size (take n kept.strands) met) (end : n ≡ length kept.strands) where
  abbrev AllMet : Type 0
  AllMet = (phase cpu : ℕ) → phase < length script.cuts + 1 → cpu < script.shape.cpus → get_or met (cell phase cpu) false ≡ true

  met_is : (phase cpu : ℕ) → cpu < script.shape.cpus → get_or met (cell phase cpu) false ≡ list_any (has_in_phase phase cpu) kept.strands
  met_is phase cpu low =
      let few = (bounds_of_shape script.shape formed.shape).cpus_bounded in
      are.1 phase cpu (omega (arith, low, few)) ∙ ap (list_any (has_in_phase phase cpu)) (take_all n kept.strands end)

  pub all_stand : AllMet → EachStands script kept
  all_stand all phase cpu phase_in cpu_in = sym (met_is phase cpu cpu_in) ∙ all phase cpu (omega (arith, phase_in)) cpu_in

  pub all_were_met : EachStands script kept → AllMet
  all_were_met each phase cpu phase_in cpu_in = met_is phase cpu cpu_in ∙ each phase cpu (omega (arith, phase_in)) cpu_in

  pub end_right : AllMet → (place : ℕ) → place ≡ length kept.strands → IsRightPlace script kept place
  end_right all place is = record {
    strand = λ strand at. absurd (omega (arith, is, slice_get_within kept.strands place strand at));
    each = λ _. all_stand all;
  }
