-- The steps of a record's strands name entries.
use Rattle.std.proofs.Common.{◌≡◌, ℕ, zero, suc, ◌+◌, ◌<◌, Bool, ◌&&◌, cond, List, [], ◌∷◌, length, sym, subst, arith, Some, ◌++◌, Option, ⊎_elim, true, false}
use Rattle.std.specs.Prelude.{◌==◌, slice_get, slice_index_or}
use Rattle.std.proofs.lemmas.Bool.{cond_both}
use Rattle.std.proofs.lemmas.Option.{none-some, same_Some, slice_get-get_or, slice_get_within}
use Rattle.map_types.specs.ElementLists.{times}
use Rattle.map_types.proofs.RowLemmas.{by_test}
use Rattle.place_words.specs.declared.history.Entry.{Entry}
use Rattle.place_words.specs.declared.history.Strand.{Strand}
use Rattle.place_words.specs.declared.history.StrandStep.{StrandStep}
use Rattle.place_words.specs.Locks.{is_same_lock}
use Rattle.place_words.specs.Named.{NameAll, entries_of}
use Rattle.place_words.specs.Phases.{calls_before, of_phase, phase_of}
use Rattle.place_words.specs.Strands.{places_on}
use Rattle.place_words.proofs.LockLemmas.{same_lock}
use Rattle.map_types.specs.declared.attr.Shape.{Shape}
use Rattle.map_types.specs.declared.call.Call.{Call}
use Rattle.map_types.specs.declared.reply.Reply.{Reply}
use Rattle.place_words.specs.declared.history.LockHistory.{LockHistory}
use Rattle.place_words.specs.Turns.{TurnAt}
use Rattle.std.specs.List.{AllByRecursion}
use Rattle.std.proofs.lemmas.Bool.{cases_Bool}
use Rattle.std.proofs.lemmas.List.Elements.{All-from_recursion}
use Rattle.map_script.specs.declared.script.Script.{Script}
use Rattle.map_report.specs.Record.{IsConcatenation, has_cpu, places_in}
use Rattle.record_shape.specs.Fits.{AllFit}
use Rattle.record_shape.specs.ShapedParts.{StepFits}
use Rattle.record_shape.specs.WellShaped.{StrandsFit}
use Rattle.record_order.specs.TicketLaws.{RecordsNameEntries, WholeRecordsNameEntries}
use Rattle.record_order.specs.Tickets.{Stands}
use Rattle.record_order.proofs.LocksOnce.{times_tail}
use Rattle.record_order.proofs.OnceEach.{times_here}

-- a step's place is among those of its lock
place_there : (steps : List StrandStep) (i : ℕ) (step : StrandStep) → slice_get steps i ≡ Some step → 0 < times step.index (places_on step.lock steps)
place_there [] i step at = absurd (none-some step at)
place_there (x ∷ steps) zero step at =
    subst (λ (s : StrandStep). 0 < times s.index (cond (is_same_lock x.lock s.lock) (x.index ∷ places_on s.lock steps) (places_on s.lock steps))) (same_Some x step at)
    (subst (λ (b : Bool). 0 < times x.index (cond b (x.index ∷ places_on x.lock steps) (places_on x.lock steps))) (sym (same_lock x.lock))
    (let here = times_here x.index (places_on x.lock steps) in omega arith))
place_there (x ∷ steps) (suc i) step at =
    let rest = place_there steps i step at in
    cond_both (is_same_lock x.lock step.lock) (x.index ∷ places_on step.lock steps) (places_on step.lock steps) (λ places. 0 < times step.index places)
    (λ _. let more = times_tail step.index x.index (places_on step.lock steps) in omega arith) (λ _. rest)

-- and those are below the number of entries
places_below : (cuts : List ℕ) (phase : ℕ) (cpus : List ℕ) (place : ℕ) (entries : List Entry) (k : ℕ) → 0 < times k (places_in cuts phase cpus place entries) → k < place + length entries
places_below cuts phase cpus place [] k some = absurd (omega arith)
places_below cuts phase cpus place (entry ∷ entries) k some =
    let rest : 0 < times k (places_in cuts phase cpus (suc place) entries) → k < place + length (entry ∷ entries) = λ there. let less = places_below cuts phase cpus (suc place) entries k there in omega arith in
    cond_both ((phase_of cuts entry.call == phase) && has_cpu entry.cpu cpus) (place ∷ places_in cuts phase cpus (suc place) entries) (places_in cuts phase cpus (suc place) entries)
    (λ places. 0 < times k places → k < place + length (entry ∷ entries))
    (λ _. by_test place k (λ b. 0 < cond b (suc (times k (places_in cuts phase cpus (suc place) entries))) (times k (places_in cuts phase cpus (suc place) entries)) → k < place + length (entry ∷ entries)) (λ is _. omega arith) (λ _. rest))
    (λ _. rest)
    some

step_fits : {A : Type 0} (P : A → Type 0) (xs : List A) (i : ℕ) (x : A) → AllFit P xs → slice_get xs i ≡ Some x → P x
step_fits P [] i x all at = absurd (none-some x at)
step_fits P (y ∷ xs) zero x all at = subst P (same_Some y x at) all.0
step_fits P (y ∷ xs) (suc i) x all at = step_fits P xs i x all.1 at

strand_fits : (script : Script) (least : ℕ) (strands : List Strand) (n : ℕ) (strand : Strand) → StrandsFit script least strands → slice_get strands n ≡ Some strand → AllFit (StepFits script.shape) strand.steps
strand_fits script least [] n strand fits at = absurd (none-some strand at)
strand_fits script least (s ∷ strands) zero strand fits at = subst (λ (x : Strand). AllFit (StepFits script.shape) x.steps) (same_Some s strand at) fits.0.steps
strand_fits script least (s ∷ strands) (suc n) strand fits at = strand_fits script s.phase strands n strand fits.1 at

pub names_entries : RecordsNameEntries
names_entries script kept shaped are = record {
  locks = shaped.locks;
  steps = λ n d less i e within. stands n (slice_index_or kept.strands n d) (slice_get-get_or kept.strands n d less) i (slice_index_or (slice_index_or kept.strands n d).steps i e)
      (slice_get-get_or (slice_index_or kept.strands n d).steps i e within);
}
  where
    stands : (n : ℕ) (strand : Strand) → slice_get kept.strands n ≡ Some strand → (i : ℕ) (step : StrandStep) → slice_get strand.steps i ≡ Some step → Stands kept.histories step
    stands n strand at i step there =
        let fits : StepFits script.shape step = step_fits (StepFits script.shape) strand.steps i step (strand_fits script 0 kept.strands n strand shaped.strands at) there in
        let lies : 0 < times step.index (places_in script.cuts strand.phase strand.cpus 0 (entries_of kept.histories step.lock)) =
        subst (λ (places : List ℕ). 0 < times step.index places) (are n strand at step.lock fits.lock) (place_there strand.steps i step there) in
        let less = places_below script.cuts strand.phase strand.cpus 0 (entries_of kept.histories step.lock) step.index lies in
        omega arith

-- Of a whole record it follows from what its calls are alone

all_of_both : {A : Type 0} (P : A → Type 0) (xs ys : List A) → AllByRecursion P xs → AllByRecursion P ys → AllByRecursion P (xs ++ ys)
all_of_both P [] ys first second = second
all_of_both P (x ∷ xs) ys first second = (first.0, all_of_both P xs ys first.1 second)

all_of_whole : (hs : List LockHistory) (steps mine rest : List StrandStep) → steps ≡ mine ++ rest → AllByRecursion (Stands hs) mine → AllByRecursion (Stands hs) rest → AllByRecursion (Stands hs) steps
all_of_whole hs steps mine rest is first second = subst (AllByRecursion (Stands hs)) (sym is) (all_of_both (Stands hs) mine rest first second)

named_stand : (hs : List LockHistory) (cpu number : ℕ) (steps : List StrandStep) (turns : List TurnAt) → NameAll hs cpu number steps turns → AllByRecursion (Stands hs) steps
named_stand hs cpu number [] turns names = tt
named_stand hs cpu number (step ∷ steps) [] names = absurd names
named_stand hs cpu number (step ∷ steps) (turn ∷ turns) names =
    (slice_get_within (entries_of hs step.lock) step.index _ names.0.entry, named_stand hs cpu number steps turns names.1)

-- of the steps of a strand whose calls these are
pub calls_stand : (shape : Shape) (hs : List LockHistory) (cpus : List ℕ) (number : ℕ) (calls : List Call) (replies : List Reply) (spares last : ℕ → Option ℕ) (steps : List StrandStep)
    → IsConcatenation shape hs cpus number calls replies spares last steps → AllByRecursion (Stands hs) steps
calls_stand shape hs cpus number [] replies spares last steps are = subst (AllByRecursion (Stands hs)) (sym are.0) tt
calls_stand shape hs cpus number (call ∷ calls) [] spares last steps are = absurd are
calls_stand shape hs cpus number (call ∷ calls) (reply ∷ replies) spares last steps are = ⊎_elim
    (λ (its : has_cpu call.cpu cpus ≡ true).
    let given = rw its at are in
    all_of_whole hs steps given.0 given.1 given.3 (named_stand hs call.cpu number given.0 given.2 given.4.names) (calls_stand shape hs cpus (suc number) calls replies _ last given.1 given.5))
    (λ (other : has_cpu call.cpu cpus ≡ false). let given = rw other at are in calls_stand shape hs cpus (suc number) calls replies spares last steps given)
    (cases_Bool (has_cpu call.cpu cpus))

pub whole_records : WholeRecordsNameEntries
whole_records script kept are = record {
  locks = are.locks;
  steps = λ n d less. All-from_recursion (Stands kept.histories) (slice_index_or kept.strands n d).steps
      (stands n (slice_index_or kept.strands n d) (slice_get-get_or kept.strands n d less));
}
  where
    stands : (n : ℕ) (strand : Strand) → slice_get kept.strands n ≡ Some strand → AllByRecursion (Stands kept.histories) strand.steps
    stands n strand at =
        calls_stand script.shape kept.histories strand.cpus (suc (calls_before script.cuts (length script.calls) strand.phase)) (of_phase script.cuts strand.phase script.calls)
        (of_phase script.cuts strand.phase kept.replies) (are.spares strand.phase) (are.spares (suc strand.phase)) strand.steps (are.calls_are n strand at)
