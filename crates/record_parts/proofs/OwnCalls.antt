-- Each step of a strand is of a call of one of its CPUs.
use Rattle.std.proofs.Common.{◌≡◌, ℕ, suc, ◌+◌, ◌-◌, ◌<◌, Bool, true, false, ◌&&◌, List, [], ◌∷◌, Option, None, Some, length, get_or, take, refl, subst, ap, sym, ◌∙◌, arith}
use Rattle.std.specs.Prelude.{◌==◌, nat_le, slice_get, IsTrue, option_map, unwrap_or}
use Rattle.std.specs.List.{list_all}
use Rattle.std.proofs.lemmas.Bool.{and_parts, both_ways}
use Rattle.std.proofs.lemmas.List.Folds.{list_all_more}
use Rattle.map_types.specs.declared.call.Call.{Call}
use Rattle.map_types.specs.ElementLists.{put}
use Rattle.map_script.specs.declared.script.Script.{Script}
use Rattle.map_script.specs.WellFormed.{IsWellFormed}
use Rattle.place_words.specs.declared.history.Entry.{Entry}
use Rattle.place_words.specs.declared.history.Strand.{Strand}
use Rattle.place_words.specs.declared.history.StrandStep.{StrandStep}
use Rattle.place_words.specs.Locks.{is_lock, lock_number}
use Rattle.place_words.specs.Phases.{phase_of}
use Rattle.map_report.specs.declared.record.RunRecord.{RunRecord}
use Rattle.map_report.specs.Record.{IsRecord, entries_of, has_cpu}
use Rattle.record_shape.specs.Fits.{AllFit}
use Rattle.record_shape.specs.ShapedParts.{StepFits}
use Rattle.record_shape.specs.WellShaped.{WellShaped}
use Rattle.record_shape.proofs.CallsOf.{entry_of_call}
use Rattle.record_flaws.specs.StrandFlaws.{HasOwnSteps, is_call_of, is_own_call, passes}
use Rattle.record_parts.specs.StrandTables.{are_named, is_own}
use Rattle.record_parts.proofs.StrandJudged.{fits, right_named}
use Rattle.record_parts.proofs.StrandLaws.{apart_in}
use Rattle.record_parts.specs.PartLaws.{RecordsHaveTheirStrands}

both : (a b : Bool) → a ≡ true → b ≡ true → (a && b) ≡ true
both true b first second = second
both false b first second = absurd (both_ways false refl first)

-- a loop over steps, one step on
pub own_more : (test : StrandStep → Bool) (read steps : List StrandStep) (i : ℕ) (step : StrandStep) → read ≡ steps → i < length read → get_or read i step ≡ step
    → test step ≡ true → list_all test (take i steps) ≡ true → list_all test (take (i + 1) steps) ≡ true
own_more test read steps i step same less at own before =
    subst (λ (l : List StrandStep). list_all test (take i l) ≡ true → list_all test (take (i + 1) l) ≡ true) same
    (λ so_far. list_all_more test read i step less ∙ both (list_all test (take i read)) (test (get_or read i step)) so_far (ap test at ∙ own)) before

-- what passes a test is there
named_entry : (test : Entry → Bool) (o : Option Entry) → passes test o ≡ true → (entry : Entry) × (o ≡ Some entry) × (test entry ≡ true)
named_entry test None is = absurd (both_ways false refl is)
named_entry test (Some entry) is = (entry, refl, is)

module _ (script : Script) (kept : RunRecord) (formed : IsWellFormed script) (well : WellShaped script kept) (is : IsRecord script kept) (strand : Strand) where
  one_own : (step : StrandStep) → IsTrue (is_lock script.shape step.lock) → passes (is_own script.cuts strand.phase strand.cpus) (slice_get (entries_of kept.histories step.lock) step.index) ≡ true
      → is_own_call script kept strand step ≡ true
  one_own step real named =
      let found = named_entry (is_own script.cuts strand.phase strand.cpus) (slice_get (entries_of kept.histories step.lock) step.index) named in
      let entry : Entry = found.0 in
      let on_cpu = (and_parts (phase_of script.cuts entry.call == strand.phase) (has_cpu entry.cpu strand.cpus) found.2).1 in
      let of = entry_of_call script kept formed is step.lock step.index entry found.1 real in
      let number : entry.call - 1 ≡ of.n = omega (arith, of.number) in
      ap (passes (is_call_of script.calls strand.cpus)) found.1
      ∙ (ap (λ (n : ℕ). unwrap_or (option_map (λ (call : Call). has_cpu call.cpu strand.cpus) (slice_get script.calls n)) false) number
      ∙ (ap (λ (o : Option Call). unwrap_or (option_map (λ (call : Call). has_cpu call.cpu strand.cpus) o) false) of.called
      ∙ (ap (λ (cpu : ℕ). has_cpu cpu strand.cpus) (sym of.cpu) ∙ on_cpu)))

  all_own : (from : ℕ → ℕ) (steps : List StrandStep) → AllFit (StepFits script.shape) steps → are_named script.shape kept.histories (is_own script.cuts strand.phase strand.cpus) from steps ≡ true
      → list_all (is_own_call script kept strand) steps ≡ true
  all_own from [] fit named = refl
  all_own from (step ∷ steps) fit named =
      let parts = and_parts (passes (is_own script.cuts strand.phase strand.cpus) (slice_get (entries_of kept.histories step.lock) step.index) && nat_le (from (lock_number script.shape step.lock)) step.index)
      (are_named script.shape kept.histories (is_own script.cuts strand.phase strand.cpus) (put from (lock_number script.shape step.lock) (suc step.index)) steps) named in
      let first = and_parts (passes (is_own script.cuts strand.phase strand.cpus) (slice_get (entries_of kept.histories step.lock) step.index)) (nat_le (from (lock_number script.shape step.lock)) step.index) parts.0 in
      both (is_own_call script kept strand step) (list_all (is_own_call script kept strand) steps) (one_own step fit.0.lock first.0)
      (all_own (put from (lock_number script.shape step.lock) (suc step.index)) steps fit.1 parts.1)

  pub own_calls : (place : ℕ) → slice_get kept.strands place ≡ Some strand → HasOwnSteps script kept place strand → list_all (is_own_call script kept strand) strand.steps ≡ true
  own_calls place at right = all_own (λ _. 0) strand.steps (fits script kept formed well place strand at).steps (right_named script kept formed well place strand at right)

pub records_have_their_strands : RecordsHaveTheirStrands
records_have_their_strands script kept formed well is = record {
  strand_of = is.strand_of;
  in_strand = is.in_strand;
  cpus_are = is.cpus_are;
  steps = is.steps;
  own_calls = λ n strand at. own_calls script kept formed well is strand n at (own_steps n strand at);
}
  where
    -- strands alone, of which no call is asked
    own_steps : (n : ℕ) (strand : Strand) → slice_get kept.strands n ≡ Some strand → HasOwnSteps script kept n strand
    own_steps n strand at = record { apart = apart_in script kept is.strand_of is.cpus_are n strand at; steps = is.steps n strand at }
