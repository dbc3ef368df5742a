-- The status of a run, by its words and its input.
use Rattle.std.proofs.Common.{◌≡◌, ℕ, ◌+◌, ◌≤◌, Bool, true, false, List, length, Option, None, Some, Result, Ok, Err, refl, sym, ap, ◌∙◌, subst, inl, inr, ⊎_elim, arith}
use Rattle.std.specs.Prelude.{◌⊎◌, IfSome, MatchBool}
use Rattle.std.proofs.lemmas.List.{length-append}
use Rattle.std.proofs.lemmas.Bool.{le-leb, lt-leb}
use Rattle.map_script.specs.declared.script.Script.{Script}
use Rattle.map_script.specs.declared.refusal.ScriptRefusal.{ScriptRefusal}
use Rattle.map_script.specs.declared.refusal.ScriptRefusal.TheVariants.{Fault, Create}
use Rattle.map_script.specs.declared.script.Form.TheVariants.{Calls}
use Rattle.map_script.specs.Reading.{read_as}
use Rattle.map_report.specs.declared.record.RunRecord.{RunRecord}
use Rattle.record_flaws.specs.declared.verdict.Said.{Said}
use Rattle.run_ends.specs.SourceReads.{TakesFront}
use Rattle.run_ends.specs.Writes.{Written, AddsPrefix, AddsWhole}
use Rattle.run_words.specs.declared.words.Mode.{Mode}
use Rattle.run_words.specs.Words.{are_words, asked_of, mode_of}
use Rattle.run_endings.specs.declared.record.Finish.{Finish}
use Rattle.run_endings.specs.Divided.{is_divided, report_part, script_part}
use Rattle.run_endings.specs.Finish.{Ending, BadWords, ReadFault, TooLong, Faulty, Refused, Unfit, OutOfMemory, Ran, Undivided, Told, CopyKept, Finishes, HasCause, HasInput, HasReport, HasScript, IsDelivered, IsInput, IsStatus, IsStatusDue, IsStatusIn, IsStatusRead, form_of, judges, status_of, status_read, status_run, text_due}

then_is : {b : Bool} (P Q : Type 0) → b ≡ true → P → MatchBool b P Q
then_is {b} P Q is has = subst (λ (c : Bool). MatchBool c P Q) (sym is) has

else_is : {b : Bool} (P Q : Type 0) → b ≡ false → Q → MatchBool b P Q
else_is {b} P Q is has = subst (λ (c : Bool). MatchBool c P Q) (sym is) has

-- a status that is due, or 4 where a write failed
is_due : (IsDue : ℕ → Type 0) {status : ℕ} {read wrote : Type 0} (before now : Option Written) (due : ℕ) (text : List ℕ) → IsDue due ⊎ (due ≡ 5) → IsDelivered due text status before now wrote → IsStatus IsDue status read wrote
is_due IsDue {status} {read} {wrote} before now due text is =
    ⊎_elim
    (λ (told : (status ≡ due) × AddsWhole before now text). ⊎_elim (λ (due_is : IsDue due). inl (subst IsDue (sym told.0) due_is)) (λ (memory : due ≡ 5). inr (inr (inr (told.0 ∙ memory)))) is)
    (λ (told : (status ≡ 4) × AddsPrefix before now text × wrote). inr (inr (inl (told.0, told.2))))

module _ (RanAs : Mode → Script → RunRecord → Option CopyKept → Type 0) (IsSaid : Script → List ℕ → Said → Type 0) (words : List (List ℕ)) (input : List ℕ) where
  -- with other words it is 2
  words_status : are_words words ≡ false → IsStatusDue IsSaid words input 2
  words_status bad = else_is _ _ bad refl

  -- an input that is too long has 7
  long_status : (bytes : List ℕ) (after : Option (List ℕ)) → are_words words ≡ true → TakesFront (Some input) after bytes → length bytes ≡ 16777217 → IsStatusDue IsSaid words input 7
  long_status bytes None good front long = absurd front
  long_status bytes (Some rest) good front long =
      let whole : length input ≡ length bytes + length rest = ap length front ∙ length-append bytes rest in
      then_is _ _ good (else_is _ _ (lt-leb (length input) 16777216 (omega (arith, whole, long))) refl)

  -- another has the one that its ending has, unless memory was not found
  short_status : (status : ℕ) → are_words words ≡ true → length input ≤ 16777216 → IsStatusIn IsSaid (mode_of words) input status → IsStatusDue IsSaid words input status
  short_status status good short is = then_is _ _ good (then_is _ _ (le-leb (length input) 16777216 short) is)

  run_status : (read : Result Script ScriptRefusal) → judges (mode_of words) ≡ false → read_as (form_of (mode_of words)) input ≡ read → IsStatusIn IsSaid (mode_of words) input (status_read (mode_of words) read)
  run_status read runs is = else_is _ _ runs (ap (status_read (mode_of words)) (sym is))

  judged_status : (status : ℕ) (read : Result Script ScriptRefusal) → judges (mode_of words) ≡ true → is_divided input ≡ true → read_as Calls (script_part input) ≡ read
      → IsStatusRead IsSaid read (report_part input) status → IsStatusIn IsSaid (mode_of words) input status
  judged_status status read is_judged divided is status_is =
      then_is _ _ is_judged (then_is _ _ divided (subst (λ (r : Result Script ScriptRefusal). IsStatusRead IsSaid r (report_part input) status) (sym is) status_is))

  of_script : judges (mode_of words) ≡ false → (ending : Ending) → HasScript RanAs (asked_of words) input ending → IsStatusIn IsSaid (mode_of words) input (status_of ending) ⊎ (status_of ending ≡ 5)
  of_script runs BadWords cause = absurd cause
  of_script runs ReadFault cause = absurd cause
  of_script runs TooLong cause = absurd cause
  of_script runs (Faulty line why) cause = inl (run_status (Err (Fault line why)) runs cause)
  of_script runs (Refused why) cause = inl (run_status (Err (Create why)) runs cause)
  of_script runs (Unfit why) cause = inl (subst (IsStatusIn IsSaid (mode_of words) input) (ap status_run (cause.2)) (run_status (Ok cause.0) runs (cause.1)))
  of_script runs OutOfMemory cause = inr refl
  of_script runs (Ran asked script kept copy) cause = inl (subst (IsStatusIn IsSaid (mode_of words) input) (ap status_run (cause.2)) (run_status (Ok script) runs (cause.1)))
  of_script runs Undivided cause = absurd cause
  of_script runs (Told said) cause = absurd cause

  of_report : judges (mode_of words) ≡ true → (ending : Ending) → HasReport IsSaid input ending → IsStatusIn IsSaid (mode_of words) input (status_of ending) ⊎ (status_of ending ≡ 5)
  of_report is_judged BadWords cause = absurd cause
  of_report is_judged ReadFault cause = absurd cause
  of_report is_judged TooLong cause = absurd cause
  of_report is_judged (Faulty line why) cause = inl (judged_status 1 (Err (Fault line why)) is_judged (cause.0) (cause.1) refl)
  of_report is_judged (Refused why) cause = inl (judged_status 6 (Err (Create why)) is_judged (cause.0) (cause.1) refl)
  of_report is_judged (Unfit why) cause = absurd cause
  of_report is_judged OutOfMemory cause = inr refl
  of_report is_judged (Ran asked script kept copy) cause = absurd cause
  of_report is_judged Undivided cause = inl (then_is _ _ is_judged (else_is _ _ cause refl))
  of_report is_judged (Told said) cause = inl (judged_status (status_of (Told said)) (Ok (cause.1.0)) is_judged (cause.0) (cause.1.1) (said, cause.1.2, refl))

  of_input : (ending : Ending) → HasInput RanAs IsSaid (asked_of words) input ending → IsStatusIn IsSaid (mode_of words) input (status_of ending) ⊎ (status_of ending ≡ 5)
  of_input ending = by (judges (mode_of words)) refl
    where
      by : (b : Bool) → judges (mode_of words) ≡ b → MatchBool b (HasReport IsSaid input ending) (HasScript RanAs (asked_of words) input ending) → IsStatusIn IsSaid (mode_of words) input (status_of ending) ⊎ (status_of ending ≡ 5)
      by true is = of_report is ending
      by false is = of_script is ending

  whole_status : (all : List ℕ) (after : Option (List ℕ)) (ending : Ending) → are_words words ≡ true → IsInput (Some input) after all → HasInput RanAs IsSaid (asked_of words) all ending
      → IsStatusDue IsSaid words input (status_of ending) ⊎ (status_of ending ≡ 5)
  whole_status all after ending good is cause =
      let same : all ≡ input = sym (is.all.0) in
      ⊎_elim
      (λ (due : IsStatusIn IsSaid (mode_of words) input (status_of ending)). inl (short_status (status_of ending) good (subst (λ (bytes : List ℕ). length bytes ≤ 16777216) same is.short) due))
      inr
      (of_input ending (subst (λ (bytes : List ℕ). HasInput RanAs IsSaid (asked_of words) bytes ending) same cause))

  module _ (after : Option (List ℕ)) (read : Type 0) (before now : Option Written) (wrote : Type 0) (status : ℕ) where
    -- The status of an ending that has its cause.
    ending_status : (ending : Ending) → HasCause RanAs IsSaid words (Some input) after read ending → IsDelivered (status_of ending) (text_due ending) status before now wrote → IsStatus (IsStatusDue IsSaid words input) status read wrote
    ending_status BadWords cause = is_due (IsStatusDue IsSaid words input) before now 2 (text_due BadWords) (inl (words_status (cause.0)))
    ending_status ReadFault cause =
        ⊎_elim
        (λ (told : (status ≡ 3) × AddsWhole before now (text_due ReadFault)). inr (inl (told.0, cause.1.0)))
        (λ (told : (status ≡ 4) × AddsPrefix before now (text_due ReadFault) × wrote). inr (inr (inl (told.0, told.2))))
    ending_status TooLong cause = is_due (IsStatusDue IsSaid words input) before now 7 (text_due TooLong) (inl (long_status (cause.1.0) after (cause.0) (cause.1.1) (cause.1.2)))
    ending_status OutOfMemory cause = is_due (IsStatusDue IsSaid words input) before now 5 (text_due OutOfMemory) (inr refl)
    ending_status (Faulty line why) cause = is_due (IsStatusDue IsSaid words input) before now 1 (text_due (Faulty line why)) (whole_status (cause.1.0) after (Faulty line why) (cause.0) (cause.1.1) (cause.1.2))
    ending_status (Refused why) cause = is_due (IsStatusDue IsSaid words input) before now 6 (text_due (Refused why)) (whole_status (cause.1.0) after (Refused why) (cause.0) (cause.1.1) (cause.1.2))
    ending_status (Unfit why) cause = is_due (IsStatusDue IsSaid words input) before now 11 (text_due (Unfit why)) (whole_status (cause.1.0) after (Unfit why) (cause.0) (cause.1.1) (cause.1.2))
    ending_status (Ran asked script kept copy) cause = is_due (IsStatusDue IsSaid words input) before now 0 (text_due (Ran asked script kept copy)) (whole_status (cause.1.0) after (Ran asked script kept copy) (cause.0) (cause.1.1) (cause.1.2))
    ending_status Undivided cause = is_due (IsStatusDue IsSaid words input) before now 10 (text_due Undivided) (whole_status (cause.1.0) after Undivided (cause.0) (cause.1.1) (cause.1.2))
    ending_status (Told said) cause = is_due (IsStatusDue IsSaid words input) before now (status_of (Told said)) (text_due (Told said)) (whole_status (cause.1.0) after (Told said) (cause.0) (cause.1.1) (cause.1.2))

-- The status of a run that ended with a cause.
pub status_of_cause : {C : Type 0} {IsCopyOf : RunRecord → C → Type 0} (RanAs : Mode → Script → RunRecord → Option CopyKept → Type 0) (IsSaid : Script → List ℕ → Said → Type 0) (words : List (List ℕ)) (left : Option (List ℕ)) {after : Option (List ℕ)} {read : Type 0}
    {before now : Option Written} {wrote : Type 0} {finish : Finish C} → Finishes IsCopyOf (HasCause RanAs IsSaid words left after read) before now wrote finish → IfSome left (λ input. IsStatus (IsStatusDue IsSaid words input) finish.status read wrote)
status_of_cause RanAs IsSaid words None is = tt
status_of_cause RanAs IsSaid words (Some input) {after} {read} {before} {now} {wrote} {finish} is = ending_status RanAs IsSaid words input after read before now wrote finish.status is.ending is.cause is.ends.delivered
