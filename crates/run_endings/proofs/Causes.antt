-- What the status of a run tells of its cause.
use Rattle.std.proofs.Common.{◌≡◌, ℕ, Bool, true, false, List, Option, sym, ◌∙◌, ⊎_elim}
use Rattle.std.specs.Prelude.{MatchBool, IsTrue, Err}
use Rattle.map_report.specs.declared.record.RunRecord.{RunRecord}
use Rattle.map_script.specs.declared.refusal.Cause.{Cause}
use Rattle.map_script.specs.declared.refusal.ScriptRefusal.TheVariants.{Fault}
use Rattle.map_script.specs.declared.script.Form.TheVariants.{Calls}
use Rattle.map_script.specs.declared.script.Script.{Script}
use Rattle.map_script.specs.Reading.{read_as}
use Rattle.record_flaws.specs.declared.verdict.Said.{Said}
use Rattle.record_flaws.specs.declared.verdict.Said.TheVariants.{Unread, Judged}
use Rattle.record_flaws.specs.declared.verdict.Verdict.TheVariants.{Yes, No}
use Rattle.run_ends.specs.Writes.{Written}
use Rattle.run_words.specs.Words.{are_words, asked_of, mode_of}
use Rattle.run_endings.specs.declared.record.Finish.{Finish}
use Rattle.run_endings.specs.Causes.{IsFaulty}
use Rattle.run_endings.specs.Divided.{is_divided, script_part}
use Rattle.run_endings.specs.Finish.{Ending, BadWords, ReadFault, TooLong, Faulty, Refused, Unfit, OutOfMemory, Ran, Undivided, Told, Finishes, HasCause, HasReport, HasScript, CopyKept, IsDelivered, form_of, judges, status_of, text_due}
use Rattle.run_words.specs.declared.words.Mode.{Mode}

-- a status that isn't 4 is the one that was due
was_due : (due wanted status : ℕ) (text : List ℕ) (before after : Option Written) (wrote : Type 0) → IsDelivered due text status before after wrote → status ≡ wanted → (wanted ≡ 4 → ⊥) → due ≡ wanted
was_due due wanted status text before after wrote =
    ⊎_elim
    (λ told is no_fault. sym (told.0) ∙ is)
    (λ told is no_fault. absurd (no_fault (sym is ∙ told.0)))

-- and 4 isn't due
has_risen : (due status : ℕ) (text : List ℕ) (before after : Option Written) (wrote : Type 0) → IsDelivered due text status before after wrote → status ≡ 4 → (due ≡ 4 → ⊥) → wrote
has_risen due status text before after wrote =
    ⊎_elim
    (λ told is not_due. absurd (not_due (sym (told.0) ∙ is)))
    (λ told is not_due. told.2)

never_due : (ending : Ending) → status_of ending ≡ 4 → ⊥
never_due BadWords is = absurd cc
never_due ReadFault is = absurd cc
never_due TooLong is = absurd cc
never_due (Faulty line why) is = absurd cc
never_due (Refused why) is = absurd cc
never_due (Unfit why) is = absurd cc
never_due OutOfMemory is = absurd cc
never_due (Ran asked script kept copy) is = absurd cc
never_due Undivided is = absurd cc
never_due (Told (Judged Yes)) is = absurd cc
never_due (Told (Judged (No flaw))) is = absurd cc
never_due (Told (Unread line)) is = absurd cc

module _ (RanAs : Mode → Script → RunRecord → Option CopyKept → Type 0) (IsSaid : Script → List ℕ → Said → Type 0) (words : List (List ℕ)) (left rest : Option (List ℕ)) (read : Type 0) where
  read_rose : (ending : Ending) → HasCause RanAs IsSaid words left rest read ending → status_of ending ≡ 3 → read
  read_rose ReadFault cause is = cause.1.0
  read_rose BadWords cause is = absurd cc
  read_rose TooLong cause is = absurd cc
  read_rose (Faulty line why) cause is = absurd cc
  read_rose (Refused why) cause is = absurd cc
  read_rose (Unfit why) cause is = absurd cc
  read_rose OutOfMemory cause is = absurd cc
  read_rose (Ran asked script kept copy) cause is = absurd cc
  read_rose Undivided cause is = absurd cc
  read_rose (Told (Judged Yes)) cause is = absurd cc
  read_rose (Told (Judged (No flaw))) cause is = absurd cc
  read_rose (Told (Unread line)) cause is = absurd cc

  -- what an input with a fault is read as
  is_read : (input : List ℕ) (line : ℕ) (why : Cause) (mode : Mode) (b : Bool) → MatchBool b (HasReport IsSaid input (Faulty line why)) (HasScript RanAs (record (asked_of words) { mode = mode }) input (Faulty line why))
      → MatchBool b (IsTrue (is_divided input) × (read_as Calls (script_part input) ≡ Err (Fault line why))) (read_as (form_of mode) input ≡ Err (Fault line why))
  is_read input line why mode true cause = cause
  is_read input line why mode false cause = cause

  is_faulty : (ending : Ending) → HasCause RanAs IsSaid words left rest read ending → status_of ending ≡ 1 → IsFaulty (mode_of words) left rest
  is_faulty (Faulty line why) cause is = record {
    input = cause.1.0;
    is_input = cause.1.1;
    line = line;
    cause = why;
    faulty = is_read (cause.1.0) line why (mode_of words) (judges (mode_of words)) (cause.1.2);
  }
  is_faulty BadWords cause is = absurd cc
  is_faulty ReadFault cause is = absurd cc
  is_faulty TooLong cause is = absurd cc
  is_faulty (Refused why) cause is = absurd cc
  is_faulty (Unfit why) cause is = absurd cc
  is_faulty OutOfMemory cause is = absurd cc
  is_faulty (Ran asked script kept copy) cause is = absurd cc
  is_faulty Undivided cause is = absurd cc
  is_faulty (Told (Judged Yes)) cause is = absurd cc
  is_faulty (Told (Judged (No flaw))) cause is = absurd cc
  is_faulty (Told (Unread line)) cause is = absurd cc

  has_words : (ending : Ending) → HasCause RanAs IsSaid words left rest read ending → status_of ending ≡ 1 → IsTrue (are_words words)
  has_words (Faulty line why) cause is = cause.0
  has_words BadWords cause is = absurd cc
  has_words ReadFault cause is = absurd cc
  has_words TooLong cause is = absurd cc
  has_words (Refused why) cause is = absurd cc
  has_words (Unfit why) cause is = absurd cc
  has_words OutOfMemory cause is = absurd cc
  has_words (Ran asked script kept copy) cause is = absurd cc
  has_words Undivided cause is = absurd cc
  has_words (Told (Judged Yes)) cause is = absurd cc
  has_words (Told (Judged (No flaw))) cause is = absurd cc
  has_words (Told (Unread line)) cause is = absurd cc

module _ {C : Type 0} (IsCopyOf : RunRecord → C → Type 0) (RanAs : Mode → Script → RunRecord → Option CopyKept → Type 0) (IsSaid : Script → List ℕ → Said → Type 0) (words : List (List ℕ)) (left rest : Option (List ℕ)) (read : Type 0) (before after : Option Written) (wrote : Type 0) (finish : Finish C)
    (is : Finishes IsCopyOf (HasCause RanAs IsSaid words left rest read) before after wrote finish) where
  due : (wanted : ℕ) → finish.status ≡ wanted → (wanted ≡ 4 → ⊥) → status_of is.ending ≡ wanted
  due wanted status = was_due (status_of is.ending) wanted finish.status (text_due is.ending) before after wrote is.ends.delivered status

  pub fault_has_cause : finish.status ≡ 1 → IsTrue (are_words words) × IsFaulty (mode_of words) left rest
  fault_has_cause status =
      let told : status_of is.ending ≡ 1 = due 1 status (λ no. absurd cc) in
      (has_words RanAs IsSaid words left rest read is.ending is.cause told, is_faulty RanAs IsSaid words left rest read is.ending is.cause told)

  pub read_fault_has_cause : finish.status ≡ 3 → read
  read_fault_has_cause status = read_rose RanAs IsSaid words left rest read is.ending is.cause (due 3 status (λ no. absurd cc))

  pub write_fault_has_cause : finish.status ≡ 4 → wrote
  write_fault_has_cause status = has_risen (status_of is.ending) finish.status (text_due is.ending) before after wrote is.ends.delivered status (never_due is.ending)
