-- How a run begins, or ends before its script runs: from what is read to the source, and from the source to the words.
use Rattle.std.proofs.Common.{◌≡◌, ℕ, Bool, false, List, Option, Result, Ok, Err, refl, sym, subst, arith}
use Rattle.std.specs.Prelude.{IfErr, IfOk, IsTrue, MatchBool, is_some}
use Rattle.map_script.specs.declared.refusal.ScriptRefusal.{ScriptRefusal}
use Rattle.map_script.specs.declared.script.Script.{Script}
use Rattle.map_script.specs.Reading.{IsReadAs, IsReading, is_copy}
use Rattle.map_script.proofs.TargetTold.{target_told}
use Rattle.run_ends.specs.SourceReads.{TakesUpTo}
use Rattle.run_ends.specs.Writes.{Written}
use Rattle.run_ends.proofs.Io.{TakesFront-all}
use Rattle.run_words.specs.declared.words.Asked.{Asked}
use Rattle.run_words.specs.declared.words.Mode.{Mode}
use Rattle.run_words.specs.declared.words.Mode.TheVariants.{Serial, Race, Gen, Compare, Check, Copy}
use Rattle.workload_gen.specs.Generated.{generated_script}
use Rattle.run_words.specs.Words.{are_words, asked_of, mode_of, options_of}
use Rattle.run_endings.specs.declared.finish.Due.{Due}
use Rattle.run_endings.specs.declared.finish.Task.{Task}
use Rattle.run_endings.specs.Finish.{Ending, BadWords, ReadFault, TooLong, Faulty, Refused, Unfit, OutOfMemory, Ran, Undivided, Told, HasCause, HasReport, HasScript, HasSource, IsInput, form_of, judges, script_run}
use Rattle.run_endings.specs.Runs.{strictly_run, NeverRan, NeverSaid, EndsEarly, IsDueOf, IsTask, IsTaskOf}

-- What was read, by what was returned of it

module _ (text : Result Script ScriptRefusal) where
  pub read_so : (read found : Result Script ScriptRefusal) → read ≡ found → IsReading read text → IsReading found text
  read_so read found is reading = subst (λ (r : Result Script ScriptRefusal). IsReading r text) is reading

  pub refused_so : (refusal found : ScriptRefusal) → refusal ≡ found → IsReading (Err refusal) text → IsReading (Err found) text
  refused_so refusal found is reading = subst (λ (r : ScriptRefusal). IsReading (Err r) text) is reading

-- The run with strict recency

-- that of the script which is run is that of the script which was read
pub strict_of_run : (mode : Mode) (script : Script) → strictly_run mode (script_run mode script) ≡ strictly_run mode script
strict_of_run Serial script = refl
strict_of_run Race script = refl
strict_of_run Gen script = refl
strict_of_run Compare script = refl
strict_of_run Check script = refl
strict_of_run Copy script = refl

-- The target

generated_has_none : (script : Script) → is_some (generated_script script).target ≡ false
unfolding generated_script
generated_has_none script = refl

-- the script that is run has a target where the one that was read has it
target_stays : (mode : Mode) (script : Script) → is_some script.target ≡ is_copy (form_of mode) → is_some (script_run mode script).target ≡ is_copy (form_of mode)
target_stays Serial script is = is
target_stays Race script is = is
target_stays Gen script is = generated_has_none script
target_stays Compare script is = is
target_stays Check script is = is
target_stays Copy script is = is

-- so it has one exactly where the mode is that of a copy
pub target_of_run : (mode : Mode) (read due : Script) → IsReadAs (form_of mode) read → due ≡ script_run mode read → is_some due.target ≡ is_copy (form_of mode)
target_of_run mode read due is_read due_is =
    subst (λ (script : Script). is_some script.target ≡ is_copy (form_of mode)) (sym due_is) (target_stays mode read (target_told (form_of mode) is_read.0 read is_read.1))

-- From an input to its source

-- an input that isn't too long was read
pub up_to_input : (before after : Option (List ℕ)) (input : List ℕ) → IsInput before after input → TakesUpTo 16777217 before after
up_to_input before after input is = (input, TakesFront-all before after input is.all, omega (arith, is.short))

module _ (asked : Asked) (runs : judges asked.mode ≡ false) (before after : Option (List ℕ)) (rose : Type 0) (input : List ℕ) (is : IsInput before after input) where
  whole : (ending : Ending) → HasScript NeverRan asked input ending → MatchBool (judges asked.mode) (HasReport NeverSaid input ending) (HasScript NeverRan asked input ending)
  whole ending cause = subst (λ (b : Bool). MatchBool b (HasReport NeverSaid input ending) (HasScript NeverRan asked input ending)) (sym runs) cause

  of_input : (ending : Ending) → HasScript NeverRan asked input ending → HasSource NeverRan NeverSaid asked before after rose ending
  of_input BadWords cause = absurd cause
  of_input ReadFault cause = absurd cause
  of_input TooLong cause = absurd cause
  of_input (Faulty line why) cause = (input, is, whole (Faulty line why) cause)
  of_input (Refused why) cause = (input, is, whole (Refused why) cause)
  of_input (Unfit why) cause = (input, is, whole (Unfit why) cause)
  of_input OutOfMemory cause = up_to_input before after input is
  of_input (Ran was_asked script kept copy) cause = (input, is, whole (Ran was_asked script kept copy) cause)
  of_input Undivided cause = absurd cause
  of_input (Told said) cause = absurd cause

  pub err_by_input : (result : Result Due ℕ) (written now : Option Written) (wrote : Type 0) → IfErr result (EndsEarly (HasScript NeverRan asked input) written now wrote) → IfErr result (EndsEarly (HasSource NeverRan NeverSaid asked before after rose) written now wrote)
  err_by_input (Ok due) written now wrote early = tt
  err_by_input (Err status) written now wrote early = record {
    ending = early.ending;
    cause = of_input early.ending early.cause;
    none = early.none;
    delivered = early.delivered;
  }

  pub ok_by_input : (result : Result Due ℕ) → IfOk result (IsDueOf asked input) → IfOk result (λ due. (input : List ℕ) × IsInput before after input × IsDueOf asked input due)
  ok_by_input (Ok due) of = (input, is, of)
  ok_by_input (Err status) of = tt

-- From a source to the words

pub same_asked : (words : List (List ℕ)) (asked : Asked) → asked.options ≡ options_of words → asked.mode ≡ mode_of words → asked ≡ asked_of words
same_asked words asked options mode = λ i. record { mode = mode i; options = options i }

module _ (words : List (List ℕ)) (good : IsTrue (are_words words)) (asked : Asked) (is : asked ≡ asked_of words) (before after : Option (List ℕ)) where
  of_source : (rose : Type 0) (ending : Ending) → HasSource NeverRan NeverSaid (asked_of words) before after rose ending → HasCause NeverRan NeverSaid words before after rose ending
  of_source rose BadWords cause = absurd cause
  of_source rose ReadFault cause = (good, cause)
  of_source rose TooLong cause = (good, cause)
  of_source rose (Faulty line why) cause = (good, cause)
  of_source rose (Refused why) cause = (good, cause)
  of_source rose (Unfit why) cause = (good, cause)
  of_source rose OutOfMemory cause = cause
  of_source rose (Ran was_asked script kept copy) cause = (good, cause)
  of_source rose Undivided cause = (good, cause)
  of_source rose (Told said) cause = (good, cause)

  pub err_by_source : (rose : Type 0) (result : Result Task ℕ) (written now : Option Written) (wrote : Type 0) → IfErr result (EndsEarly (HasSource NeverRan NeverSaid asked before after rose) written now wrote)
      → IfErr result (EndsEarly (HasCause NeverRan NeverSaid words before after rose) written now wrote)
  err_by_source rose (Ok task) written now wrote early = tt
  err_by_source rose (Err status) written now wrote early =
      let so : EndsEarly (HasSource NeverRan NeverSaid (asked_of words) before after rose) written now wrote status =
      subst (λ (a : Asked). EndsEarly (HasSource NeverRan NeverSaid a before after rose) written now wrote status) is early in
      record { ending = so.ending; cause = of_source rose so.ending so.cause; none = so.none; delivered = so.delivered }

  pub ok_by_source : (result : Result Task ℕ) → IfOk result (IsTaskOf asked before after) → IfOk result (IsTask words before after)
  ok_by_source (Ok task) of = (good, subst (λ (a : Asked). IsTaskOf a before after task) is of)
  ok_by_source (Err status) of = tt
