-- A run of the program before and after its script runs or its report is judged.
use Rattle.std.specs.Prelude.{◌≡◌, ◌⊎◌, ℕ, ◌≤◌, ◌-◌, ◌^◌, true, false, is_some, List, Option, Some, None, Result, Ok, Err, IsTrue, count_by, ⊤}
use Rattle.run_endings.specs.declared.judging.Claim.{Claim}
use Rattle.run_endings.specs.declared.finish.Due.{Due}
use Rattle.run_endings.specs.declared.finish.Task.{Task}
use Rattle.run_endings.specs.declared.finish.Task.TheVariants.{Run, Judge}
use Rattle.run_endings.specs.declared.record.CopyRecord.{CopyRecord}
use Rattle.run_endings.specs.declared.record.Finish.{Finish}
use Rattle.run_words.specs.declared.words.Asked.{Asked}
use Rattle.run_words.specs.declared.words.Mode.{Mode}
use Rattle.run_words.specs.declared.words.Mode.TheVariants.{Serial, Race, Gen, Compare, Check, Copy}
use Rattle.map_script.specs.declared.script.Script.{Script}
use Rattle.map_report.specs.declared.record.RunRecord.{RunRecord}
use Rattle.map_types.specs.declared.refusal.NoMemory.{NoMemory}
use Rattle.map_script.specs.declared.script.Form.TheVariants.{Calls}
use Rattle.map_script.specs.Lines.{is_line_feed}
use Rattle.map_script.specs.Reading.{read_as, is_copy}
use Rattle.map_script.specs.WellFormed.{IsWellFormed}
use Rattle.record_flaws.specs.declared.verdict.Said.{Said}
use Rattle.record_flaws.specs.FlawText.{said_text}
use Rattle.run_ends.specs.Writes.{Written}
use Rattle.run_words.specs.Words.{are_words, asked_of}
use Rattle.lru_compare.specs.declared.run.StrictOut.{StrictOut}
use Rattle.lru_compare.specs.declared.run.StrictRefusal.{StrictRefusal}
use Rattle.lru_compare.specs.declared.run.StrictRefusal.TheVariants as strictly
use Rattle.lru_compare.specs.Run.{strict}
use Rattle.serial_laws.specs.Served.{IsScript}
use Rattle.run_endings.specs.Divided.{is_divided, script_part, report_part}
use Rattle.run_endings.specs.Finish.{Ending, OutOfMemory, CopyKept, copy_kept, form_of, judges, script_run, status_said, unfit, status_of, text_due, kept_in, kept_of, out, IsInput, IsDelivered}

-- no script was run
abbrev pub NeverRan : Mode → Script → RunRecord → Option CopyKept → Type 0
NeverRan mode script kept copy = ⊥

-- nothing was said of a report
abbrev pub NeverSaid : Script → List ℕ → Said → Type 0
NeverSaid script report said = ⊥

-- the run with strict recency that a script has in a mode: in that of comparisons
abbrev pub strictly_run : Mode → Script → Option StrictOut
strictly_run Serial script = None
strictly_run Race script = None
strictly_run Gen script = None
strictly_run Compare script = Some (strict script)
strictly_run Check script = None
strictly_run Copy script = None

-- a script isn't run in a mode for this reason, or memory was not found
abbrev pub IsUnfit : Mode → Script → StrictRefusal → Type 0
IsUnfit mode script strictly.Kind = unfit mode script ≡ Some strictly.Kind
IsUnfit mode script (strictly.Verb call) = unfit mode script ≡ Some (strictly.Verb call)
IsUnfit mode script strictly.NoMemory = ⊤

-- what was answered of a script in a mode is its run with strict recency that is due, or why it isn't run
abbrev pub IsStrictlyRun : Mode → Script → Result (Option StrictOut) StrictRefusal → Type 0
IsStrictlyRun mode script (Ok out) = (unfit mode script ≡ None) × (out ≡ strictly_run mode script)
IsStrictlyRun mode script (Err why) = IsUnfit mode script why

-- An input is read as a script that fits what is asked for, and what is due is the script that is run of it, as it is asked for.
pub record IsDueOf (asked : Asked) (input : List ℕ) (due : Due) : Type 0 where
  pub read : Script
  pub is_read : read_as (form_of asked.mode) input ≡ Ok read
  pub fits : unfit asked.mode read ≡ None
  pub asked_is : due.asked ≡ asked
  pub script_is : due.script ≡ script_run asked.mode read

-- An input is divided, its script part is read, and what is to be judged is its report part, as one of that script.
pub record IsClaimOf (input : List ℕ) (claim : Claim) : Type 0 where
  pub divided : IsTrue (is_divided input)
  pub is_read : read_as Calls (script_part input) ≡ Ok claim.script
  pub report_is : claim.report.items ≡ report_part input

-- An input was read to its end, of which a script is due as it is asked for, or a report where a report is to be judged.
abbrev pub IsTaskOf : Asked → Option (List ℕ) → Option (List ℕ) → Task → Type 0
IsTaskOf asked before after (Run due) =
    (judges asked.mode ≡ false) × ((input : List ℕ) × IsInput before after input × IsDueOf asked input due)
IsTaskOf asked before after (Judge claim) =
    (judges asked.mode ≡ true) × ((input : List ℕ) × IsInput before after input × IsClaimOf input claim)

-- the words are good, and an input was read of which this is due as they ask for it
abbrev pub IsTask : List (List ℕ) → Option (List ℕ) → Option (List ℕ) → Task → Type 0
IsTask words before after task = IsTrue (are_words words) × IsTaskOf (asked_of words) before after task

-- A report can be judged: the script is one that a text is read as, and the lines can be counted.
pub record IsJudgeable (claim : Claim) : Type 0 where
  pub script : IsWellFormed claim.script
  pub lines : count_by is_line_feed claim.report.items ≤ 2 ^ 32 - 3

-- the script that is due has a target exactly where its mode is that of a copy
abbrev pub HasTarget : Due → Type 0
HasTarget due = is_some due.script.target ≡ is_copy (form_of due.asked.mode)

-- what is due can be done: a script can be run in its mode, a report can be judged
abbrev pub IsReady : Task → Type 0
IsReady (Run due) =
    IsScript due.script × (due.strict ≡ strictly_run due.asked.mode due.script) × (judges due.asked.mode ≡ false) × HasTarget due
IsReady (Judge claim) = IsJudgeable claim

-- A run ended with this status, and with no record: an ending that it may have, whose line was delivered.
pub record EndsEarly (MayEnd : Ending → Type 0) (before after : Option Written) (rose : Type 0) (status : ℕ) : Type 0 where
  pub ending : Ending
  pub cause : MayEnd ending
  pub none : kept_of ending ≡ None
  pub delivered : IsDelivered (status_of ending) (text_due ending) status before after rose

-- A run ended with what came of it: the text of that was delivered, and what is kept in the mode was kept, with the copy.
pub record EndsKept {C : Type 0} (due : Due) (ran : Result (RunRecord × C × Option (CopyRecord C)) NoMemory) (before after : Option Written) (rose : Type 0) (finish : Finish C) : Type 0 where
  pub kept : RunRecord
  pub closed : C
  pub copy : Option (CopyRecord C)
  pub ran_is : ran ≡ Ok (kept, closed, copy)
  pub kept_is : finish.kept ≡ kept_in due.asked.mode kept
  pub closed_is : finish.closed ≡ kept_in due.asked.mode closed
  pub copy_is : finish.copy ≡ copy
  pub delivered : IsDelivered 0 (out due.asked due.script kept (copy_kept copy)) finish.status before after rose

-- A run ended for which memory was not found: nothing is kept.
pub record EndsOutOfMemory {C : Type 0} (before after : Option Written) (rose : Type 0) (finish : Finish C) : Type 0 where
  pub kept : finish.kept ≡ None
  pub closed : finish.closed ≡ None
  pub copy : finish.copy ≡ None
  pub delivered : IsDelivered 5 (text_due OutOfMemory) finish.status before after rose

-- how a run ends that was due, by what came of it
abbrev pub EndsRun : {C : Type 0} → Due → Result (RunRecord × C × Option (CopyRecord C)) NoMemory → Option Written → Option Written → Type 0 → Finish C → Type 0
EndsRun due ran before after rose finish = EndsKept due ran before after rose finish ⊎ EndsOutOfMemory before after rose finish

-- A run ended with what was said of its report: the line of that was delivered, and nothing is kept.
pub record EndsSaid {C : Type 0} (judged : Result Said NoMemory) (before after : Option Written) (rose : Type 0) (finish : Finish C) : Type 0 where
  pub said : Said
  pub said_is : judged ≡ Ok said
  pub kept : finish.kept ≡ None
  pub closed : finish.closed ≡ None
  pub copy : finish.copy ≡ None
  pub delivered : IsDelivered (status_said said) (said_text said) finish.status before after rose

-- how a run ends whose report was to be judged, by what came of it
abbrev pub EndsJudged : {C : Type 0} → Result Said NoMemory → Option Written → Option Written → Type 0 → Finish C → Type 0
EndsJudged judged before after rose finish = EndsSaid judged before after rose finish ⊎ EndsOutOfMemory before after rose finish
