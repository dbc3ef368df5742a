-- How a run of the program ends: its status, what it writes, and what it keeps. What runs scripts and judges reports hands in
-- three relations: RanAs, which records may be kept of a script that ran in a mode, with what is kept of a copy, IsSaid, what may be
-- said of a report of a script, and IsCopyOf, which records are copies of what a map left.
use Rattle.std.specs.Prelude.{◌≡◌, ℕ, ◌≤◌, ◌⊎◌, Bool, true, false, List, [], ◌++◌, length, Option, Some, None, Result, Ok, Err, IsTrue, MatchBool, codes, decimal, nat_le, if◌then◌else◌, ⊤}
use Rattle.run_endings.specs.declared.record.CopyRecord.{CopyRecord}
use Rattle.run_endings.specs.declared.record.Finish.{Finish}
use Rattle.map_report.specs.declared.record.Options.{Options}
use Rattle.run_words.specs.declared.words.Asked.{Asked}
use Rattle.run_words.specs.declared.words.Mode.{Mode}
use Rattle.run_words.specs.declared.words.Mode.TheVariants.{Serial, Race, Gen, Compare, Check, Copy}
use Rattle.map_script.specs.declared.script.Script.{Script}
use Rattle.map_script.specs.declared.script.Target.{Target}
use Rattle.map_report.specs.declared.record.RunRecord.{RunRecord}
use Rattle.map_types.specs.declared.reply.Reply.{Reply}
use Rattle.map_types.specs.declared.refusal.CreateRefusal.{CreateRefusal}
use Rattle.map_types.specs.declared.refusal.CreateRefusal.TheVariants.{Einval, Enotsupp, Limit}
use Rattle.map_types.specs.declared.refusal.Limit.{Limit as Bound}
use Rattle.map_types.specs.declared.refusal.Limit.TheVariants.{Cpus, Max, Key, Value, Pool}
use Rattle.map_script.specs.declared.refusal.Cause.{Cause}
use Rattle.map_script.specs.declared.refusal.ScriptRefusal.{ScriptRefusal}
use Rattle.map_script.specs.declared.refusal.ScriptRefusal.TheVariants.{Fault, Create, NoMemory}
use Rattle.map_script.specs.declared.script.Form.{Form}
use Rattle.map_script.specs.declared.script.Form.TheVariants.{Calls, Generator}
use Rattle.map_script.specs.declared.script.Form.TheVariants as forms
use Rattle.map_script.specs.Reading.{read_as, IsReading}
use Rattle.map_script.specs.CauseName.{cause_name}
use Rattle.run_ends.specs.SourceReads.{TakesFront, TakesAll, TakesUpTo}
use Rattle.map_report.specs.Json.{json}
use Rattle.map_report.specs.Summary.{summary}
use Rattle.map_report.specs.Text.{report}
use Rattle.copy_report.specs.CopyText.{copy_text}
use Rattle.lru_compare.specs.declared.run.StrictRefusal.{StrictRefusal}
use Rattle.lru_compare.specs.declared.run.StrictRefusal.TheVariants.{Kind, Verb}
use Rattle.lru_compare.specs.declared.run.StrictRefusal.TheVariants as strictly
use Rattle.lru_compare.specs.Comparison.{comparison}
use Rattle.lru_compare.specs.Run.{refused, strict}
use Rattle.record_flaws.specs.declared.verdict.Said.{Said}
use Rattle.record_flaws.specs.declared.verdict.Said.TheVariants.{Unread, Judged}
use Rattle.record_flaws.specs.declared.verdict.Verdict.TheVariants.{Yes, No}
use Rattle.record_flaws.specs.FlawText.{said_text}
use Rattle.run_words.specs.Words.{are_words, asked_of, mode_of}
use Rattle.run_ends.specs.Writes.{Written, AddsWhole, AddsPrefix}
use Rattle.workload_gen.specs.Generated.{generated_script}
use Rattle.run_endings.specs.Divided.{is_divided, script_part, report_part}

-- whether a mode judges a report, and runs nothing
abbrev pub judges : Mode → Bool
judges Serial = false
judges Race = false
judges Gen = false
judges Compare = false
judges Check = true
judges Copy = false

-- the form that the script of a mode has
abbrev pub form_of : Mode → Form
form_of Serial = Calls
form_of Race = Calls
form_of Gen = Generator
form_of Compare = Calls
form_of Check = Calls
form_of Copy = forms.Copy

-- the script that is run of one that was read: itself, or the one with the calls that its generator line stands for
abbrev pub script_run : Mode → Script → Script
script_run Serial script = script
script_run Race script = script
script_run Gen script = generated_script script
script_run Compare script = script
script_run Check script = script
script_run Copy script = script

-- Why a script that was read isn't run in a mode, if it isn't: one whose map or calls can't be compared with strict recency.
abbrev pub unfit : Mode → Script → Option StrictRefusal
unfit Serial script = None
unfit Race script = None
unfit Gen script = None
unfit Compare script = refused script
unfit Check script = None
unfit Copy script = None

-- What is kept of a copy beside the record of its source: the replies to its reads, and the record of its target.
pub record CopyKept : Type 0 where
  pub reads : List Reply
  pub target : RunRecord

-- how a run ends, before anything is written
pub data Ending : Type 0 where
  BadWords : Ending
  ReadFault : Ending
  TooLong : Ending
  Faulty : ℕ → Cause → Ending
  Refused : CreateRefusal → Ending
  Unfit : StrictRefusal → Ending
  OutOfMemory : Ending
  Ran : Asked → Script → RunRecord → Option CopyKept → Ending
  Undivided : Ending
  Told : Said → Ending

-- the status of what is said of a report
abbrev pub status_said : Said → ℕ
status_said (Judged Yes) = 0
status_said (Judged (No flaw)) = 9
status_said (Unread line) = 10

-- the status that it has
abbrev pub status_of : Ending → ℕ
status_of (Ran asked script kept copy) = 0
status_of (Faulty line cause) = 1
status_of BadWords = 2
status_of ReadFault = 3
status_of OutOfMemory = 5
status_of (Refused why) = 6
status_of TooLong = 7
status_of Undivided = 10
status_of (Unfit why) = 11
status_of (Told said) = status_said said

-- why a map can't be created
abbrev pub limit_name : Bound → List ℕ
limit_name Cpus = codes "cpus"
limit_name Max = codes "max"
limit_name Key = codes "key"
limit_name Value = codes "value"
limit_name Pool = codes "pool"

abbrev pub refusal_name : CreateRefusal → List ℕ
refusal_name Einval = codes "einval"
refusal_name Enotsupp = codes "enotsupp"
refusal_name (Limit limit) = codes "limit " ++ limit_name limit

-- why a script isn't compared: its map's kind, or the number of its first call that can't be (want of memory is no such reason)
abbrev pub unfit_name : StrictRefusal → List ℕ
unfit_name Kind = codes "kind"
unfit_name (Verb call) = codes "call " ++ decimal call
unfit_name strictly.NoMemory = codes "memory"

-- what is written of a copy, where there is a target and a copy was made
abbrev pub text_of_copy : Option Target → Script → RunRecord → Option CopyKept → Options → List ℕ
text_of_copy (Some target) script kept (Some copy) options =
    copy_text script kept target.shape copy.target copy.reads options
text_of_copy (Some target) script kept None options = []
text_of_copy None script kept copy options = []

-- What is written of a run in lines: its report, or where the calls were generated a summary, or where it was asked for the
-- comparison with the script's run with strict recency, or the text of a copy. Nothing is run in mode `check`.
abbrev pub lines_of : Mode → Script → RunRecord → Option CopyKept → Options → List ℕ
lines_of Serial script kept copy options = report script kept options
lines_of Race script kept copy options = report script kept options
lines_of Gen script kept copy options = summary script kept options
lines_of Compare script kept copy options = comparison script kept (strict script)
lines_of Check script kept copy options = []
lines_of Copy script kept copy options = text_of_copy script.target script kept copy options

-- what is written of a run: its lines, or a JSON object where that is asked for
abbrev pub out : Asked → Script → RunRecord → Option CopyKept → List ℕ
out asked script kept copy =
    if asked.options.json then json script kept asked.options else lines_of asked.mode script kept copy asked.options

-- what is to be written: what was kept of the script that was run of the one that was read, or a line
abbrev pub text_due : Ending → List ℕ
text_due (Ran asked script kept copy) = out asked (script_run asked.mode script) kept copy
text_due (Faulty line cause) = codes "bpfmap: line " ++ decimal line ++ codes ": " ++ cause_name cause ++ codes "\n"
text_due BadWords = codes "bpfmap: words\n"
text_due ReadFault = codes "bpfmap: read\n"
text_due OutOfMemory = codes "bpfmap: memory\n"
text_due (Refused why) = codes "bpfmap: map refused: " ++ refusal_name why ++ codes "\n"
text_due TooLong = codes "bpfmap: too long\n"
text_due (Unfit why) = codes "bpfmap: compare: " ++ unfit_name why ++ codes "\n"
text_due Undivided = codes "bpfmap: record line 1\n"
text_due (Told said) = said_text said

-- what is kept of what a run in a mode came to: of a comparison nothing, and nothing where none is run
abbrev pub kept_in : {A : Type 0} → Mode → A → Option A
kept_in Serial kept = Some kept
kept_in Race kept = Some kept
kept_in Gen kept = Some kept
kept_in Compare kept = None
kept_in Check kept = None
kept_in Copy kept = Some kept

abbrev pub kept_of : Ending → Option RunRecord
kept_of (Ran asked script kept copy) = kept_in asked.mode kept
kept_of _ = None

-- what is kept of the copy that a run made
abbrev pub copy_of : Ending → Option CopyKept
copy_of (Ran asked script kept copy) = copy
copy_of _ = None

-- what a map left of which the record was made, exactly where a record is kept
abbrev pub IsKeptFrom : {C : Type 0} → (RunRecord → C → Type 0) → Option RunRecord → Option C → Type 0
IsKeptFrom IsCopyOf None None = ⊤
IsKeptFrom IsCopyOf (Some kept) (Some closed) = IsCopyOf kept closed
IsKeptFrom IsCopyOf None (Some closed) = ⊥
IsKeptFrom IsCopyOf (Some kept) None = ⊥

-- what is kept of a copy, without what its target left
abbrev pub copy_kept : {C : Type 0} → Option (CopyRecord C) → Option CopyKept
copy_kept None = None
copy_kept (Some found) = Some (record { reads = found.reads; target = found.target })

-- What is kept of a copy is this, with what a target left of which its record was made, exactly where there is a copy.
abbrev pub IsCopyFrom : {C : Type 0} → (RunRecord → C → Type 0) → Option CopyKept → Option (CopyRecord C) → Type 0
IsCopyFrom IsCopyOf None None = ⊤
IsCopyFrom IsCopyOf (Some copy) (Some found) =
    (found.reads ≡ copy.reads) × (found.target ≡ copy.target) × IsCopyOf found.target found.closed
IsCopyFrom IsCopyOf None (Some found) = ⊥
IsCopyFrom IsCopyOf (Some copy) None = ⊥

-- an input was read to its end, and isn't too long
pub record IsInput (before after : Option (List ℕ)) (input : List ℕ) : Type 0 where
  pub all : TakesAll before after input
  pub short : length input ≤ 16777216

-- what was returned is what an input is read as that isn't too long, unless memory ran out
abbrev pub WasRead : Form → Result Script ScriptRefusal → Type 0
WasRead form read = (input : List ℕ) × (length input ≤ 16777216) × IsReading read (read_as form input)

-- Which endings an input has that was read to its end as a script, which is to be run as it is asked for.
abbrev pub HasScript : (Mode → Script → RunRecord → Option CopyKept → Type 0) → Asked → List ℕ → Ending → Type 0
HasScript RanAs asked input (Ran was_asked script kept copy) =
    (was_asked ≡ asked) × (read_as (form_of asked.mode) input ≡ Ok script) × (unfit asked.mode script ≡ None)
    × RanAs asked.mode (script_run asked.mode script) kept copy
HasScript RanAs asked input (Faulty line cause) = read_as (form_of asked.mode) input ≡ Err (Fault line cause)
HasScript RanAs asked input (Refused why) = read_as (form_of asked.mode) input ≡ Err (Create why)
HasScript RanAs asked input (Unfit why) = (script : Script) × (read_as (form_of asked.mode) input ≡ Ok script) × (unfit asked.mode script ≡ Some why)
HasScript RanAs asked input OutOfMemory = ⊤
HasScript RanAs asked input _ = ⊥

-- Which endings an input has that was read to its end as a script and a report, which is to be judged. That no line divides them
-- comes before what the script is read as, and this before what is said of the report.
abbrev pub HasReport : (Script → List ℕ → Said → Type 0) → List ℕ → Ending → Type 0
HasReport IsSaid input Undivided = is_divided input ≡ false
HasReport IsSaid input (Faulty line cause) = IsTrue (is_divided input) × (read_as Calls (script_part input) ≡ Err (Fault line cause))
HasReport IsSaid input (Refused why) = IsTrue (is_divided input) × (read_as Calls (script_part input) ≡ Err (Create why))
HasReport IsSaid input (Told said) =
    IsTrue (is_divided input) × ((script : Script) × (read_as Calls (script_part input) ≡ Ok script) × IsSaid script (report_part input) said)
HasReport IsSaid input OutOfMemory = ⊤
HasReport IsSaid input _ = ⊥

-- Which endings an input has that was read to its end, where this is asked for.
abbrev pub HasInput : (Mode → Script → RunRecord → Option CopyKept → Type 0) → (Script → List ℕ → Said → Type 0) → Asked → List ℕ → Ending → Type 0
HasInput RanAs IsSaid asked input ending = MatchBool (judges asked.mode) (HasReport IsSaid input ending) (HasScript RanAs asked input ending)

-- Which endings good words have, by what a source tells is left before and after, and by whether its count of faults
-- rose. With each of them at most 16,777,217 bytes were read.
abbrev pub HasSource : (Mode → Script → RunRecord → Option CopyKept → Type 0) → (Script → List ℕ → Said → Type 0) → Asked → Option (List ℕ) → Option (List ℕ) → Type 0 → Ending → Type 0
HasSource RanAs IsSaid asked before after rose BadWords = ⊥
HasSource RanAs IsSaid asked before after rose ReadFault = rose × TakesUpTo 16777217 before after
HasSource RanAs IsSaid asked before after rose TooLong = (bytes : List ℕ) × TakesFront before after bytes × (length bytes ≡ 16777217)
HasSource RanAs IsSaid asked before after rose OutOfMemory = TakesUpTo 16777217 before after
HasSource RanAs IsSaid asked before after rose ending = (input : List ℕ) × IsInput before after input × HasInput RanAs IsSaid asked input ending

-- Which endings words have. Any words may end with memory not found.
abbrev pub HasCause : (Mode → Script → RunRecord → Option CopyKept → Type 0) → (Script → List ℕ → Said → Type 0) → List (List ℕ) → Option (List ℕ) → Option (List ℕ) → Type 0 → Ending → Type 0
HasCause RanAs IsSaid words before after rose BadWords = (are_words words ≡ false) × (after ≡ before)
HasCause RanAs IsSaid words before after rose OutOfMemory = TakesUpTo 16777217 before after
HasCause RanAs IsSaid words before after rose ending = IsTrue (are_words words) × HasSource RanAs IsSaid (asked_of words) before after rose ending

-- The text is written whole and flushed with the status that is due, or a prefix of it with status 4 and a fault.
abbrev pub IsDelivered : ℕ → List ℕ → ℕ → Option Written → Option Written → Type 0 → Type 0
IsDelivered due text status before after rose =
    ((status ≡ due) × AddsWhole before after text) ⊎ ((status ≡ 4) × AddsPrefix before after text × rose)

-- An ending was delivered, with what is kept of the run and what its map left, and of a copy with what its target left.
pub record Ends {C : Type 0} (IsCopyOf : RunRecord → C → Type 0) (ending : Ending) (before after : Option Written) (rose : Type 0) (finish : Finish C) : Type 0 where
  pub kept : finish.kept ≡ kept_of ending
  pub closed : IsKeptFrom IsCopyOf finish.kept finish.closed
  pub copy : IsCopyFrom IsCopyOf (copy_of ending) finish.copy
  pub delivered : IsDelivered (status_of ending) (text_due ending) finish.status before after rose

-- how a run ended, by which endings it may have, and from what a sink tells before to what it tells after
pub record Finishes {C : Type 0} (IsCopyOf : RunRecord → C → Type 0) (MayEnd : Ending → Type 0) (before after : Option Written) (rose : Type 0) (finish : Finish C) : Type 0 where
  pub ending : Ending
  pub cause : MayEnd ending
  pub ends : Ends IsCopyOf ending before after rose finish

-- The status of a script that was read, by why it isn't run. Each other one is run, so it ends with 0.
abbrev pub status_run : Option StrictRefusal → ℕ
status_run None = 0
status_run (Some why) = 11

-- the status of a script that isn't one
abbrev pub status_refused : ScriptRefusal → ℕ
status_refused (Fault line cause) = 1
status_refused (Create why) = 6
status_refused NoMemory = 5

-- the status of what an input is read as, which is to be run
abbrev pub status_read : Mode → Result Script ScriptRefusal → ℕ
status_read mode (Ok script) = status_run (unfit mode script)
status_read mode (Err refusal) = status_refused refusal

-- the status of a report, by what the script before it is read as: that of what is said of the report, where there is a script
abbrev pub IsStatusRead : (Script → List ℕ → Said → Type 0) → Result Script ScriptRefusal → List ℕ → ℕ → Type 0
IsStatusRead IsSaid (Ok script) report status = (said : Said) × IsSaid script report said × (status ≡ status_said said)
IsStatusRead IsSaid (Err refusal) report status = status ≡ status_refused refusal

-- the status of an input that is to be judged
abbrev pub IsStatusJudged : (Script → List ℕ → Said → Type 0) → List ℕ → ℕ → Type 0
IsStatusJudged IsSaid input status =
    MatchBool (is_divided input) (IsStatusRead IsSaid (read_as Calls (script_part input)) (report_part input) status) (status ≡ 10)

-- the status of an input in a mode
abbrev pub IsStatusIn : (Script → List ℕ → Said → Type 0) → Mode → List ℕ → ℕ → Type 0
IsStatusIn IsSaid mode input status =
    MatchBool (judges mode) (IsStatusJudged IsSaid input status) (status ≡ status_read mode (read_as (form_of mode) input))

-- the status of words and an input, where memory is found and no count of faults rises
abbrev pub IsStatusDue : (Script → List ℕ → Said → Type 0) → List (List ℕ) → List ℕ → ℕ → Type 0
IsStatusDue IsSaid words input status =
    MatchBool (are_words words) (MatchBool (nat_le (length input) 16777216) (IsStatusIn IsSaid (mode_of words) input status) (status ≡ 7)) (status ≡ 2)

-- Each status has its cause: it is one that is due, or a read failed, a write failed, or memory was not found.
abbrev pub IsStatus : (ℕ → Type 0) → ℕ → Type 0 → Type 0 → Type 0
IsStatus IsDue status source_rose sink_rose =
    IsDue status ⊎ ((status ≡ 3) × source_rose) ⊎ ((status ≡ 4) × sink_rose) ⊎ (status ≡ 5)
