-- The run of a copy. While the calls of the last phase of a script go on, CPU 0, which has none of them, reads the map page after page,
-- and puts the pairs of each page into another map, the target.
use Rattle.std.specs.Prelude.{◌≡◌, ℕ, suc, ◌+◌, ◌<◌, ◌≤◌, true, false, Bool, MatchBool, MatchOption, All, IsTrue, IsFalse, List, [], ◌∷◌, ◌++◌, length, map, Option, None, Some, option_map}
use Rattle.std.specs.List.{flat_map}
use Rattle.map_types.specs.Creation.{IsShape}
use Rattle.map_types.specs.Kind.{is_lru, is_percpu}
use Rattle.map_types.specs.Pairs.{HaveSizes}
use Rattle.map_types.specs.Sides.{value_read}
use Rattle.map_types.specs.Stored.{Stored}
use Rattle.map_types.specs.ValueLen.{value_len_of}
use Rattle.map_types.specs.declared.attr.CreateAttr.{CreateAttr}
use Rattle.map_types.specs.declared.attr.Shape.{Shape}
use Rattle.map_types.specs.declared.call.Call.{Call}
use Rattle.map_types.specs.declared.call.Verb.TheVariants.{BatchRead, BatchUpdate}
use Rattle.map_types.specs.declared.kind.Side.TheVariants.{Sys}
use Rattle.map_types.specs.declared.reply.Reply.{Reply}
use Rattle.map_script.specs.declared.script.Script.{Script}
use Rattle.map_script.specs.declared.script.Target.{Target}
use Rattle.map_script.specs.WellFormed.{AreOfOthers}
use Rattle.map_copy.specs.Answers.{AreAnswered, IsAnswer}
use Rattle.map_copy.specs.Copied.{Read, Step, IsPage, IsPutOf, has_stopped, pairs_in}
use Rattle.map_copy.specs.CopyScripts.{extended, put_calls, put_replies, read_call, read_replies, target_script}
use Rattle.map_copy.specs.Plans.{PlanView, IsCopied, IsCopying, plan_after, step_of}
use Rattle.map_report.specs.declared.record.PhaseStart.{PhaseStart}
use Rattle.map_report.specs.declared.record.RunRecord.{RunRecord}
use Rattle.map_report.specs.Record.{MayAnswer}
use Rattle.map_report.specs.Runs.{serial}
use Rattle.map_report.specs.Serial.{bucket_at, in_bucket_at}
use Rattle.map_report.specs.Soundness.{IsBucket}
use Rattle.place_words.specs.declared.finals.Finals.{Finals}
use Rattle.place_words.specs.AtRest.{IsStart}
use Rattle.place_words.specs.Bodies.{present}
use Rattle.place_words.specs.Interleaving.{CoreRun}
use Rattle.place_words.specs.Phases.{phase_count}
use Rattle.place_table.specs.Calls.{Called}
use Rattle.place_table.specs.Passes.{PassView, TableView, IsInNoCall, IsPassOf, begun}
use Rattle.place_table.specs.Views.{is_among}
use Rattle.one_map.specs.Linear.{IsLinearizable}
use Rattle.run_records.specs.ByLogs.{HaveRunFrom, RunStart}
use Rattle.run_records.specs.Phased.{HasGone, IsWhole}
use Rattle.run_records.specs.Races.{HaveComeTo, IsRaceRecord, RanCalls, calls_of}
use Rattle.run_records.specs.SerialPhases.{HaveRunPhases}
use Rattle.run_records.specs.Work.{HasWorked}
use Rattle.run_records.specs.declared.pieces.Piece.{Piece}
use Rattle.serial_laws.specs.Laws.{SerialLaws}
use Rattle.serial_laws.specs.Served.{IsServedCall}
use Rattle.map_run.specs.declared.worker.Worker.{Worker}
use Rattle.map_run.specs.Workers.{HaveDone}

-- A target has keys and values of the source's sizes, and where the source has a value for each CPU, so it has, for as many.
pub record FitsSource (source target : Shape) : Type 0 where
  pub keys : target.key_size ≡ source.key_size
  pub values : value_len_of target Sys ≡ value_len_of source Sys
  pub percpu : is_percpu target.kind ≡ is_percpu source.kind
  pub size : target.value_size ≡ source.value_size
  pub cpus : target.cpus ≡ source.cpus

-- A copy asks for a pass of the source that has CPU 0, and for one of the target that has all CPUs, both in no call.
pub record CanCopy (source target : TableView) (p q : PassView) : Type 0 where
  pub source_shape : IsShape source.shape
  pub target_shape : IsShape target.shape
  pub fits : FitsSource source.shape target.shape
  pub of_table : IsPassOf source p
  pub has_cpu : is_among 0 p.view.cpus ≡ true
  pub in_no_call : IsInNoCall p
  pub whole : IsWhole target q

-- One page

-- a page that a map answers to a read, of no more pairs than it asks for, with keys and values of the map's sizes
pub record IsMapPage (shape : Shape) (read : Read) (page : Reply) : Type 0 where
  pub is_page : IsPage page
  pub answered : IsAnswer shape read page
  pub few : length (pairs_in page) ≤ read.count
  pub sizes : HaveSizes shape.key_size (value_len_of shape Sys) (pairs_in page)

-- A read was made on CPU 0, as the call of this number: a batch lookup with flags 0. Its reply is a page of the map.
pub record HasRead (t : TableView) (number : ℕ) (read : Read) (before after : PassView) (page : Reply) : Type 0 where
  pub called : Called t (begun before 0 number) after (BatchRead false read.count (Some read.start) 0) page
  pub answers : MayAnswer t.shape (BatchRead false read.count (Some read.start) 0) page
  pub is_page : IsMapPage t.shape read page

-- Pairs were put on CPU 0, as the call of this number, by a batch update with flags 0.
pub record HasPut (t : TableView) (number : ℕ) (pairs : List (List ℕ × List ℕ)) (before after : PassView) (reply : Reply) : Type 0 where
  pub called : Called t (begun before 0 number) after (BatchUpdate 0 pairs) reply
  pub answers : MayAnswer t.shape (BatchUpdate 0 pairs) reply

-- That, where there is a reply; else there was no pair, and the pass is as it was.
abbrev pub MayPut : TableView → ℕ → List (List ℕ × List ℕ) → PassView → PassView → Option Reply → Type 0
MayPut t number pairs before after put = MatchOption put ((pairs ≡ []) × (after ≡ before)) (HasPut t number pairs before after)

-- the reply of a put, where there is one
abbrev pub reply_of_put : Option Reply → List Reply
reply_of_put None = []
reply_of_put (Some reply) = reply ∷ []

-- The read that a plan names was made, and the pairs of its page were put, as the put after the others. It is told whether another
-- page is next.
pub record HasCopiedPage (source target : TableView) (number : ℕ) (plan plan_then : PlanView) (start now put_start put_now : PassView) (reads reads_then puts puts_then : List Reply) (goes_on : Bool) : Type 0 where
  pub page : Reply
  pub put : Option Reply
  pub read : HasRead source number plan.next start now page
  pub is_put : IsPutOf page put
  pub may_put : MayPut target (length puts + 1) (pairs_in page) put_start put_now put
  pub reads_are : reads_then ≡ reads ++ page ∷ []
  pub puts_are : puts_then ≡ puts ++ reply_of_put put
  pub plan_is : plan_then ≡ plan_after plan page put
  pub so_far : (count : ℕ) (steps : List Step) → IsCopying count steps plan
      → let now = steps ++ step_of plan page put ∷ [] in
      MatchBool goes_on (IsCopying count now plan_then) (IsCopied count plan.elements now)

-- All pages

-- If a run in serial order had come to the first pass with some calls before these, it has come to the second one with these calls
-- and replies more. A pass that hasn't all CPUs is in no such run.
abbrev pub RanOn : TableView → ℕ → List Call → PassView → PassView → List Reply → Type 0
RanOn t before calls start now replies =
    (from : RunStart) (done : List Call) (told : List Reply) → from.number + length done ≡ suc before → IsStart t.shape from.state
    → All (IsServedCall t.shape) done → HaveRunFrom t from done start told → HaveRunFrom t from (done ++ calls) now (told ++ replies)

-- The puts of these steps were run on the target, one after another.
pub record HavePut (t : TableView) (steps : List Step) (start now : PassView) (replies : List Reply) : Type 0 where
  pub replies_are : replies ≡ put_replies steps
  pub counted : length replies ≡ length (flat_map put_calls steps)
  pub served : All (IsServedCall t.shape) (flat_map put_calls steps)
  pub whole : IsWhole t now
  pub gone : HasGone t.shape start now
  pub ran : RanOn t 0 (flat_map put_calls steps) start now replies

-- The reads of these steps were made on CPU 0, numbered from behind so many calls on, and their pages were put. Where the pass of the
-- source has all CPUs, the reads were run in serial order.
pub record HaveCopied (source target : TableView) (before : ℕ) (steps : List Step) (start now put_start put_now : PassView) (reads puts : List Reply) : Type 0 where
  pub reads_are : reads ≡ read_replies steps
  pub answered : AreAnswered source.shape steps
  pub worked : HasWorked source 0 (suc before) (map read_call steps) start now reads
  pub ran : RanOn source before (map read_call steps) start now reads
  pub put : HavePut target steps put_start put_now puts

-- A whole copy was made, whose first read asks for so many pairs.
pub record HasCopiedAll (source target : TableView) (before count : ℕ) (start now put_start put_now : PassView) (reads puts : List Reply) : Type 0 where
  pub steps : List Step
  pub copied : IsCopied count source.shape.elements steps
  pub made : HaveCopied source target before steps start now put_start put_now reads puts

-- Beside the calls of a phase

-- The workers of a phase before and after: the first has copied on CPU 0, and the others, where none of them failed, have made their calls.
pub record HaveWorkedBeside (source target : TableView) (before count : ℕ) (calls : List Call) (workers after : List Worker) (put_start put_now : PassView) (puts : List Reply) : Type 0 where
  pub first : Worker
  pub others : List Worker
  pub workers_are : workers ≡ first ∷ others
  pub first_after : Worker
  pub others_after : List Worker
  pub after_are : after ≡ first_after ∷ others_after
  pub cpu : first_after.cpu ≡ first.cpu
  pub copied : HasCopiedAll source target (before + length calls) count first.pass first_after.pass put_start put_now first_after.replies puts
  pub worked : All (λ (worker : Worker). worker.failed ≡ false) others_after → HaveDone source (suc before) calls others others_after

-- The calls of a phase were run with the reads of a copy beside them, which are numbered behind them, and the pages were put.
pub record HasCopiedBeside (source target : TableView) (phase before count : ℕ) (calls : List Call) (start now put_start put_now : PassView) (replies reads puts : List Reply) (pieces : List Piece) : Type 0 where
  pub steps : List Step
  pub copied : IsCopied count source.shape.elements steps
  pub answered : AreAnswered source.shape steps
  pub reads_are : reads ≡ read_replies steps
  pub ran : RanCalls source phase before (calls ++ map read_call steps) start now (replies ++ reads) pieces
  pub put : HavePut target steps put_start put_now puts

-- All phases of a script were run, the map was copied beside the calls of the last one, and the target ran the puts from its opening
-- on.
pub record HasCopiedLast (source target : TableView) (script : Script) (count : ℕ) (now put_now : PassView) (told : List Reply) (starts : List PhaseStart) (pieces : List Piece) (reads puts : List Reply) (put_starts : List PhaseStart) (put_pieces : List Piece) : Type 0 where
  pub steps : List Step
  pub copied : IsCopied count source.shape.elements steps
  pub answered : AreAnswered source.shape steps
  pub reads_are : reads ≡ read_replies steps
  pub come : HaveComeTo source (extended script steps) (phase_count script.cuts) now (told ++ reads) starts pieces
  pub puts_are : puts ≡ put_replies steps
  pub put_served : All (IsServedCall target.shape) (flat_map put_calls steps)
  pub put_whole : IsWhole target put_now
  pub put : (attr : CreateAttr) → HaveRunPhases target (target_script attr target.shape steps) 1 put_now puts put_starts put_pieces

-- The whole run

-- no call of a script's last phase is CPU 0's
abbrev pub LeavesOneFree : Script → Type 0
LeavesOneFree script = AreOfOthers (calls_of script (length script.cuts))

-- the record with these replies behind its own
abbrev pub with_replies : RunRecord → List Reply → RunRecord
with_replies kept more = record kept { replies = kept.replies ++ more }

-- no put of a copy stopped
abbrev pub NoneStopped : List Step → Type 0
NoneStopped steps = All (λ (step : Step). ¬ (IsTrue (has_stopped step.put))) steps

-- The value of a key in what a map holds, as the system call reads it, which is the same on each CPU (here CPU 0): none where the key
-- isn't there.
abbrev pub system_value : Shape → Finals → List ℕ → Option (List ℕ)
system_value shape held key = option_map (λ (stored : Stored). value_read shape Sys 0 stored.values) (present key (bucket_at shape held key))

-- Two maps hold the same keys, each with the same value for the system call. Where values have their sizes in both, each CPU's value on a
-- kind that has one for each CPU is the same too.
abbrev pub HoldTheSame : Shape → Finals → Shape → Finals → Type 0
HoldTheSame source source_held target target_held = (key : List ℕ) → system_value target target_held key ≡ system_value source source_held key

-- What is kept of a copy into a target: the source's record, the replies to the reads, and the target's record.
pub record IsCopyRecord (script : Script) (target : Target) (kept : RunRecord) (reads : List Reply) (put : RunRecord) : Type 0 where
  -- all steps of a copy whose first read asks for as many pairs as the target says, with the replies to its reads and to its puts
  pub steps : List Step
  pub copied : IsCopied target.count script.shape.elements steps
  pub reads_are : reads ≡ read_replies steps
  pub puts_are : put.replies ≡ put_replies steps
  -- Stop and `next` of each page are such as a map of the source's shape may answer. There are at most as many reads as it has
  -- buckets, and 17 more.
  pub answered : AreAnswered script.shape steps
  pub few : length reads ≤ script.shape.buckets + 17
  -- With the reads' replies at its end, the source's record is that of a race of the script with the reads as calls of its last phase,
  -- its turns, in the order of their tickets, are a run of the core, and it is linearizable.
  pub source : IsRaceRecord (extended script steps) (with_replies kept reads)
  pub one_run : CoreRun script.shape kept.histories
  pub linear : IsLinearizable (extended script steps) (with_replies kept reads)
  -- The target's record is that of its script, whose calls are the puts, in serial order.
  pub target_is : put ≡ serial (target_script target.attr target.shape steps)
  -- The target's turns, in the order of their tickets, are a run of the core too, and the laws of runs in serial order hold of its script.
  pub target_run : CoreRun target.shape put.histories
  pub target_laws : SerialLaws (target_script target.attr target.shape steps)
  -- At its end the source has in each bucket keys of that bucket, none of them twice, each with values of the map's sizes: so what a key's
  -- own bucket has is all that there is of it.
  pub source_buckets : (bucket : ℕ) → bucket < script.shape.buckets → IsBucket script.shape bucket (in_bucket_at kept.finals bucket)
  -- Where no call ran beside the copy, no put stopped and the target doesn't evict, the target holds at its end exactly the source's keys,
  -- each with the value that the system call reads there.
  pub same_contents : calls_of script (length script.cuts) ≡ [] → NoneStopped steps → IsFalse (is_lru target.shape.kind)
      → HoldTheSame script.shape kept.finals target.shape put.finals
