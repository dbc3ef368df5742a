-- A phase beside whose calls CPU 0 has copied the map: its workers are joined, and their replies put together.
use Rattle.std.proofs.Common.{◌≡◌, ◌≢◌, ℕ, suc, ◌+◌, ◌<◌, false, All, List, [], ◌∷◌, ◌++◌, length, map, Option, None, refl, ap, sym, ◌∙◌, subst, arith, append-nil}
use Rattle.std.specs.Prelude.{MatchOption}
use Rattle.std.proofs.lemmas.List.{length-append}
use Rattle.std.proofs.lemmas.List.Elements.{All-nil, All-tail}
use Rattle.map_types.specs.Creation.{IsShape}
use Rattle.map_types.specs.declared.call.Call.{Call}
use Rattle.map_types.specs.declared.reply.Reply.{Reply}
use Rattle.map_types.proofs.CreationLemmas.{bounds_of_shape}
use Rattle.map_types.proofs.RowLemmas.{by_test}
use Rattle.map_script.specs.WellFormed.{AreOfOthers}
use Rattle.map_copy.specs.Copied.{Step}
use Rattle.map_copy.specs.CopyScripts.{read_call, read_replies}
use Rattle.map_copy.specs.Plans.{IsCopied}
use Rattle.map_copy.proofs.StepLemmas.{none_is_some}
use Rattle.place_table.specs.Passes.{PassView, TableView}
use Rattle.place_table.specs.Views.{is_among}
use Rattle.serial_laws.specs.Served.{IsServedCall}
use Rattle.file_order.specs.Replies.{count_of, replies_by, replies_of}
use Rattle.run_records.specs.declared.pieces.Piece.{Piece}
use Rattle.run_records.specs.Parts.{pieces_by}
use Rattle.run_records.specs.Phased.{IsWhole}
use Rattle.run_records.specs.Races.{RanByMany, RanByOne, RanCalls}
use Rattle.run_records.specs.Work.{HasWorked, HaveRaced}
use Rattle.run_records.proofs.LoneCalls.{count_of_one, replies_of_one, replies_of_other}
use Rattle.map_run.specs.declared.worker.Worker.{Worker}
use Rattle.map_run.specs.Copying.{HasCopiedAll, HasCopiedBeside, HaveWorkedBeside, RanOn}
use Rattle.map_run.specs.Joined.{HaveJoined, told_by}
use Rattle.map_run.specs.Workers.{AreSplitOff, HaveDone, HaveEnded, HasSplit}
use Rattle.map_run.proofs.BesideCalls.{count_both, count_none, count_of_other, others_worked, reads_alone, reads_beside, reads_own, reads_worked, replies_both, replies_none}
use Rattle.map_run.proofs.Joining.{raced}
use Rattle.map_run.proofs.Workers.{all_ended}

-- What is told of the phase

pub ran_beside : (t : TableView) (phase before count elements : ℕ) (calls : List Call) (steps : List Step) (start now : PassView) (replies : List Reply) (counts : List ℕ) (pieces : List Piece) → 0 < length calls → AreOfOthers calls → IsCopied count elements steps
    → HaveRaced t (suc before) (calls ++ map read_call steps) start now replies counts → pieces ≡ pieces_by phase 0 counts → RanCalls t phase before (calls ++ map read_call steps) start now replies pieces
ran_beside t phase before count elements calls [] start now replies counts pieces some others copied many pieces_are = absurd (none_is_some (sym copied))
ran_beside t phase before count elements calls (step ∷ steps) start now replies counts pieces some others copied many pieces_are =
    let all : List Call = calls ++ map read_call (step ∷ steps) in
    subst (λ (c : Option ℕ). MatchOption c (RanByMany t phase before all start now replies pieces) (λ (cpu : ℕ). RanByOne t phase before all cpu start now replies pieces)) (sym (reads_beside calls step steps some others))
    record { counts = counts; raced = many; pieces_are = pieces_are }

-- The workers have ended

same_long : (t : TableView) (number : ℕ) (calls : List Call) (before after : List Worker) → HaveDone t number calls before after → length after ≡ length before
same_long t number calls [] [] done = refl
same_long t number calls [] (y ∷ after) done = absurd done
same_long t number calls (x ∷ before) [] done = absurd done
same_long t number calls (x ∷ before) (y ∷ after) done = ap suc (same_long t number calls before after done.2)

-- those of the other CPUs, with the reads behind the calls
others_done : (t : TableView) (number : ℕ) (calls : List Call) (steps : List Step) (start : PassView) (first : ℕ) (before after : List Worker) → 0 < first → AreSplitOff t start first before
    → HaveDone t number calls before after → HaveDone t number (calls ++ map read_call steps) before after
others_done t number calls steps start first [] [] some off done = tt
others_done t number calls steps start first [] (y ∷ after) some off done = absurd done
others_done t number calls steps start first (x ∷ before) [] some off done = absurd done
others_done t number calls steps start first (x ∷ before) (y ∷ after) some off done =
    let at = off.0 in (
      done.0,
      others_worked t x.cpu number calls steps x.pass y.pass y.replies (λ none. omega (arith, some, at, none)) done.1,
      others_done t number calls steps start (suc first) before after (omega arith) off.3 done.2,
    )

module _ {source target : TableView} {before count : ℕ} {calls : List Call} {workers after : List Worker} {put_start put_now : PassView} {puts : List Reply} (beside : HaveWorkedBeside source target before count calls workers after put_start put_now puts) where
  -- all have made their calls, CPU 0 the reads
  all_done : (start : PassView) → AreOfOthers calls → AreSplitOff source start 0 workers → All (λ (worker : Worker). worker.failed ≡ false) after
      → HaveDone source (suc before) (calls ++ map read_call beside.copied.steps) workers after
  all_done start others off none_failed =
      let split : AreSplitOff source start 0 (beside.first ∷ beside.others) = subst (AreSplitOff source start 0) beside.workers_are off in
      let none : All (λ (worker : Worker). worker.failed ≡ false) (beside.first_after ∷ beside.others_after) = subst (All (λ (worker : Worker). worker.failed ≡ false)) beside.after_are none_failed in
      let all : List Call = calls ++ map read_call beside.copied.steps in
      let own : HasWorked source 0 (suc before) all beside.first.pass beside.first_after.pass beside.first_after.replies =
      reads_worked source before calls beside.copied.steps beside.first.pass beside.first_after.pass beside.first_after.replies others beside.copied.made.worked in
      subst (λ (z : List Worker × List Worker). HaveDone source (suc before) all z.0 z.1) (λ i. (sym beside.workers_are i, sym beside.after_are i)) (
        beside.cpu,
        subst (λ (c : ℕ). HasWorked source c (suc before) all beside.first.pass beside.first_after.pass beside.first_after.replies) (sym split.0) own,
        others_done source (suc before) calls beside.copied.steps start 1 beside.others beside.others_after (omega arith) split.3
            (beside.worked (All-tail (λ (worker : Worker). worker.failed ≡ false) beside.first_after beside.others_after none)),
      )

  pub ended_beside : (start p : PassView) → AreOfOthers calls → HasSplit source start source.shape.cpus p → AreSplitOff source start 0 workers → length workers ≡ source.shape.cpus → All (λ (worker : Worker). worker.failed ≡ false) after
      → HaveEnded source (suc before) (calls ++ map read_call beside.copied.steps) start p after
  ended_beside start p others split off long none_failed =
      let done = all_done start others off none_failed in
      all_ended source (suc before) (calls ++ map read_call beside.copied.steps) start p source.shape.cpus workers after refl split off long done
      (same_long source (suc before) (calls ++ map read_call beside.copied.steps) workers after done)

  -- and the first one's replies are those to the reads
  pub first_told : replies_by 0 (told_by after) ≡ read_replies beside.copied.steps
  first_told = ap (λ (l : List Worker). replies_by 0 (told_by l)) beside.after_are ∙ beside.copied.made.reads_are

  -- what the phase was, once the workers are joined
  pub copied_beside : (phase : ℕ) (start now : PassView) (replies reads : List Reply) (counts : List ℕ) (pieces : List Piece) → 0 < length calls → AreOfOthers calls → reads ≡ replies_by 0 (told_by after)
      → HaveRaced source (suc before) (calls ++ map read_call beside.copied.steps) start now (replies ++ reads) counts → pieces ≡ pieces_by phase 0 counts → HasCopiedBeside source target phase before count calls start now put_start put_now replies reads puts pieces
  copied_beside phase start now replies reads counts pieces some others reads_are many pieces_are = record {
    steps = beside.copied.steps;
    copied = beside.copied.copied;
    answered = beside.copied.made.answered;
    reads_are = reads_are ∙ first_told;
    ran = ran_beside source phase before count source.shape.elements calls beside.copied.steps start now (replies ++ reads) counts pieces some others beside.copied.copied many pieces_are;
    put = beside.copied.made.put;
  }

-- The replies put together

module _ (t : TableView) (number : ℕ) (calls : List Call) (steps : List Step) (start p : PassView) (lists left : List (List Reply)) (counts : List ℕ) (shape_is : IsShape t.shape) (others : AreOfOthers calls)
    (joined : HaveJoined t number (calls ++ map read_call steps) start t.shape.cpus p lists counts) (none : replies_by 0 left ≡ []) (same : (cpu : ℕ) → cpu ≢ 0 → replies_by cpu left ≡ replies_by cpu lists) (long : length left ≡ length lists) where
  abbrev more : List Call
  more = map read_call steps

  count_more : (cpu : ℕ) → cpu < length left → length (replies_by cpu lists) ≡ count_of cpu calls + count_of cpu more
  count_more cpu below =
      let workers = joined.workers in
      (joined.each cpu (omega (arith, below, long, workers))).1 ∙ count_both cpu calls more

  -- each other CPU has a reply for each of its calls
  pub left_counted : (cpu : ℕ) → cpu < length left → length (replies_by cpu left) ≡ count_of cpu calls
  left_counted cpu below =
      by_test cpu 0 (λ _. length (replies_by cpu left) ≡ count_of cpu calls)
      (λ is. subst (λ (c : ℕ). length (replies_by c left) ≡ count_of c calls) (sym is) (ap length none ∙ sym (count_none 0 calls others)))
      (λ apart.
      let counted = count_more cpu below in
      let no_more : count_of cpu more ≡ 0 = count_of_other 0 cpu more apart (reads_own steps) in
      ap length (same cpu apart) ∙ omega (arith, counted, no_more))

  module _ (told reads : List Reply) (reads_are : reads ≡ replies_by 0 lists) (counted : length told ≡ length calls) (merged : (cpu : ℕ) → cpu < length left → replies_of cpu calls told ≡ replies_by cpu left) where
    some : 0 < length left
    some =
        let workers = joined.workers in
        let cpus = (bounds_of_shape t.shape shape_is).some_cpu in
        omega (arith, long, workers, cpus)

    reads_long : length reads ≡ length more
    reads_long =
        let first = count_more 0 some in
        let no_other = count_none 0 calls others in
        ap length reads_are ∙ (omega (arith, first, no_other) ∙ count_of_one 0 more (reads_own steps))

    all_long : length (told ++ reads) ≡ length (calls ++ more)
    all_long =
        let replies = length-append told reads in
        let both = length-append calls more in
        let each = reads_long in
        omega (arith, replies, both, each, counted)

    all_merged : (cpu : ℕ) → cpu < length lists → replies_of cpu (calls ++ more) (told ++ reads) ≡ replies_by cpu lists
    all_merged cpu below =
        replies_both cpu calls more told reads counted
        ∙ by_test cpu 0 (λ _. replies_of cpu calls told ++ replies_of cpu more reads ≡ replies_by cpu lists)
        (λ is. subst (λ (c : ℕ). replies_of c calls told ++ replies_of c more reads ≡ replies_by c lists) (sym is)
        (ap (λ (l : List Reply). l ++ replies_of 0 more reads) (replies_none 0 calls told others)
        ∙ (replies_of_one 0 more reads (reads_own steps) reads_long ∙ reads_are)))
        (λ apart.
        ap (λ (l : List Reply). replies_of cpu calls told ++ l) (replies_of_other 0 cpu more reads apart (reads_own steps))
        ∙ (append-nil (replies_of cpu calls told) ∙ (merged cpu (omega (arith, below, long)) ∙ same cpu apart)))

    pub raced_beside : HaveRaced t number (calls ++ more) start p (told ++ reads) counts
    raced_beside = raced t number (calls ++ more) start p lists counts (told ++ reads) shape_is joined all_long all_merged

-- with no other call
pub ran_alone : (t : TableView) (phase before : ℕ) (steps : List Step) (start now : PassView) (replies : List Reply) (pieces : List Piece) (count : ℕ) → IsWhole t start → HasWorked t 0 (suc before) (map read_call steps) start now replies
    → RanOn t before (map read_call steps) start now replies → count + length start.view.kept ≡ length now.view.kept → pieces ≡ (record { phase = phase; cpu = None; count = count }) ∷ [] → RanCalls t phase before (map read_call steps) start now replies pieces
ran_alone t phase before steps start now replies pieces count whole worked ran counted pieces_are =
    let all : List Call = map read_call steps in
    subst (λ (c : Option ℕ). MatchOption c (RanByMany t phase before all start now replies pieces) (λ (cpu : ℕ). RanByOne t phase before all cpu start now replies pieces)) (sym (reads_alone steps))
    record {
      whole = record {
        of_table = worked.of_table;
        all_cpus = λ cpu real. ap (is_among cpu) worked.cpus ∙ whole.all_cpus cpu real;
        in_no_call = worked.in_no_call;
      };
      worked = worked;
      exact = λ from number is_start begins. ran from [] [] (omega (arith, number)) is_start (All-nil (IsServedCall t.shape)) begins;
      pieces_are = pieces_are ∙ ap (λ (k : ℕ). (record { phase = phase; cpu = None; count = k }) ∷ []) (omega (arith, counted));
    }

pub copied_alone : (source target : TableView) (phase before count all : ℕ) (start now put_start put_now : PassView) (copied told reads puts : List Reply) (pieces : List Piece) → IsWhole source start → HasCopiedAll source target before count start now put_start put_now copied puts → told ≡ [] → reads ≡ copied
    → all + length start.view.kept ≡ length now.view.kept → pieces ≡ (record { phase = phase; cpu = None; count = all }) ∷ [] → HasCopiedBeside source target phase before count [] start now put_start put_now told reads puts pieces
copied_alone source target phase before count all start now put_start put_now copied told reads puts pieces whole is no_reply reads_are counted pieces_are =
    let made = is.made in
    subst (λ (z : List Reply × List Reply). HasCopiedBeside source target phase before count [] start now put_start put_now z.0 z.1 puts pieces) (λ i. (sym no_reply i, sym reads_are i)) record {
      steps = is.steps;
      copied = is.copied;
      answered = made.answered;
      reads_are = made.reads_are;
      ran = ran_alone source phase before is.steps start now copied pieces all whole made.worked made.ran counted pieces_are;
      put = made.put;
    }
