-- A copy beside which no call ran, and of which no put stopped: the target holds the source's keys and values.
use Rattle.std.proofs.Common.{◌≡◌, ℕ, suc, ◌+◌, ◌-◌, ◌<◌, false, List, [], ◌∷◌, ◌++◌, length, map, Option, refl, ap, sym, ◌∙◌, subst, arith}
use Rattle.std.specs.Prelude.{All, IsFalse, option_map}
use Rattle.std.specs.List.{flat_map}
use Rattle.std.proofs.lemmas.List.{length-append, length-map, take_all}
use Rattle.std.proofs.lemmas.List.Elements.{All-append, All-cons, All-nil, All-weaker}
use Rattle.map_types.specs.Creation.{IsShape}
use Rattle.map_types.specs.Kind.{is_lru}
use Rattle.map_types.specs.Shape.{HasBounds}
use Rattle.map_types.specs.Sides.{value_read}
use Rattle.map_types.specs.Stored.{Stored}
use Rattle.map_types.specs.declared.attr.CreateAttr.{CreateAttr}
use Rattle.map_types.specs.declared.attr.Shape.{Shape}
use Rattle.map_types.specs.declared.call.Call.{Call}
use Rattle.map_types.specs.declared.kind.Side.TheVariants.{Sys}
use Rattle.map_types.specs.declared.reply.Reply.{Reply}
use Rattle.map_types.proofs.CreationLemmas.{bounds_of_shape}
use Rattle.map_script.specs.declared.script.Script.{Script}
use Rattle.map_script.specs.WellFormed.{AreCuts, IsCallOn}
use Rattle.place_words.specs.declared.finals.Finals.{Finals}
use Rattle.place_words.specs.Bodies.{present}
use Rattle.place_words.specs.Logs.{answers}
use Rattle.place_words.specs.Phases.{calls_before, of_phase}
use Rattle.place_words.specs.Turns.{bucket_of_key}
use Rattle.map_copy.specs.Copied.{Step}
use Rattle.map_copy.proofs.ScriptLemmas.{has_extended}
use Rattle.map_copy.specs.CopyScripts.{extended, put_calls, put_replies, read_call, read_replies, target_script}
use Rattle.map_copy.specs.Plans.{IsCopied}
use Rattle.map_report.specs.declared.record.RunRecord.{RunRecord}
use Rattle.map_report.specs.Phases.{IsExact}
use Rattle.map_report.specs.Record.{IsRecord}
use Rattle.map_report.specs.Runs.{serial}
use Rattle.map_report.specs.Serial.{bucket_at, in_bucket_at, in_order, pair_read}
use Rattle.map_report.specs.Soundness.{IsBucket}
use Rattle.map_report.proofs.CutLemmas.{Rise, cuts_rise}
use Rattle.record_shape.specs.OfTable.{HasFew}
use Rattle.record_shape.proofs.CallsOf.{each_replied}
use Rattle.serial_laws.specs.Entries.{Entry, answers_from, entries_after, entry_of}
use Rattle.serial_laws.specs.Laws.{PlainLaws, SerialLaws, entries_before, lists_before}
use Rattle.serial_laws.specs.Served.{HasFewEntries, IsScript}
use Rattle.serial_laws.proofs.LooksLeave.{AllLook}
use Rattle.serial_laws.proofs.ServedLemmas.{well_formed}
use Rattle.run_records.specs.Races.{IsRaceRecord, calls_of}
use Rattle.run_records.proofs.Shaped.{few_of}
use Rattle.map_run.specs.Copying.{FitsSource, HoldTheSame, NoneStopped, system_value, with_replies}
use Rattle.map_run.proofs.ExtendedPhases.{last_of, none_of}
use Rattle.map_run.proofs.CopyReads.{WentOn, pairs_told, read_pairs}
use Rattle.run_records.proofs.LastReads.{at_start, still_there, told_in}
use Rattle.serial_laws.proofs.PutAll.{HaveLikeValues, all_put, key_within}
use Rattle.run_records.proofs.RecordKeys.{left_in, record_buckets, record_keys, record_sizes}
use Rattle.map_run.proofs.SameContents.{key_copied, puts_left, read_found}

-- reads only look
reads_look : (steps : List Step) → AllLook (map read_call steps)
reads_look [] = tt
reads_look (step ∷ steps) = (refl, reads_look steps)

-- The target's end: the entries that its user sees are the pairs that the pages told.
target_holds : (attr : CreateAttr) (target : Shape) (elements count : ℕ) (steps : List Step) (put : RunRecord) → IsCopied count elements steps → All WentOn steps → PlainLaws (target_script attr target steps)
    → put ≡ serial (target_script attr target steps) → put.replies ≡ put_replies steps → (key : List ℕ)
    → option_map (λ (stored : Stored). stored.values) (present key (bucket_at target put.finals key)) ≡ option_map (λ (entry : Entry). entry.values) (entry_of key (all_put target (pairs_told steps) []))
target_holds attr target elements count steps put copied went plain put_is replies key =
    let script : Script = target_script attr target steps in
    let calls : List Call = flat_map put_calls steps in
    let n : ℕ = length calls in
    let told : (serial script).replies ≡ put_replies steps = ap (λ (r : RunRecord). r.replies) (sym put_is) ∙ replies in
    let answered : put_replies steps ≡ answers_from target [] calls (put_replies steps) = subst (λ (l : List Reply). l ≡ answers_from target [] calls l) told plain.plain in
    let entries : entries_before script n ≡ all_put target (pairs_told steps) [] =
    (λ i. entries_after target [] (take_all n calls (omega arith) i) (told i)) ∙ puts_left target elements _ steps [] copied went answered in
    let finals : put.finals ≡ lists_before script n = ap (λ (r : RunRecord). r.finals) put_is ∙ plain.finals in
    ap (λ (f : Finals). option_map (λ (stored : Stored). stored.values) (present key (bucket_at target f key))) finals
    ∙ sym ((plain.seen n).each_key key)
    ∙ ap (λ (es : List Entry). option_map (λ (entry : Entry). entry.values) (entry_of key es)) entries

-- What the source's reads told is what it has at its end.
module _ (script : Script) (kept : RunRecord) (created : IsShape script.shape) (rises : Rise 0 script.cuts (length script.calls)) (calls : All (IsCallOn script.shape) script.calls) (few : All (λ (call : Call). HasFew call.verb) script.calls)
    (is : IsRecord script kept) (p : ℕ) (last : p ≡ length script.cuts) (exact : IsExact script kept is.spares p) (steps : List Step) (count : ℕ) (copied : IsCopied count script.shape.elements steps) (went : All WentOn steps)
    (reads_are : of_phase script.cuts p script.calls ≡ map read_call steps) (replies_are : of_phase script.cuts p kept.replies ≡ read_replies steps) where
  abbrev source : Shape
  source = script.shape

  abbrev lie : ℕ → List Stored
  lie = left_in source kept.histories

  source_told : pairs_told steps ≡ map (pair_read source 0) (in_order source lie)
  source_told =
      read_pairs source lie count (suc (calls_before script.cuts (length script.calls) p)) steps (at_start script kept is p last exact) copied went
      (ap (λ (l : List Call). answers source (suc (calls_before script.cuts (length script.calls) p)) l (at_start script kept is p last exact)) (sym reads_are) ∙ exact.replies ∙ replies_are)
      (still_there script kept is p last exact (subst AllLook (sym reads_are) (reads_look steps)))

  pub copied_over : (attr : CreateAttr) (target : Shape) (put : RunRecord) → HaveLikeValues source target → is_lru target.kind ≡ false → SerialLaws (target_script attr target steps) → put ≡ serial (target_script attr target steps) → put.replies ≡ put_replies steps
      → (key : List ℕ) → system_value target put.finals key ≡ system_value source kept.finals key
  copied_over attr target put alike kind laws put_is puts_are key =
      let bounds : HasBounds source = bounds_of_shape source created in
      let values : List Entry → Option (List ℕ) = λ entries. option_map (value_read target Sys 0) (option_map (λ (entry : Entry). entry.values) (entry_of key entries)) in
      read_found target (present key (bucket_at target put.finals key)) (option_map (λ (entry : Entry). entry.values) (entry_of key (all_put target (pairs_told steps) [])))
      (target_holds attr target source.elements count steps put copied went (laws.plain kind) put_is puts_are key)
      ∙ ap (λ (pairs : List (List ℕ × List ℕ)). values (all_put target pairs [])) source_told
      ∙ key_copied source target bounds alike lie (record_keys script kept created rises calls few is) (record_sizes script kept created rises calls few is) key
      ∙ ap (λ (bodies : List Stored). option_map (λ (stored : Stored). value_read source Sys 0 stored.values) (present key bodies)) (sym (told_in script kept is (bucket_of_key source key) (key_within source bounds key)))

-- Reads are of CPU 0, and have few entries.
reads_on_0 : (steps : List Step) → All (λ (call : Call). call.cpu ≡ 0) (map read_call steps)
reads_on_0 [] = All-nil (λ (call : Call). call.cpu ≡ 0)
reads_on_0 (step ∷ steps) = All-cons (λ (call : Call). call.cpu ≡ 0) (read_call step) (map read_call steps) refl (reads_on_0 steps)

reads_are_few : (steps : List Step) → All (λ (call : Call). HasFew call.verb) (map read_call steps)
reads_are_few [] = All-nil (λ (call : Call). HasFew call.verb)
reads_are_few (step ∷ steps) = All-cons (λ (call : Call). HasFew call.verb) (read_call step) (map read_call steps) tt (reads_are_few steps)

-- A script with the reads of a copy
module _ (script : Script) (some : IsScript script) (steps : List Step) where
  rise : AreCuts 0 (length script.calls) script.cuts
  rise = (well_formed script some).phases.rise

  abbrev more : List Call
  more = map read_call steps

  rises_with : Rise 0 script.cuts (length (script.calls ++ more))
  rises_with = cuts_rise 0 script.cuts (length (script.calls ++ more)) (omega arith) (has_extended script steps (well_formed script some)).phases.rise

  all_on : All (IsCallOn script.shape) (script.calls ++ more)
  all_on = (has_extended script steps (well_formed script some)).calls

  all_few : All (λ (call : Call). HasFew call.verb) (script.calls ++ more)
  all_few =
      All-append (λ (call : Call). HasFew call.verb) script.calls more
      (All-weaker HasFewEntries (λ (call : Call). HasFew call.verb) (λ call few. few_of call.verb few) script.calls some.few_entries) (reads_are_few steps)

  module _ (kept : RunRecord) (reads : List Reply) (race : IsRaceRecord (extended script steps) (with_replies kept reads)) where
    -- Each key lies in its own bucket at the end.
    pub buckets_left : (bucket : ℕ) → bucket < script.shape.buckets → IsBucket script.shape bucket (in_bucket_at kept.finals bucket)
    buckets_left bucket below =
        subst (IsBucket script.shape bucket) (sym (told_in (extended script steps) (with_replies kept reads) race.is_record bucket below))
        (record_buckets (extended script steps) (with_replies kept reads) (well_formed script some).shape rises_with all_on all_few race.is_record bucket below)

    -- where there are no calls in the last phase
    module _ (reads_are : reads ≡ read_replies steps) (alone : calls_of script (length script.cuts) ≡ []) where
      own_replies : length kept.replies ≡ length script.calls
      own_replies =
          let served : All (λ (call : Call). call.cpu < script.shape.cpus) (script.calls ++ more) = All-weaker (IsCallOn script.shape) (λ (call : Call). call.cpu < script.shape.cpus) (λ call on. on.cpu) (script.calls ++ more) all_on in
          let each : length (kept.replies ++ reads) ≡ length (script.calls ++ more) = each_replied (extended script steps) (with_replies kept reads) rises_with served race.is_record in
          let both = length-append kept.replies reads in
          let all = length-append script.calls more in
          let read : length reads ≡ length steps = ap length reads_are ∙ length-map steps (λ (step : Step). step.page) in
          let asked : length more ≡ length steps = length-map steps read_call in
          omega (arith, each, both, all, read, asked)

      last_calls_are : of_phase script.cuts (length script.cuts) (script.calls ++ more) ≡ more
      last_calls_are = last_of script.cuts script.calls more rise ∙ ap (λ (l : List Call). l ++ more) alone

      last_replies_are : of_phase script.cuts (length script.cuts) (kept.replies ++ reads) ≡ read_replies steps
      last_replies_are =
          last_of script.cuts kept.replies reads (subst (λ (n : ℕ). AreCuts 0 n script.cuts) (sym own_replies) rise)
          ∙ ap (λ (l : List Reply). l ++ reads) (none_of script.cuts script.calls kept.replies own_replies alone) ∙ reads_are

      pub all_copied : (count : ℕ) (attr : CreateAttr) (target : Shape) (put : RunRecord) → FitsSource script.shape target → IsCopied count script.shape.elements steps → NoneStopped steps → IsFalse (is_lru target.kind) → SerialLaws (target_script attr target steps)
          → put ≡ serial (target_script attr target steps) → put.replies ≡ put_replies steps → HoldTheSame script.shape kept.finals target put.finals
      all_copied count attr target put fits copied went kind laws put_is puts_are =
          copied_over (extended script steps) (with_replies kept reads) (well_formed script some).shape rises_with all_on all_few race.is_record (length script.cuts) refl
          (race.exact (length script.cuts) 0 (omega arith) (subst (All (λ (call : Call). call.cpu ≡ 0)) (sym last_calls_are) (reads_on_0 steps))).0
          steps count copied went last_calls_are last_replies_are attr target put (record { percpu = fits.percpu; size = fits.size; cpus = fits.cpus }) kind laws put_is puts_are
