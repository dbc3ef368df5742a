-- A copy by one page more.
use Rattle.std.proofs.Common.{◌≡◌, ℕ, suc, ◌+◌, ◌<◌, All, List, [], ◌∷◌, ◌++◌, length, get_or, map, take, Option, Some, None, refl, ap, sym, ◌∙◌, subst, arith, append-nil}
use Rattle.std.specs.Prelude.{Bool, filter_map, ◌^◌}
use Rattle.std.specs.List.{flat_map}
use Rattle.std.proofs.lemmas.Grind.{flat_map-append}
use Rattle.std.proofs.lemmas.List.{get_or-append-add, length-append, length-map, map-append}
use Rattle.std.proofs.lemmas.List.Elements.{All-nil, All-cons, All-append, filter_map-append}
use Rattle.map_types.specs.Creation.{IsShape}
use Rattle.map_types.specs.declared.call.Call.{Call}
use Rattle.map_types.specs.declared.call.Verb.TheVariants.{BatchUpdate}
use Rattle.map_types.specs.declared.kind.Side.TheVariants.{Sys}
use Rattle.map_types.specs.declared.attr.Shape.{Shape}
use Rattle.map_types.specs.declared.reply.Reply.{Reply}
use Rattle.map_types.specs.Pairs.{HaveSizes}
use Rattle.map_types.specs.ValueLen.{value_len_of}
use Rattle.map_types.proofs.CreationLemmas.{bounds_of_shape}
use Rattle.map_script.specs.Grammar.{call_on}
use Rattle.map_copy.specs.Answers.{IsAnswered}
use Rattle.map_copy.specs.Copied.{Read, Step, IsPutOf, IsPutOfPairs, pairs_in}
use Rattle.map_copy.specs.CopyScripts.{put_calls, puts_of_pairs, put_replies, read_call}
use Rattle.map_copy.specs.Plans.{PlanView, step_of}
use Rattle.place_table.specs.Calls.{Called}
use Rattle.place_table.specs.Passes.{PassView, TableView, IsInNoCall, IsPassOf, begun}
use Rattle.place_table.specs.Views.{is_among}
use Rattle.run_records.specs.Phased.{IsWhole}
use Rattle.run_records.specs.Work.{HasWorked}
use Rattle.run_records.proofs.OwnCalls.{none_worked}
use Rattle.run_records.proofs.RunOn.{from_first, from_more, take_past}
use Rattle.serial_laws.specs.Served.{IsServedCall}
use Rattle.map_run.specs.Copying.{CanCopy, FitsSource, HasCopiedPage, HasPut, HaveCopied, HavePut, MayPut, RanOn, reply_of_put}
use Rattle.map_run.proofs.AloneRuns.{gone_more, gone_nowhere, whole_on}
use Rattle.map_run.proofs.Working.{worked_more}

-- One call more, behind any others

pub ran_more : (t : TableView) (before : ℕ) (calls : List Call) (call : Call) (start p q : PassView) (place : ℕ) (reply : Reply) (replies after : List Reply) → IsShape t.shape → All (IsServedCall t.shape) calls → IsServedCall t.shape call
    → place ≡ before + length calls + 1 → RanOn t before calls start p replies → Called t (begun p call.cpu place) q call.verb reply → after ≡ replies ++ reply ∷ [] → RanOn t before (calls ++ call ∷ []) start q after
ran_more t before calls call start p q place reply replies after shape_is served own count ran called pushed =
    let all : List Call = calls ++ call ∷ [] in
    let long : length all ≡ length calls + 1 = length-append calls (call ∷ []) in
    let none_more : length calls + 0 ≡ length calls = omega arith in
    let first_is : take (length calls) all ≡ calls = ap (λ (k : ℕ). take k all) (sym none_more) ∙ take_past calls (call ∷ []) 0 ∙ append-nil calls in
    let here : call ≡ get_or all (length calls) call = sym (ap (λ (k : ℕ). get_or all k call) (sym none_more) ∙ get_or-append-add calls (call ∷ []) 0 call) in
    subst (λ (l : List Call). RanOn t before l start q after) (take_past calls (call ∷ []) 1)
    (from_more t before all (length calls) call start p q place reply replies after shape_is
    (All-append (IsServedCall t.shape) calls (call ∷ []) served (All-cons (IsServedCall t.shape) call [] own (All-nil (IsServedCall t.shape))))
    (omega (arith, long)) here count (subst (λ (l : List Call). RanOn t before l start p replies) (sym first_is) ran) called pushed)

-- Puts

none_put : (t : TableView) (p : PassView) → IsWhole t p → HavePut t [] p p []
none_put t p whole = record {
  replies_are = refl;
  counted = refl;
  served = All-nil (IsServedCall t.shape);
  whole = whole;
  gone = gone_nowhere t.shape p;
  ran = from_first t 0 [] p [] refl;
}

module _ (t : TableView) (steps : List Step) (step : Step) (start p q : PassView) (replies after : List Reply) (shape_is : IsShape t.shape) (so_far : HavePut t steps start p replies) where
  calls_are : flat_map put_calls (steps ++ step ∷ []) ≡ flat_map put_calls steps ++ put_calls step
  calls_are = flat_map-append put_calls steps (step ∷ []) ∙ ap (λ (l : List Call). flat_map put_calls steps ++ l) (append-nil (put_calls step))

  told_are : put_replies (steps ++ step ∷ []) ≡ put_replies steps ++ reply_of_put step.put
  told_are = filter_map-append (λ (one : Step). one.put) steps (step ∷ []) ∙ ap (λ (l : List Reply). put_replies steps ++ l) (one_told step.put)
    where
      one_told : (put : Option Reply) → filter_map (λ (one : Step). one.put) (record step { put = put } ∷ []) ≡ reply_of_put put
      one_told None = refl
      one_told (Some reply) = refl

  -- a page of no pairs isn't put
  not_put : put_calls step ≡ [] → reply_of_put step.put ≡ [] → q ≡ p → after ≡ replies → HavePut t (steps ++ step ∷ []) start q after
  not_put no_call no_reply same_pass same =
      let calls : flat_map put_calls steps ≡ flat_map put_calls (steps ++ step ∷ []) = sym (calls_are ∙ ap (λ (l : List Call). flat_map put_calls steps ++ l) no_call ∙ append-nil (flat_map put_calls steps)) in
      let told : put_replies steps ≡ put_replies (steps ++ step ∷ []) = sym (told_are ∙ ap (λ (l : List Reply). put_replies steps ++ l) no_reply ∙ append-nil (put_replies steps)) in
      subst (λ (z : PassView × List Reply). HavePut t (steps ++ step ∷ []) start z.0 z.1) (λ i. (sym same_pass i, sym same i)) record {
        replies_are = so_far.replies_are ∙ told;
        counted = so_far.counted ∙ ap length calls;
        served = subst (All (IsServedCall t.shape)) calls so_far.served;
        whole = so_far.whole;
        gone = so_far.gone;
        ran = subst (λ (l : List Call). RanOn t 0 l start p replies) calls so_far.ran;
      }

  -- and one of some is, by one call
  put_more : (pairs : List (List ℕ × List ℕ)) (reply : Reply) (number : ℕ) → put_calls step ≡ call_on 0 (BatchUpdate 0 pairs) ∷ [] → reply_of_put step.put ≡ reply ∷ [] → HaveSizes t.shape.key_size (value_len_of t.shape Sys) pairs → length pairs < 2 ^ 32
      → number ≡ length replies + 1 → HasPut t number pairs p q reply → after ≡ replies ++ reply ∷ [] → HavePut t (steps ++ step ∷ []) start q after
  put_more pairs reply number one_call one_reply sizes few number_is put pushed =
      let call : Call = call_on 0 (BatchUpdate 0 pairs) in
      let some = (bounds_of_shape t.shape shape_is).some_cpu in
      let own : IsServedCall t.shape call = record { cpu = omega (arith, some); verb = (sizes, few) } in
      let calls : flat_map put_calls steps ++ call ∷ [] ≡ flat_map put_calls (steps ++ step ∷ []) = sym (calls_are ∙ ap (λ (l : List Call). flat_map put_calls steps ++ l) one_call) in
      let told : put_replies steps ++ reply ∷ [] ≡ put_replies (steps ++ step ∷ []) = sym (told_are ∙ ap (λ (l : List Reply). put_replies steps ++ l) one_reply) in
      let so_many = so_far.counted in
      let more : length (replies ++ reply ∷ []) ≡ length replies + 1 = length-append replies (reply ∷ []) in
      let calls_long : length (flat_map put_calls steps ++ call ∷ []) ≡ length (flat_map put_calls steps) + 1 = length-append (flat_map put_calls steps) (call ∷ []) in
      let count_more : length (replies ++ reply ∷ []) ≡ length (flat_map put_calls steps ++ call ∷ []) = omega (arith, so_many, more, calls_long) in
      subst (HavePut t (steps ++ step ∷ []) start q) (sym pushed) record {
        replies_are = ap (λ (l : List Reply). l ++ reply ∷ []) so_far.replies_are ∙ told;
        counted = count_more ∙ ap length calls;
        served = subst (All (IsServedCall t.shape)) calls
            (All-append (IsServedCall t.shape) (flat_map put_calls steps) (call ∷ []) so_far.served (All-cons (IsServedCall t.shape) call [] own (All-nil (IsServedCall t.shape))));
        whole = whole_on t p q call number reply so_far.whole put.called;
        gone = gone_more t start p q call number reply so_far.whole.of_table so_far.gone put.called;
        ran = subst (λ (l : List Call). RanOn t 0 l start q (replies ++ reply ∷ [])) calls
            (ran_more t 0 (flat_map put_calls steps) call start p q number reply replies (replies ++ reply ∷ []) shape_is so_far.served own (omega (arith, so_many, number_is)) so_far.ran put.called refl);
      }

pub page_put : (t : TableView) (steps : List Step) (read : Read) (page : Reply) (put : Option Reply) (start p q : PassView) (replies after : List Reply) → IsShape t.shape → HavePut t steps start p replies
    → HaveSizes t.shape.key_size (value_len_of t.shape Sys) (pairs_in page) → length (pairs_in page) < 2 ^ 32 → IsPutOf page put → MayPut t (length replies + 1) (pairs_in page) p q put → after ≡ replies ++ reply_of_put put
    → HavePut t (steps ++ record { read = read; page = page; put = put } ∷ []) start q after
page_put t steps read page put start p q replies after shape_is so_far sizes few is may pushed = by (pairs_in page) put refl refl is may
  where
    by : (pairs : List (List ℕ × List ℕ)) (told : Option Reply) → pairs_in page ≡ pairs → put ≡ told → IsPutOfPairs pairs told → MayPut t (length replies + 1) pairs p q told
        → HavePut t (steps ++ record { read = read; page = page; put = put } ∷ []) start q after
    by [] None pairs_are told_is is_put may_put =
        not_put t steps record { read = read; page = page; put = put } start p q replies after shape_is so_far (ap puts_of_pairs pairs_are) (ap reply_of_put told_is) may_put.1
        (pushed ∙ ap (λ (o : Option Reply). replies ++ reply_of_put o) told_is ∙ append-nil replies)
    by (pair ∷ pairs) (Some reply) pairs_are told_is is_put may_put =
        put_more t steps record { read = read; page = page; put = put } start p q replies after shape_is so_far (pair ∷ pairs) reply (length replies + 1) (ap puts_of_pairs pairs_are) (ap reply_of_put told_is)
        (subst (HaveSizes t.shape.key_size (value_len_of t.shape Sys)) pairs_are sizes) (subst (λ (l : List (List ℕ × List ℕ)). length l < 2 ^ 32) pairs_are few) refl may_put
        (pushed ∙ ap (λ (o : Option Reply). replies ++ reply_of_put o) told_is)
    by pairs told pairs_are told_is is_put may_put = absurd is_put

-- Both

pub none_copied : (source target : TableView) (before : ℕ) (p q : PassView) → IsPassOf source p → IsInNoCall p → IsWhole target q → HaveCopied source target before [] p p q q [] []
none_copied source target before p q of_table in_no_call whole = record {
  reads_are = refl;
  answered = All-nil (IsAnswered source.shape);
  worked = none_worked source 0 (suc before) p of_table in_no_call;
  ran = from_first source before [] p [] refl;
  put = none_put target q whole;
}

pub reads_served : (shape : Shape) → IsShape shape → (steps : List Step) → All (IsServedCall shape) (map read_call steps)
reads_served shape is [] = All-nil (IsServedCall shape)
reads_served shape is (step ∷ steps) =
    let some = (bounds_of_shape shape is).some_cpu in
    All-cons (IsServedCall shape) (read_call step) (map read_call steps) record { cpu = omega (arith, some); verb = tt } (reads_served shape is steps)

-- a page's pairs have the target's sizes
fits : (source target : Shape) (pairs : List (List ℕ × List ℕ)) → FitsSource source target → HaveSizes source.key_size (value_len_of source Sys) pairs → HaveSizes target.key_size (value_len_of target Sys) pairs
fits source target pairs is sizes = subst (λ (z : ℕ × ℕ). HaveSizes z.0 z.1 pairs) (λ i. (sym is.keys i, sym is.values i)) sizes

module _ {source target : TableView} {before : ℕ} {steps : List Step} {start p r put_start q s : PassView} {reads reads_then puts puts_then : List Reply} {number : ℕ} {plan plan_then : PlanView} {goes_on : Bool} (source_is : IsShape source.shape)
    (target_is : IsShape target.shape) (fits_source : FitsSource source.shape target.shape) (count_fits : plan.next.count < 2 ^ 32)
    (so_far : HaveCopied source target before steps start p put_start q reads puts) (number_is : number ≡ before + length steps + 1) (page : HasCopiedPage source target number plan plan_then p r q s reads reads_then puts puts_then goes_on) where
  abbrev step : Step
  step = step_of plan page.page page.put

  pub copied_more : HaveCopied source target before (steps ++ step_of plan page.page page.put ∷ []) start r put_start s reads_then puts_then
  copied_more =
      let call : Call = read_call step in
      let some = (bounds_of_shape source.shape source_is).some_cpu in
      let own : IsServedCall source.shape call = record { cpu = omega (arith, some); verb = tt } in
      let calls : map read_call steps ++ call ∷ [] ≡ map read_call (steps ++ step ∷ []) = sym (map-append read_call steps (step ∷ [])) in
      let long : length (map read_call steps) ≡ length steps = length-map steps read_call in
      let few = page.read.is_page.few in
      record {
        reads_are = page.reads_are ∙ ap (λ (l : List Reply). l ++ page.page ∷ []) so_far.reads_are ∙ sym (map-append (λ (one : Step). one.page) steps (step ∷ []));
        answered = All-append (IsAnswered source.shape) steps (step ∷ []) so_far.answered (All-cons (IsAnswered source.shape) step [] page.read.is_page.answered (All-nil (IsAnswered source.shape)));
        worked = subst (λ (z : List Call × List Reply). HasWorked source 0 (suc before) z.0 start r z.1) (λ i. (calls i, sym page.reads_are i))
            (worked_more source (suc before) (map read_call steps) call start p r number page.page reads (omega (arith, number_is, long)) so_far.worked page.read.called page.read.answers);
        ran = subst (λ (l : List Call). RanOn source before l start r reads_then) calls
            (ran_more source before (map read_call steps) call start p r number page.page reads reads_then source_is (reads_served source.shape source_is steps) own (omega (arith, number_is, long)) so_far.ran page.read.called page.reads_are);
        put = page_put target steps plan.next page.page page.put put_start q s puts puts_then target_is so_far.put (fits source.shape target.shape (pairs_in page.page) fits_source page.read.is_page.sizes) (omega (arith, few, count_fits)) page.is_put page.may_put page.puts_are;
      }

-- what a copy asks for is there after each page
pub can_still : (source target : TableView) (before : ℕ) (steps : List Step) (start p put_start q : PassView) (reads puts : List Reply) → CanCopy source target start put_start → HaveCopied source target before steps start p put_start q reads puts → CanCopy source target p q
can_still source target before steps start p put_start q reads puts can made = record {
  source_shape = can.source_shape;
  target_shape = can.target_shape;
  fits = can.fits;
  of_table = made.worked.of_table;
  has_cpu = ap (is_among 0) made.worked.cpus ∙ can.has_cpu;
  in_no_call = made.worked.in_no_call;
  whole = made.put.whole;
}
