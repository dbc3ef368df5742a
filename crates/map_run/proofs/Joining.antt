-- Passes of workers are joined, and their replies put together.
use Rattle.std.proofs.Common.{◌≡◌, ◌≢◌, ℕ, zero, suc, ◌+◌, ◌<◌, ◌≤◌, Bool, true, false, cond, eqb, List, [], ◌∷◌, ◌++◌, length, get_or, map, Option, Some, None, refl, ap, sym, ◌∙◌, subst, arith, append_assoc, append-nil}
use Rattle.std.specs.Prelude.{filter, max}
use Rattle.std.specs.List.{range_with_len}
use Rattle.std.proofs.Math.Nat.{le-max_left, le-max_right}
use Rattle.std.proofs.lemmas.List.{length-append, get_or_append_left, get_or-append-add}
use Rattle.std.proofs.lemmas.List.Elements.{filter-append}
use Rattle.std.proofs.lemmas.List.FromFn.{map-range_with_len_more}
use Rattle.map_types.specs.declared.attr.Shape.{Shape}
use Rattle.map_types.specs.declared.call.Call.{Call}
use Rattle.map_types.specs.declared.reply.Reply.{Reply}
use Rattle.map_types.specs.Creation.{IsShape}
use Rattle.map_types.specs.Stored.{Stored}
use Rattle.place_words.specs.declared.history.StrandStep.{StrandStep}
use Rattle.place_words.specs.Tickets.{AscendIn}
use Rattle.place_words.proofs.Ascending.{ascend_to}
use Rattle.place_words.proofs.ShrinkProbes.{append_empty}
use Rattle.map_types.specs.ElementLists.{put}
use Rattle.map_types.proofs.CreationLemmas.{bounds_of_shape}
use Rattle.map_types.proofs.RowLemmas.{by_test}
use Rattle.place_words.proofs.ElementLemmas.{put_here, put_else}
use Rattle.place_table.specs.declared.view.Turned.{Turned}
use Rattle.place_table.specs.declared.view.WordStep.{WordStep}
use Rattle.place_table.specs.declared.view.Ended.{Ended}
use Rattle.place_table.specs.declared.view.View.{View}
use Rattle.place_table.specs.Passes.{PassView, TableView, spare_of, either_spare, CanJoin, Joined}
use Rattle.place_table.specs.Tickets.{turn_tickets}
use Rattle.place_table.specs.Views.{is_among, all_strands, current_strand, joined, next}
use Rattle.hash_ops.specs.Calls.{element_of}
use Rattle.map_run.specs.declared.worker.Worker.{Worker}
use Rattle.file_order.specs.Replies.{replies_by, replies_of}
use Rattle.run_records.specs.Work.{AreCallsBy, HasWorked, HaveRaced, has_turn}
use Rattle.map_run.specs.Joined.{HaveJoined, WorkIs, strand_did, strands_before}
use Rattle.map_run.specs.Workers.{AreSplitOff, HaveDone, HaveEnded, HasSplit, IsSplitOff}
use Rattle.map_run.proofs.Workers.{among_one, not_among_one, among_append, below_more, kept_off}
use Rattle.serial_laws.proofs.ListPlaces.{made_same}

some_cpus : (shape : Shape) → IsShape shape → 0 < shape.cpus
some_cpus shape is = let some : 1 ≤ shape.cpus = (bounds_of_shape shape is).some_cpu in omega arith

-- where there is a CPU, all strands were split off with it
none_there : (cpus : ℕ) (strands : List Ended) → 0 < cpus → cond (eqb cpus 0) strands [] ≡ []
none_there cpus strands some = by_test cpus 0 (λ b. cond b strands [] ≡ []) (λ none. absurd (omega (arith, none, some))) (λ _. refl)

pub none_joined : (t : TableView) (number : ℕ) (calls : List Call) (start p : PassView) → IsShape t.shape → HasSplit t start t.shape.cpus p → HaveJoined t number calls start 0 p [] []
none_joined t number calls start p shape_is split =
    let reached = split.reached in
    let refused = split.refused in
    record {
      of_table = split.of_table;
      in_no_call = split.in_no_call;
      here = λ cpu none. absurd (omega arith);
      gone = λ cpu _ below. split.gone cpu below;
      spares_gone = λ cpu _ below. split.spares_gone cpu below;
      did = λ _. ([], [], []);
      strands = split.strands ∙ none_there t.shape.cpus (filter has_turn (all_strands start.view)) (some_cpus t.shape shape_is);
      no_steps = λ none. absurd (omega arith);
      next_is = omega (arith, reached, refused);
      refused = omega (arith, refused);
      lost = λ none. sym split.lost ∙ none;
      beyond = split.spares;
      workers = refl;
      counts_are = refl;
      each = λ cpu none. absurd (omega arith);
    }

-- One worker more

replies_before : (lists : List (List Reply)) (own : List Reply) (cpu : ℕ) → cpu < length lists → replies_by cpu (lists ++ own ∷ []) ≡ replies_by cpu lists
replies_before lists own cpu within = get_or_append_left lists (own ∷ []) [] cpu within

replies_here : (lists : List (List Reply)) (own : List Reply) (n : ℕ) → length lists ≡ n → replies_by n (lists ++ own ∷ []) ≡ own
replies_here lists own n is = ap (λ (k : ℕ). get_or (lists ++ own ∷ []) k []) (let same : n ≡ length lists + 0 = omega arith in same) ∙ get_or-append-add lists (own ∷ []) 0 []

or_true : (b : Bool) → cond b true true ≡ true
or_true true = refl
or_true false = refl

either_first : (spare : Option Stored) → either_spare spare None ≡ spare
either_first None = refl
either_first (Some body) = refl

-- Strands: those that were there at the start, those of the CPUs below n, those that come with the pass of CPU n, which are those from
-- the start where n is 0, and its own.
strands_put : (n : ℕ) (first : List Ended) (own : ℕ → Ended) (last : List Ended)
    → (cond (eqb n 0) [] first ++ filter has_turn (map own (range_with_len 0 n))) ++ (cond (eqb n 0) first [] ++ last) ≡ cond (eqb (n + 1) 0) [] first ++ (filter has_turn (map own (range_with_len 0 n)) ++ last)
strands_put zero first own last = refl
strands_put (suc n) first own last =
    let below = filter has_turn (map own (range_with_len 0 (suc n))) in
    by_test (suc n) 0 (λ b. (cond b [] first ++ below) ++ (cond b first [] ++ last) ≡ cond (eqb (suc n + 1) 0) [] first ++ (below ++ last))
    (λ none. absurd (omega (arith, none)))
    (λ _. by_test (suc n + 1) 0 (λ b. (first ++ below) ++ last ≡ cond b [] first ++ (below ++ last)) (λ none. absurd (omega (arith, none))) (λ _. append_assoc first below last))

module _ {t : TableView} {number : ℕ} {calls : List Call} {start : PassView} {n : ℕ} {p off r : PassView} {lists : List (List Reply)} {counts : List ℕ} {own : List Reply}
    (so_far : HaveJoined t number calls start n p lists counts) (real : n < t.shape.cpus) (split : IsSplitOff t start n off) (worked : HasWorked t n number calls off r own) where
  one_cpu : r.view.cpus ≡ n ∷ []
  one_cpu = worked.cpus ∙ split.one_cpu

  pub can_join : CanJoin t p r
  can_join = record {
    of_table = so_far.of_table;
    other_of_table = worked.of_table;
    in_no_call = so_far.in_no_call;
    other_in_no_call = worked.in_no_call;
  }

  steps_are : r.view.steps ≡ worked.made
  steps_are = worked.steps ∙ ap (λ (l : List Turned). l ++ worked.made) split.no_steps.0

  off_next : next off.view ≡ next start.view
  off_next = λ i. split.reached i + split.refused i

  own_tickets : AscendIn (next start.view) (turn_tickets worked.made) (next r.view)
  own_tickets = subst (λ (k : ℕ). AscendIn k (turn_tickets worked.made) (next r.view)) off_next worked.tickets

  module _ {q : PassView} (joins : Joined p r q) where
    abbrev did : ℕ → List Turned × List StrandStep × List WordStep
    did = put so_far.did n (worked.made, r.view.kept, r.view.touched)

    view_is : q.view ≡ joined p.view r.view
    view_is = ap (λ (z : PassView). z.view) joins.after_is

    next_joined : next q.view ≡ max p.view.reached r.view.reached + (p.view.refused + r.view.refused)
    next_joined = ap next view_is

    next_first : next p.view ≤ next q.view
    next_first =
        let is = next_joined in
        let most : p.view.reached ≤ max p.view.reached r.view.reached = le-max_left p.view.reached r.view.reached in
        omega (arith, is, most)

    next_other : next r.view ≤ next q.view
    next_other =
        let is = next_joined in
        let most : r.view.reached ≤ max p.view.reached r.view.reached = le-max_right p.view.reached r.view.reached in
        omega (arith, is, most)

    refused_are : q.view.refused ≡ p.view.refused + r.view.refused
    refused_are = ap (λ (v : View). v.refused) view_is

    cpus_are : (cpu : ℕ) → is_among cpu q.view.cpus ≡ cond (is_among cpu p.view.cpus) true (is_among cpu r.view.cpus)
    cpus_are cpu = ap (λ (v : View). is_among cpu v.cpus) view_is ∙ among_append cpu p.view.cpus r.view.cpus

    spare_before : (cpu : ℕ) → cpu ≢ n → spare_of cpu q.spares ≡ spare_of cpu p.spares
    spare_before cpu other =
        joins.spares_are cpu ∙ ap (either_spare (spare_of cpu p.spares)) (worked.other_spares cpu other ∙ split.no_others cpu other) ∙ either_first (spare_of cpu p.spares)

    spare_here : spare_of n q.spares ≡ spare_of n r.spares
    spare_here = joins.spares_are n ∙ ap (λ (s : Option Stored). either_spare s (spare_of n r.spares)) (so_far.spares_gone n (omega arith) real)

    lost_are : q.view.lost ≡ [] → (p.view.lost ≡ []) × (r.view.lost ≡ [])
    lost_are none = append_empty p.view.lost r.view.lost (sym (ap (λ (v : View). v.lost) view_is) ∙ none)

    did_before : (cpu : ℕ) → cpu < n → so_far.did cpu ≡ did cpu
    did_before cpu below = sym (put_else so_far.did n (worked.made, r.view.kept, r.view.touched) cpu (λ same. omega arith))

    did_here : (worked.made, r.view.kept, r.view.touched) ≡ did n
    did_here = sym (put_here so_far.did n (worked.made, r.view.kept, r.view.touched))

    strand_before : (cpu : ℕ) → cpu < n → strand_did so_far.did cpu ≡ strand_did did cpu
    strand_before cpu below = ap (λ (d : List Turned × List StrandStep × List WordStep). record { cpus = cpu ∷ []; steps = d.0; kept = d.1; touched = d.2 }) (did_before cpu below)

    strand_here : current_strand r.view ≡ strand_did did n
    strand_here =
        (λ i. record { cpus = one_cpu i; steps = steps_are i; kept = r.view.kept; touched = r.view.touched })
        ∙ ap (λ (d : List Turned × List StrandStep × List WordStep). record { cpus = n ∷ []; steps = d.0; kept = d.1; touched = d.2 }) did_here

    others_ended : filter has_turn (all_strands r.view) ≡ cond (eqb n 0) (filter has_turn (all_strands start.view)) [] ++ filter has_turn (current_strand r.view ∷ [])
    others_ended =
        filter-append has_turn r.view.ended (current_strand r.view ∷ [])
        ∙ ap (λ (l : List Ended). l ++ filter has_turn (current_strand r.view ∷ [])) (ap (filter has_turn) worked.ended ∙ split.ended)

    turns_of_both : filter has_turn (all_strands q.view) ≡ filter has_turn (all_strands p.view) ++ filter has_turn (all_strands r.view)
    turns_of_both =
        ap (λ (v : View). filter has_turn (all_strands v)) view_is
        ∙ filter-append has_turn (all_strands p.view ++ all_strands r.view) _
        ∙ append-nil (filter has_turn (all_strands p.view ++ all_strands r.view))
        ∙ filter-append has_turn (all_strands p.view) (all_strands r.view)

    strands_are : filter has_turn (all_strands q.view) ≡ strands_before (n + 1) start ++ filter has_turn (map (strand_did did) (range_with_len 0 (n + 1)))
    strands_are =
        turns_of_both
        ∙ (λ i. so_far.strands i ++ others_ended i)
        ∙ strands_put n (filter has_turn (all_strands start.view)) (strand_did so_far.did) (filter has_turn (current_strand r.view ∷ []))
        ∙ (λ i. strands_before (n + 1) start ++ (filter has_turn (made_same (strand_did so_far.did) (strand_did did) 0 n (λ cpu _ below. strand_before cpu (omega arith)) i) ++ filter has_turn (strand_here i ∷ [])))
        ∙ ap (λ (l : List Ended). strands_before (n + 1) start ++ l)
        (sym (filter-append has_turn (map (strand_did did) (range_with_len 0 n)) (strand_did did n ∷ []))
        ∙ ap (filter has_turn) (sym (map-range_with_len_more (strand_did did) 0 n n (omega arith))))

    counts_then : counts ++ length r.view.kept ∷ [] ≡ map (λ cpu. length (did cpu).1) (range_with_len 0 (n + 1))
    counts_then =
        (λ i. so_far.counts_are i ++ length (did_here i).1 ∷ [])
        ∙ ap (λ (l : List ℕ). l ++ length (did n).1 ∷ []) (made_same (λ cpu. length (so_far.did cpu).1) (λ cpu. length (did cpu).1) 0 n (λ cpu _ below. ap (λ (d : List Turned × List StrandStep × List WordStep). length d.1) (did_before cpu (omega arith))))
        ∙ sym (map-range_with_len_more (λ cpu. length (did cpu).1) 0 n n (omega arith))

    work_before : (cpu : ℕ) → cpu ≢ n → cpu < n → WorkIs t number calls start q cpu (did cpu) (replies_by cpu (lists ++ own ∷ []))
    work_before cpu other below =
        let was = so_far.each cpu below in
        subst (λ (z : (List Turned × List StrandStep × List WordStep) × List Reply). WorkIs t number calls start q cpu z.0 z.1)
        (λ i. (did_before cpu below i, sym (replies_before lists own cpu (subst (λ (k : ℕ). cpu < k) (sym so_far.workers) below)) i)) (
          was.0,
          was.1,
          ascend_to (next start.view) (turn_tickets (so_far.did cpu).0) (next p.view) (next q.view) next_first was.2,
          λ none. subst (λ (s : Option Stored). AreCallsBy t.shape cpu number calls (element_of (spare_of cpu start.spares)) (element_of s) (replies_by cpu lists) (so_far.did cpu).0)
              (sym (spare_before cpu other)) (was.3 (lost_are none).0),
        )

    work_here : WorkIs t number calls start q n (did n) (replies_by n (lists ++ own ∷ []))
    work_here =
        subst (λ (z : (List Turned × List StrandStep × List WordStep) × List Reply). WorkIs t number calls start q n z.0 z.1)
        (λ i. (did_here i, sym (replies_here lists own n so_far.workers) i)) (
          kept_off split worked,
          worked.counted,
          ascend_to (next start.view) (turn_tickets worked.made) (next r.view) (next q.view) next_other own_tickets,
          λ none. subst (λ (z : Option Stored × Option Stored). AreCallsBy t.shape n number calls (element_of z.0) (element_of z.1) own worked.made)
              (λ i. (split.spare i, sym spare_here i)) (worked.calls_are (lost_are none).1),
        )

    pub joined_more : HaveJoined t number calls start (n + 1) q (lists ++ own ∷ []) (counts ++ length r.view.kept ∷ [])
    joined_more = record {
      of_table = (ap (λ (z : PassView). z.table) joins.after_is ∙ so_far.of_table.0, ap (λ (v : View). v.shape) view_is ∙ so_far.of_table.1);
      in_no_call = joins.in_no_call;
      here = below_more n (λ cpu. is_among cpu q.view.cpus ≡ true)
          (cpus_are n ∙ ap (cond (is_among n p.view.cpus) true) (ap (is_among n) one_cpu ∙ among_one n) ∙ or_true (is_among n p.view.cpus))
          (λ cpu other below. cpus_are cpu ∙ ap (λ (b : Bool). cond b true (is_among cpu r.view.cpus)) (so_far.here cpu below));
      gone = λ cpu from below. cpus_are cpu
          ∙ (λ i. cond (so_far.gone cpu (omega arith) below i) true (is_among cpu (one_cpu i)))
          ∙ not_among_one cpu n (λ same. omega arith);
      spares_gone = λ cpu from below. spare_before cpu (λ same. omega arith) ∙ so_far.spares_gone cpu (omega arith) below;
      did = did;
      strands = strands_are;
      no_steps = λ _. (ap (λ (v : View). v.steps) view_is, ap (λ (v : View). v.kept) view_is);
      next_is = omega (arith, so_far.next_is, next_first);
      refused = omega (arith, so_far.refused, refused_are);
      lost = λ none. so_far.lost (lost_are none).0;
      beyond = λ cpu past. spare_before cpu (λ same. omega (arith, real, past, same)) ∙ so_far.beyond cpu past;
      workers = length-append lists (own ∷ []) ∙ ap (λ (k : ℕ). k + 1) so_far.workers;
      counts_are = counts_then;
      each = below_more n (λ cpu. WorkIs t number calls start q cpu (did cpu) (replies_by cpu (lists ++ own ∷ []))) work_here work_before;
    }

-- the worker at a place, with the pass that was split off for it
pub record WorkerAt (t : TableView) (number : ℕ) (calls : List Call) (start : PassView) (cpu : ℕ) (worker : Worker) : Type 0 where
  pub off : PassView
  pub split : IsSplitOff t start cpu off
  pub worked : HasWorked t cpu number calls off worker.pass worker.replies

worker_from : (t : TableView) (number : ℕ) (calls : List Call) (start : PassView) (first : ℕ) (before after : List Worker) (k : ℕ) (d : Worker) → AreSplitOff t start first before → HaveDone t number calls before after
    → k < length after → WorkerAt t number calls start (first + k) (get_or after k d)
worker_from t number calls start first [] [] k d off done less = absurd (omega (arith, less))
worker_from t number calls start first [] (y ∷ after) k d off done less = absurd done
worker_from t number calls start first (x ∷ before) [] k d off done less = absurd (omega (arith, less))
worker_from t number calls start first (x ∷ before) (y ∷ after) zero d off done less =
    subst (λ (c : ℕ). WorkerAt t number calls start c y) (let same : first ≡ first + 0 = omega arith in same)
    record { off = x.pass; split = off.1; worked = subst (λ (c : ℕ). HasWorked t c number calls x.pass y.pass y.replies) off.0 done.1 }
worker_from t number calls start first (x ∷ before) (y ∷ after) (suc k) d off done less =
    subst (λ (c : ℕ). WorkerAt t number calls start c (get_or after k d)) (let same : suc first + k ≡ first + suc k = omega arith in same)
    (worker_from t number calls start (suc first) before after k d off.3 done.2 (omega arith))

pub worker_at : (t : TableView) (number : ℕ) (calls : List Call) (start p : PassView) (workers : List Worker) (k : ℕ) (d : Worker) → HaveEnded t number calls start p workers → k < length workers
    → WorkerAt t number calls start k (get_or workers k d)
worker_at t number calls start p workers k d ended less =
    subst (λ (c : ℕ). WorkerAt t number calls start c (get_or workers k d)) (let same : 0 + k ≡ k = omega arith in same) (worker_from t number calls start 0 ended.before workers k d ended.off ended.done less)

-- All joined, and their replies put together

-- where there is a CPU, the strands from the start are there again
all_there : (cpus : ℕ) (strands : List Ended) → 0 < cpus → cond (eqb cpus 0) [] strands ≡ strands
all_there cpus strands some = by_test cpus 0 (λ b. cond b [] strands ≡ strands) (λ none. absurd (omega (arith, none, some))) (λ _. refl)

pub raced : (t : TableView) (number : ℕ) (calls : List Call) (start p : PassView) (lists : List (List Reply)) (counts : List ℕ) (replies : List Reply) → IsShape t.shape → HaveJoined t number calls start t.shape.cpus p lists counts
    → length replies ≡ length calls → ((cpu : ℕ) → cpu < length lists → replies_of cpu calls replies ≡ replies_by cpu lists) → HaveRaced t number calls start p replies counts
raced t number calls start p lists counts replies shape_is joined counted merged =
    let some = some_cpus t.shape shape_is in
    record {
      whole = record { of_table = joined.of_table; all_cpus = joined.here; in_no_call = joined.in_no_call };
      turns = λ cpu. (joined.did cpu).0;
      kept = λ cpu. (joined.did cpu).1;
      touched = λ cpu. (joined.did cpu).2;
      strands = joined.strands ∙ ap (λ (l : List Ended). l ++ filter has_turn (map (strand_did joined.did) (range_with_len 0 t.shape.cpus))) (all_there t.shape.cpus (filter has_turn (all_strands start.view)) some);
      no_steps = joined.no_steps some;
      are_kept = λ cpu below. (joined.each cpu below).0;
      counts_are = joined.counts_are;
      next_is = joined.next_is;
      tickets = λ cpu below. (joined.each cpu below).2;
      refused = joined.refused;
      lost = joined.lost;
      beyond = joined.beyond;
      counted = counted;
      calls_are = λ none cpu below. subst
          (λ (own : List Reply). AreCallsBy t.shape cpu number calls (element_of (spare_of cpu start.spares)) (element_of (spare_of cpu p.spares)) own (joined.did cpu).0)
          (sym (merged cpu (subst (λ (k : ℕ). cpu < k) (sym joined.workers) below))) ((joined.each cpu below).3 none);
    }
