-- Buckets from which all is taken out: a bucket's turn with the freeing of what it took out, the buckets from one on, up to the first
-- for which there is no room, and the end of the call.
use Rattle.std.proofs.Common.{◌≡◌, ℕ, ◌+◌, ◌-◌, ◌<◌, ◌≤◌, cond, Bool, true, false, List, [], ◌∷◌, ◌++◌, length, map, sym, refl, ap, ◌∙◌, subst, arith, Option, Some, Ok}
use Rattle.std.specs.Prelude.{IsTrue, MatchBool, min, unwrap_or}
use Rattle.std.specs.List.{range_with_len}
use Rattle.std.proofs.lemmas.Bool.{lt-ltb, le-ltb}
use Rattle.std.proofs.lemmas.List.{map-append, append_assoc}
use Rattle.map_types.specs.declared.attr.Shape.{Shape}
use Rattle.map_types.specs.declared.call.Verb.TheVariants as verbs
use Rattle.map_types.specs.declared.refusal.Errno.TheVariants.{Enoent}
use Rattle.map_types.specs.declared.reply.Reply.{Reply}
use Rattle.map_types.specs.declared.reply.Reply.TheVariants.{Batch}
use Rattle.map_types.specs.Kind.{is_lru}
use Rattle.map_types.specs.Stored.{Stored}
use Rattle.percpu_values.specs.BodyList.{BodyList}
use Rattle.place_words.specs.declared.bucket_part.Walked.{Walked}
use Rattle.place_words.specs.declared.bucket_part.Walked.TheVariants.{Over, Taken}
use Rattle.place_words.specs.Turns.{Turn, TurnAt, on_freelist_of, turns_of}
use Rattle.place_words.specs.declared.free_part.FreePart.TheVariants.{Pushed}
use Rattle.place_words.specs.Walks.{FreesAll, IsFreedAfter, TakesOut, Walks, buckets_from, stopped_at, walked_out}
use Rattle.place_table.specs.declared.view.Turned.{Turned}
use Rattle.place_table.specs.Calls.{CanCall, Called}
use Rattle.place_table.specs.Known.{turn_at}
use Rattle.place_table.specs.Passes.{PassView, TableView}
use Rattle.place_table.specs.Views.{is_in_hand_of}
use Rattle.place_table.proofs.Entries.{append_nil}
use Rattle.place_table.proofs.Going.{goes_of_table, goes_begun}
use Rattle.place_table.proofs.Worlds.{true_false}
use Rattle.lru_ops.specs.Lists.{Changed}
use Rattle.lru_ops.proofs.Ends.{changed_on, called_changed, in_no_hand}
use Rattle.bucket_walks.specs.declared.read.BatchOut.{BatchOut}
use Rattle.bucket_walks.specs.declared.read.BatchOut.TheVariants as outs
use Rattle.bucket_walks.specs.declared.read.Planned.{Planned}
use Rattle.map_batch.specs.LruTakes.{CanTakeOut, CanFreeAll, FreedAll, HaveSameInHand, TakesInto, TakesIn, TakesOn, takes_bucket, without_all_in_hand}
use Rattle.bucket_walks.specs.Plans.{Plans}
use Rattle.bucket_walks.specs.BatchReads.{Answers, PairsSoFar, BeginsAt, IsOfMap, IsGathered, IsToRead, stop_of}
use Rattle.bucket_walks.proofs.Ends.{can_walk, walks_read}
use Rattle.bucket_walks.proofs.Past.{range_before, before_none, before_more, before_here, before_all}
use Rattle.map_batch.proofs.LruFreed.{changed_nothing, in_hand_all, all_back}

-- What a pass may do again whose turns left its hands as they were
pub take_on : {t : TableView} {p q : PassView} {steps told : List Turned} {lost : List ℕ} → CanTakeOut t p → Changed t p q steps told lost → HaveSameInHand p q → CanTakeOut t q
take_on {t} {p} {q} {steps} {told} {lost} can changed same = record {
  can = record {
    of_table = goes_of_table t p q steps lost changed.made.goes can.can.of_table;
    begun = goes_begun p q steps lost changed.made.goes can.can.begun;
    no_lock = changed.made.held ∙ can.can.no_lock;
  };
  carries_nothing = changed.carried ∙ can.carries_nothing;
  empty_hand = λ e. same e q.cpu ∙ (ap (λ (c : ℕ). is_in_hand_of e c p.view.hand) changed.made.goes.cpu ∙ can.empty_hand e);
}

-- A bucket's turn, and then what it took out
module _ {t : TableView} {bucket : ℕ} {p q : PassView} {whole : Bool} {out now : PairsSoFar} {gone : List Stored} (can : CanTakeOut t p) (into : TakesInto t bucket p q whole out now gone) where
  pub can_free_all : CanFreeAll t gone q
  can_free_all =
      let goes = into.changed.made.goes in
      record {
        of_table = goes_of_table t p q (into.step ∷ []) into.lost goes can.can.of_table;
        begun = goes_begun p q (into.step ∷ []) into.lost goes can.can.begun;
        no_lock = into.changed.made.held ∙ can.can.no_lock;
        carries_nothing = into.changed.carried ∙ can.carries_nothing;
        are_out = into.are_out;
        once = into.once;
        in_hand = λ e inside. (λ i. is_in_hand_of e (goes.cpu i) (into.hand i)) ∙ in_hand_all gone p.cpu p.view.hand e inside;
      }

  pub takes_in : {s : PassView} → IsTrue (is_lru t.shape.kind) → FreedAll t gone q s → TakesIn t bucket p s whole out now
  takes_in {s} lru freed =
      let turn : Turn = takes_bucket bucket out into.walked in
      let elements : List ℕ = walked_out true into.walked in
      let turns : List TurnAt = turn_at t.shape into.told ∷ map (turn_at t.shape) freed.steps in
      record {
        steps = into.step ∷ freed.steps;
        told = into.told ∷ freed.steps;
        lost = into.lost;
        changed = changed_on into.changed freed.changed;
        walked = into.walked;
        trace = subst (λ b. MatchBool b (IsFreedAfter t.shape turn elements turns) (turns_of turns ≡ map (λ e. on_freelist_of p.cpu (Pushed e)) elements ++ turn ∷ [])) (sym lru) (record {
          at_bucket = turn_at t.shape into.told;
          freeing = map (turn_at t.shape) freed.steps;
          turns_are = refl;
          bucket_is = into.turn;
          frees = subst (λ (l : List ℕ). FreesAll t.shape l (map (turn_at t.shape) freed.steps)) into.gone_is freed.trace;
        });
        gathered = into.gathered;
        hand = λ e c.
            ap (is_in_hand_of e c) (freed.hand ∙ (λ i. without_all_in_hand gone (into.changed.made.goes.cpu i) (into.hand i)))
            ∙ all_back gone p.cpu p.view.hand into.once can.empty_hand e c;
      }

-- The stack is empty again
pub empty_again : {old now : BodyList} (mid : BodyList) → old.bodies ≡ [] → now ≡ record { bodies = []; spare = mid.spare + length mid.bodies } → mid.spare + length mid.bodies ≡ old.spare → now ≡ old
empty_again {old} {now} mid empty is room = is ∙ (λ i. record { bodies = sym empty i; spare = room i })

-- The buckets so far

-- All was taken out of these buckets and freed, and these pairs were read of them: with a trace of the later buckets their turns are
-- one of all.
pub record TakenWhole (t : TableView) (limit : ℕ) (buckets : List ℕ) (before after : PassView) (out : PairsSoFar) : Type 0 where
  pub steps : List Turned
  pub told : List Turned
  pub lost : List ℕ
  pub changed : Changed t before after steps told lost
  pub hand : HaveSameInHand before after
  pub of_map : IsOfMap t.shape out
  pub limit_is : out.limit ≡ limit
  pub trace : (rest : List ℕ) (turns : List TurnAt) (reply : Reply) → Walks t.shape before.cpu true limit rest out.pairs turns reply
      → Walks t.shape before.cpu true limit (buckets ++ rest) [] (map (turn_at t.shape) told ++ turns) reply

taken_none : (t : TableView) (limit : ℕ) (p : PassView) (out : PairsSoFar) → BeginsAt t.shape limit out → TakenWhole t limit [] p p out
taken_none t limit p out begins = record {
  steps = [];
  told = [];
  lost = [];
  changed = changed_nothing t p;
  hand = λ e c. refl;
  of_map = begins.of_map;
  limit_is = begins.limit_is;
  trace = λ rest turns reply later. subst (λ (pairs : List (List ℕ × List ℕ)). Walks t.shape p.cpu true limit rest pairs turns reply) begins.none later;
}

turns_on : (shape : Shape) (first told : List Turned) (turns : List TurnAt) → map (turn_at shape) first ++ (map (turn_at shape) told ++ turns) ≡ map (turn_at shape) (first ++ told) ++ turns
turns_on shape first told turns = sym (ap (λ (l : List TurnAt). l ++ turns) (map-append (turn_at shape) first told) ∙ append_assoc (map (turn_at shape) first) (map (turn_at shape) told) turns)

module _ {t : TableView} {limit : ℕ} {buckets : List ℕ} {p q r : PassView} {out now : PairsSoFar} {whole : Bool} (bucket : ℕ) (so_far : TakenWhole t limit buckets p q out) (one : TakesIn t bucket q r whole out now) where
  -- its turns, by the CPU of the call and with the room that was left
  turns_here : TakesOut t.shape p.cpu (takes_bucket bucket (record out { limit = limit }) one.walked) (walked_out true one.walked) (map (turn_at t.shape) one.told)
  turns_here =
      subst (λ (z : ℕ × ℕ). TakesOut t.shape z.0 (takes_bucket bucket (record out { limit = z.1 }) one.walked) (walked_out true one.walked) (map (turn_at t.shape) one.told))
      (λ i. (so_far.changed.made.goes.cpu i, so_far.limit_is i)) one.trace

  same_on : HaveSameInHand p r
  same_on e c = one.hand e c ∙ so_far.hand e c

  -- it was taken out whole
  whole_by : (walked : Walked) → one.walked ≡ walked → IsGathered walked whole out now → whole ≡ true → TakenWhole t limit (buckets ++ bucket ∷ []) p r now
  whole_by (Over n) walked_is gathered is = absurd (true_false (sym is ∙ gathered.0))
  whole_by (Taken all) walked_is gathered is = record {
    steps = so_far.steps ++ one.steps;
    told = so_far.told ++ one.told;
    lost = one.lost ++ so_far.lost;
    changed = changed_on so_far.changed one.changed;
    hand = same_on;
    of_map = subst (IsOfMap t.shape) (sym gathered.1) (record { keys = so_far.of_map.keys; values = so_far.of_map.values });
    limit_is = ap (λ (o : PairsSoFar). o.limit) gathered.1 ∙ so_far.limit_is;
    trace = λ rest turns reply later.
        subst (λ (z : List ℕ × List TurnAt). Walks t.shape p.cpu true limit z.0 [] z.1 reply) (λ i. (sym (append_assoc buckets (bucket ∷ []) rest) i, turns_on t.shape so_far.told one.told turns i))
        (so_far.trace (bucket ∷ rest) (map (turn_at t.shape) one.told ++ turns) reply (
          Taken all,
          map (turn_at t.shape) one.told,
          turns,
          (
            refl,
            subst (λ (w : Walked). TakesOut t.shape p.cpu (takes_bucket bucket (record out { limit = limit }) w) (walked_out true w) (map (turn_at t.shape) one.told)) walked_is turns_here,
            subst (λ (pairs : List (List ℕ × List ℕ)). Walks t.shape p.cpu true limit rest pairs turns reply) (ap (λ (o : PairsSoFar). o.pairs) gathered.1) later,
          ),
        ));
  }

  -- it was left, and the batch ends there
  over_by : (walked : Walked) (from : ℕ) (rest : List ℕ) → one.walked ≡ walked → IsGathered walked whole out now → whole ≡ false → bucket < t.shape.buckets → buckets ++ bucket ∷ rest ≡ buckets_from t.shape from → TakesOn t from p r limit now.pairs bucket
  over_by (Taken all) from rest walked_is gathered is there all_are = absurd (true_false (sym gathered.0 ∙ is))
  over_by (Over n) from rest walked_is gathered is there all_are =
      let reply : Batch (stopped_at out.pairs) out.pairs bucket ≡ Batch (stop_of t.shape bucket now.pairs) now.pairs bucket =
      ap (λ (b : Bool). Batch (cond b (stopped_at out.pairs) (Some Enoent)) out.pairs bucket) (sym (lt-ltb bucket t.shape.buckets there))
      ∙ ap (λ (o : PairsSoFar). Batch (stop_of t.shape bucket o.pairs) o.pairs bucket) (sym gathered.1) in
      record {
        steps = so_far.steps ++ one.steps;
        told = so_far.told ++ one.told;
        lost = one.lost ++ so_far.lost;
        changed = changed_on so_far.changed one.changed;
        hand = same_on;
        trace = subst (λ (z : List ℕ × List TurnAt × Reply). Walks t.shape p.cpu true limit z.0 [] z.1 z.2) (λ i. (all_are i, (turns_on t.shape so_far.told one.told [] ∙ append_nil (map (turn_at t.shape) (so_far.told ++ one.told))) i, reply i))
            (so_far.trace (bucket ∷ rest) (map (turn_at t.shape) one.told ++ []) (Batch (stopped_at out.pairs) out.pairs bucket) (
              Over n,
              map (turn_at t.shape) one.told,
              [],
              (refl, subst (λ (w : Walked). TakesOut t.shape p.cpu (takes_bucket bucket (record out { limit = limit }) w) (walked_out true w) (map (turn_at t.shape) one.told)) walked_is turns_here, (refl, refl)),
            ));
      }

-- after the last bucket
all_taken : {t : TableView} {limit : ℕ} {buckets : List ℕ} {p q : PassView} {out : PairsSoFar} (from to : ℕ) → to ≡ t.shape.buckets → buckets ++ [] ≡ buckets_from t.shape from → TakenWhole t limit buckets p q out → TakesOn t from p q limit out.pairs to
all_taken {t} {limit} {buckets} {p} {q} {out} from to to_is all so_far =
    let past_end : t.shape.buckets ≤ to = omega (arith, to_is) in
    let reply : Batch (Some Enoent) out.pairs t.shape.buckets ≡ Batch (stop_of t.shape to out.pairs) out.pairs to =
    ap (λ (b : Bool). Batch (cond b (stopped_at out.pairs) (Some Enoent)) out.pairs t.shape.buckets) (sym (le-ltb to t.shape.buckets past_end)) ∙ ap (λ (n : ℕ). Batch (stop_of t.shape to out.pairs) out.pairs n) (sym to_is) in
    record {
      steps = so_far.steps;
      told = so_far.told;
      lost = so_far.lost;
      changed = so_far.changed;
      hand = so_far.hand;
      trace = subst (λ (z : List ℕ × List TurnAt × Reply). Walks t.shape p.cpu true limit z.0 [] z.1 z.2) (λ i. (all i, append_nil (map (turn_at t.shape) so_far.told) i, reply i)) (so_far.trace [] [] (Batch (Some Enoent) out.pairs t.shape.buckets) (refl, refl));
    }

-- The loop, where it stands at this bucket

abbrev pub TakenBefore : TableView → ℕ → ℕ → ℕ → ℕ → PassView → PassView → PairsSoFar → Type 0
TakenBefore t limit from bucket to p q out = TakenWhole t limit (range_before from bucket to) p q out

pub taken_begins : (t : TableView) (limit from to : ℕ) (p : PassView) (out : PairsSoFar) → BeginsAt t.shape limit out → TakenBefore t limit from from to p p out
taken_begins t limit from to p out begins = subst (λ (l : List ℕ). TakenWhole t limit l p p out) (before_none from to) (taken_none t limit p out begins)

pub taken_more : {t : TableView} {limit : ℕ} {p q r : PassView} {out now : PairsSoFar} (from bucket to : ℕ) (whole : Bool) → whole ≡ true → from ≤ bucket → bucket < to → TakenBefore t limit from bucket to p q out → TakesIn t bucket q r whole out now → TakenBefore t limit from (bucket + 1) to p r now
taken_more {t} {limit} {p} {q} {r} {out} {now} from bucket to whole is after before so_far one =
    subst (λ (l : List ℕ). TakenWhole t limit l p r now) (before_more from bucket to after before) (whole_by bucket so_far one one.walked refl one.gathered is)

pub taken_over : {t : TableView} {limit : ℕ} {p q r : PassView} {out now : PairsSoFar} (from bucket to : ℕ) (whole : Bool) → to ≡ t.shape.buckets → whole ≡ false → from ≤ bucket → bucket < to → TakenBefore t limit from bucket to p q out → TakesIn t bucket q r whole out now → TakesOn t from p r limit now.pairs bucket
taken_over {t} {now = now} from bucket to whole to_is is after before so_far one =
    let there : bucket < t.shape.buckets = omega (arith, to_is, before) in
    over_by bucket so_far one one.walked from (range_with_len (bucket + 1) (to - (bucket + 1))) refl one.gathered is there (before_here t.shape from bucket to to_is after before)

pub taken_end : {t : TableView} {limit : ℕ} {p q : PassView} {out : PairsSoFar} (from bucket to : ℕ) → to ≡ t.shape.buckets → to ≤ bucket → TakenBefore t limit from bucket to p q out → TakesOn t from p q limit out.pairs to
taken_end {t} from bucket to to_is past_end so_far = all_taken from to to_is (before_all t.shape from bucket to to_is past_end) so_far

-- The call

pub can_take_out : {t : TableView} {p : PassView} → CanCall t p → IsTrue (is_lru t.shape.kind) → CanTakeOut t p
can_take_out {t} {p} can lru = record {
  can = can_walk can;
  carries_nothing = can.in_no_call.carries_nothing;
  empty_hand = λ e. in_no_hand can lru e p.cpu can.begun;
}

-- the walk that is planned, by the shape that the table tells
module _ (t : TableView) (count : ℕ) (start : Option ℕ) (flags : ℕ) (shape : Shape) (planned : Planned) (shape_is : shape ≡ t.shape) (plans : Plans shape count start flags (Ok (Some planned))) where
  pub planned_from : planned.from ≤ t.shape.buckets
  planned_from =
      let below : unwrap_or start 0 < shape.buckets = plans.0.2 in
      let buckets : shape.buckets ≡ t.shape.buckets = ap (λ (x : Shape). x.buckets) shape_is in
      omega (arith, below, buckets, plans.1.from_is)

  pub planned_begins : BeginsAt t.shape planned.out.limit planned.out
  planned_begins = record { of_map = subst (λ (x : Shape). IsOfMap x planned.out) shape_is plans.1.begins.of_map; none = plans.1.begins.none; limit_is = refl }

  -- with a stack that has room for all that it may take
  pub planned_room : {gone : BodyList} (room : ℕ) → gone ≡ record { bodies = []; spare = room } → room ≡ planned.out.limit - length planned.out.pairs → gone ≡ record { bodies = []; spare = planned.out.limit }
  planned_room room gone_is room_is =
      let none : length planned.out.pairs ≡ 0 = ap length plans.1.begins.none in
      let all : room ≡ planned.out.limit = omega (arith, none, room_is) in
      gone_is ∙ (λ i. record { bodies = []; spare = all i })

-- buckets were taken out
pub called_taken : {t : TableView} {p s : PassView} {pairs : List (List ℕ × List ℕ)} {next limit : ℕ} (count : ℕ) (start : Option ℕ) (flags : ℕ) (shape : Shape) (planned : Planned) (out : BatchOut) → CanCall t p → IsTrue (is_lru t.shape.kind) → shape ≡ t.shape
    → Plans shape count start flags (Ok (Some planned)) → limit ≡ planned.out.limit → TakesOn t planned.from p s limit pairs next → out ≡ outs.Read (stop_of shape next pairs) pairs next → Answers t p s (verbs.BatchRead true count start flags) (Ok out)
called_taken {t} {p} {s} {pairs} {next} {limit} count start flags shape planned out can lru shape_is plans limit_is takes out_is =
    let reply : Reply = Batch (stop_of t.shape next pairs) pairs next in
    let to_read : IsToRead t.shape count start flags = subst (λ (x : Shape). IsToRead x count start flags) shape_is plans.0 in
    let here : TakesOn t (unwrap_or start 0) p s (min count t.shape.elements) pairs next =
    subst (λ (z : ℕ × ℕ). TakesOn t z.0 p s z.1 pairs next) (λ i. (plans.1.from_is i, ((limit_is ∙ plans.1.begins.limit_is) ∙ ap (λ (x : Shape). min count x.elements) shape_is) i)) takes in
    let called : Called t p s (verbs.BatchRead true count start flags) reply =
    called_changed (verbs.BatchRead true count start flags) reply can lru here.changed here.hand (walks_read t.shape p.cpu true count start flags (map (turn_at t.shape) here.told) reply to_read here.trace) in
    subst (λ (o : BatchOut). Answers t p s (verbs.BatchRead true count start flags) (Ok o)) (sym (out_is ∙ ap (λ (x : Shape). outs.Read (stop_of x next pairs) pairs next) shape_is)) called
