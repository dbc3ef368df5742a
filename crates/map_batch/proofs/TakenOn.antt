-- The buckets from one on, on a map that doesn't evict: each is taken whole, up to the first for which there is no room. Then the end
-- of the batch take.
use Rattle.std.proofs.Common.{◌≡◌, ℕ, ◌+◌, ◌-◌, ◌<◌, ◌≤◌, cond, Bool, true, false, List, [], ◌∷◌, ◌++◌, length, map, sym, refl, ap, ◌∙◌, subst, arith, Option, Some}
use Rattle.std.specs.Prelude.{All, min, unwrap_or, Ok}
use Rattle.std.specs.List.{range_with_len}
use Rattle.std.proofs.lemmas.Bool.{lt-ltb, le-ltb}
use Rattle.std.proofs.lemmas.List.{map-append, append_assoc}
use Rattle.std.proofs.lemmas.List.Elements.{All-nil, All-append}
use Rattle.map_types.specs.declared.attr.Shape.{Shape}
use Rattle.map_types.specs.declared.call.Verb.TheVariants as verbs
use Rattle.map_types.specs.declared.kind.DomainId.TheVariants.{Bucket}
use Rattle.map_types.specs.declared.refusal.Errno.TheVariants.{Enoent}
use Rattle.map_types.specs.declared.reply.Reply.{Reply}
use Rattle.map_types.specs.declared.reply.Reply.TheVariants.{Batch}
use Rattle.map_types.specs.Kind.{is_lru}
use Rattle.map_types.specs.Stored.{Stored}
use Rattle.place_words.specs.declared.bucket_part.BucketPart.TheVariants.{Walk}
use Rattle.place_words.specs.declared.bucket_part.Walked.{Walked}
use Rattle.place_words.specs.declared.bucket_part.Walked.TheVariants.{Over, Taken}
use Rattle.place_words.specs.declared.history.Part.TheVariants as parts
use Rattle.place_words.specs.PlainTraces.{spare_after, spare_after_part}
use Rattle.place_words.specs.Turns.{Turn, TurnAt, on_lock}
use Rattle.place_words.specs.Walks.{IsReadTrace, TakesOut, Walks, buckets_from, pair_of, stopped_at, walked_out}
use Rattle.place_table.specs.declared.view.Turned.{Turned}
use Rattle.place_table.specs.Calls.{CanCall, Called, element_of, spare_element}
use Rattle.place_table.specs.Known.{IsBy, Learns, turn_of, turn_at}
use Rattle.place_table.specs.Passes.{PassView, TableView, spare_of}
use Rattle.place_table.proofs.Entries.{append_nil}
use Rattle.place_table.proofs.Going.{goes_nowhere, made_on, learns_none, learns_on}
use Rattle.place_table.proofs.Worlds.{true_false}
use Rattle.hash_ops.proofs.Under.{idle_same, no_bits, plain_left}
use Rattle.bucket_walks.specs.declared.read.BatchOut.{BatchOut}
use Rattle.bucket_walks.specs.declared.read.BatchOut.TheVariants as outs
use Rattle.bucket_walks.specs.declared.read.Planned.{Planned}
use Rattle.map_batch.specs.PlainTakes.{TakesInto, TakesOn, Took}
use Rattle.bucket_walks.specs.Plans.{Plans}
use Rattle.bucket_walks.specs.BatchReads.{Answers, PairsSoFar, BeginsAt, IsOfMap, IsGathered, IsToRead, stop_of, with_pairs}
use Rattle.bucket_walks.proofs.Ends.{walks_read}
use Rattle.bucket_walks.proofs.Past.{range_before, before_none, before_more, before_here, before_all}
use Rattle.bucket_walks.proofs.Told.{told_on}

-- One part after another

pub took_nowhere : (t : TableView) (p : PassView) → Took t p p [] [] []
took_nowhere t p = record {
  told_are = tt;
  made = record { goes = goes_nowhere p; held = refl; notes = refl };
  by_call = All-nil (IsBy p.cpu p.call);
  hands = λ _ _. refl;
  carried = refl;
  spares = refl;
  spare_told = λ _. refl;
  bits = refl;
  learns = learns_none t.shape p.view;
}

pub spare_append : (spare : Option ℕ) (first second : List Turn) → spare_after spare (first ++ second) ≡ spare_after (spare_after spare first) second
spare_append spare [] second = refl
spare_append spare (turn ∷ first) second = spare_append (spare_after_part spare turn.part) first second

pub took_on : {t : TableView} {p q r : PassView} {first second told others : List Turned} {lost more : List ℕ} → Took t p q first told lost → Took t q r second others more → Took t p r (first ++ second) (told ++ others) (more ++ lost)
took_on {t} {p} {q} {r} {first} {second} {told} {others} {lost} {more} a b = record {
  told_are = told_on t.shape lost more first second told others a.told_are b.told_are;
  made = made_on p q r first second lost more a.made b.made;
  by_call = All-append (IsBy p.cpu p.call) first second a.by_call (subst (λ (z : ℕ × ℕ). All (IsBy z.0 z.1) second) (λ i. (a.made.goes.cpu i, a.made.goes.call i)) b.by_call);
  hands = λ e c. b.hands e c ∙ a.hands e c;
  carried = b.carried ∙ a.carried;
  spares = b.spares ∙ a.spares;
  spare_told = λ spare.
      ap (spare_after spare) (map-append (turn_of t.shape) told others)
      ∙ (spare_append spare (map (turn_of t.shape) told) (map (turn_of t.shape) others)
      ∙ (ap (λ (s : Option ℕ). spare_after s (map (turn_of t.shape) others)) (a.spare_told spare) ∙ b.spare_told spare));
  bits = b.bits ∙ a.bits;
  learns = learns_on t.shape p.view q.view r.view first second [] [] a.learns b.learns;
}

-- Traces

-- A bucket that was taken whole, before a trace of the rest; and one for which there was no room, which ends it
module _ (shape : Shape) (cpu limit bucket : ℕ) (rest : List ℕ) (taken : List (List ℕ × List ℕ)) (one : List TurnAt) where
  whole_first : (all : List Stored) (turns : List TurnAt) (reply : Reply) → TakesOut shape cpu (on_lock (Bucket bucket) (parts.Bucket (Walk true (limit - length taken) (Taken all)))) (walked_out true (Taken all)) one
      → Walks shape cpu true limit rest (taken ++ map pair_of all) turns reply → Walks shape cpu true limit (bucket ∷ rest) taken (one ++ turns) reply
  whole_first all turns reply out later = (Taken all, one, turns, (refl, out, later))

  over_last : (n : ℕ) → TakesOut shape cpu (on_lock (Bucket bucket) (parts.Bucket (Walk true (limit - length taken) (Over n)))) (walked_out true (Over n)) one
      → Walks shape cpu true limit (bucket ∷ rest) taken (one ++ []) (Batch (stopped_at taken) taken bucket)
  over_last n out = (Over n, one, [], (refl, out, (refl, refl)))

-- The buckets so far

-- These buckets were taken whole, and these pairs were read of them: with a trace of the later buckets their turns are one of all.
pub record TakenWhole (t : TableView) (limit : ℕ) (buckets : List ℕ) (before after : PassView) (out : PairsSoFar) : Type 0 where
  pub steps : List Turned
  pub told : List Turned
  pub lost : List ℕ
  pub took : Took t before after steps told lost
  pub of_map : IsOfMap t.shape out
  pub limit_is : out.limit ≡ limit
  pub trace : (rest : List ℕ) (turns : List TurnAt) (reply : Reply) → Walks t.shape before.cpu true limit rest out.pairs turns reply
      → Walks t.shape before.cpu true limit (buckets ++ rest) [] (map (turn_at t.shape) told ++ turns) reply

taken_none : (t : TableView) (limit : ℕ) (p : PassView) (out : PairsSoFar) → BeginsAt t.shape limit out → TakenWhole t limit [] p p out
taken_none t limit p out begins = record {
  steps = [];
  told = [];
  lost = [];
  took = took_nowhere t p;
  of_map = begins.of_map;
  limit_is = begins.limit_is;
  trace = λ rest turns reply later. subst (λ (pairs : List (List ℕ × List ℕ)). Walks t.shape p.cpu true limit rest pairs turns reply) begins.none later;
}

turns_on : (shape : Shape) (first others : List Turned) (turns : List TurnAt) → map (turn_at shape) first ++ (map (turn_at shape) others ++ turns) ≡ map (turn_at shape) (first ++ others) ++ turns
turns_on shape first others turns = sym (ap (λ (l : List TurnAt). l ++ turns) (map-append (turn_at shape) first others) ∙ append_assoc (map (turn_at shape) first) (map (turn_at shape) others) turns)

module _ {t : TableView} {limit : ℕ} {buckets : List ℕ} {p q r : PassView} {out now : PairsSoFar} {whole : Bool} (bucket : ℕ) (so_far : TakenWhole t limit buckets p q out) (into : TakesInto t bucket q r whole out now) where
  -- its turns, by the CPU of the call and with the room that was left
  takes_here : TakesOut t.shape p.cpu (on_lock (Bucket bucket) (parts.Bucket (Walk true (limit - length out.pairs) into.walked))) (walked_out true into.walked) (map (turn_at t.shape) into.told)
  takes_here =
      subst (λ (z : ℕ × ℕ). TakesOut t.shape z.0 (on_lock (Bucket bucket) (parts.Bucket (Walk true (z.1 - length out.pairs) into.walked))) (walked_out true into.walked) (map (turn_at t.shape) into.told))
      (λ i. (so_far.took.made.goes.cpu i, so_far.limit_is i)) into.takes_out

  -- one bucket more that was taken whole
  one_whole : (all : List Stored) → into.walked ≡ Taken all → now ≡ with_pairs out (map pair_of all) → TakenWhole t limit (buckets ++ bucket ∷ []) p r now
  one_whole all walked_is now_is = record {
    steps = so_far.steps ++ into.steps;
    told = so_far.told ++ into.told;
    lost = into.lost ++ so_far.lost;
    took = took_on so_far.took into.took;
    of_map = subst (IsOfMap t.shape) (sym now_is) (record { keys = so_far.of_map.keys; values = so_far.of_map.values });
    limit_is = ap (λ (o : PairsSoFar). o.limit) now_is ∙ so_far.limit_is;
    trace = λ rest turns reply later.
        subst (λ (z : List ℕ × List TurnAt). Walks t.shape p.cpu true limit z.0 [] z.1 reply) (λ i. (sym (append_assoc buckets (bucket ∷ []) rest) i, turns_on t.shape so_far.told into.told turns i))
        (so_far.trace (bucket ∷ rest) (map (turn_at t.shape) into.told ++ turns) reply
        (whole_first t.shape p.cpu limit bucket rest out.pairs (map (turn_at t.shape) into.told) all turns reply
        (subst (λ (w : Walked). TakesOut t.shape p.cpu (on_lock (Bucket bucket) (parts.Bucket (Walk true (limit - length out.pairs) w))) (walked_out true w) (map (turn_at t.shape) into.told)) walked_is takes_here)
        (subst (λ (pairs : List (List ℕ × List ℕ)). Walks t.shape p.cpu true limit rest pairs turns reply) (ap (λ (o : PairsSoFar). o.pairs) now_is) later)));
  }

  -- one that was left, at which the batch ends
  one_over : (n from : ℕ) (rest : List ℕ) → into.walked ≡ Over n → now ≡ out → bucket < t.shape.buckets → buckets ++ bucket ∷ rest ≡ buckets_from t.shape from → TakesOn t from p r limit now.pairs bucket
  one_over n from rest walked_is now_is there all =
      let reply : Batch (stopped_at out.pairs) out.pairs bucket ≡ Batch (stop_of t.shape bucket now.pairs) now.pairs bucket =
      ap (λ (b : Bool). Batch (cond b (stopped_at out.pairs) (Some Enoent)) out.pairs bucket) (sym (lt-ltb bucket t.shape.buckets there))
      ∙ ap (λ (o : PairsSoFar). Batch (stop_of t.shape bucket o.pairs) o.pairs bucket) (sym now_is) in
      record {
        steps = so_far.steps ++ into.steps;
        told = so_far.told ++ into.told;
        lost = into.lost ++ so_far.lost;
        took = took_on so_far.took into.took;
        trace = subst (λ (z : List ℕ × List TurnAt × Reply). Walks t.shape p.cpu true limit z.0 [] z.1 z.2) (λ i. (all i, (turns_on t.shape so_far.told into.told [] ∙ append_nil (map (turn_at t.shape) (so_far.told ++ into.told))) i, reply i))
            (so_far.trace (bucket ∷ rest) (map (turn_at t.shape) into.told ++ []) (Batch (stopped_at out.pairs) out.pairs bucket)
            (over_last t.shape p.cpu limit bucket rest out.pairs (map (turn_at t.shape) into.told) n
            (subst (λ (w : Walked). TakesOut t.shape p.cpu (on_lock (Bucket bucket) (parts.Bucket (Walk true (limit - length out.pairs) w))) (walked_out true w) (map (turn_at t.shape) into.told)) walked_is takes_here)));
      }

  whole_by : (walked : Walked) → into.walked ≡ walked → IsGathered walked whole out now → whole ≡ true → TakenWhole t limit (buckets ++ bucket ∷ []) p r now
  whole_by (Over n) walked_is gathered is = absurd (true_false (sym is ∙ gathered.0))
  whole_by (Taken all) walked_is gathered is = one_whole all walked_is gathered.1

  over_by : (walked : Walked) (from : ℕ) (rest : List ℕ) → into.walked ≡ walked → IsGathered walked whole out now → whole ≡ false → bucket < t.shape.buckets → buckets ++ bucket ∷ rest ≡ buckets_from t.shape from → TakesOn t from p r limit now.pairs bucket
  over_by (Over n) from rest walked_is gathered is there all = one_over n from rest walked_is gathered.1 there all
  over_by (Taken bodies) from rest walked_is gathered is there all = absurd (true_false (sym gathered.0 ∙ is))

-- after the last bucket
taken_all_on : {t : TableView} {limit : ℕ} {buckets : List ℕ} {p q : PassView} {out : PairsSoFar} (from to : ℕ) → to ≡ t.shape.buckets → buckets ++ [] ≡ buckets_from t.shape from → TakenWhole t limit buckets p q out → TakesOn t from p q limit out.pairs to
taken_all_on {t} {limit} {buckets} {p} {q} {out} from to to_is all so_far =
    let past_end : t.shape.buckets ≤ to = omega (arith, to_is) in
    let reply : Batch (Some Enoent) out.pairs t.shape.buckets ≡ Batch (stop_of t.shape to out.pairs) out.pairs to =
    ap (λ (b : Bool). Batch (cond b (stopped_at out.pairs) (Some Enoent)) out.pairs t.shape.buckets) (sym (le-ltb to t.shape.buckets past_end)) ∙ ap (λ (n : ℕ). Batch (stop_of t.shape to out.pairs) out.pairs n) (sym to_is) in
    record {
      steps = so_far.steps;
      told = so_far.told;
      lost = so_far.lost;
      took = so_far.took;
      trace = subst (λ (z : List ℕ × List TurnAt × Reply). Walks t.shape p.cpu true limit z.0 [] z.1 z.2) (λ i. (all i, append_nil (map (turn_at t.shape) so_far.told) i, reply i)) (so_far.trace [] [] (Batch (Some Enoent) out.pairs t.shape.buckets) (refl, refl));
    }

-- The loop, where it stands at this bucket

abbrev pub TakenBefore : TableView → ℕ → ℕ → ℕ → ℕ → PassView → PassView → PairsSoFar → Type 0
TakenBefore t limit from bucket to p q out = TakenWhole t limit (range_before from bucket to) p q out

pub taken_begins : (t : TableView) (limit from to : ℕ) (p : PassView) (out : PairsSoFar) → BeginsAt t.shape limit out → TakenBefore t limit from from to p p out
taken_begins t limit from to p out begins = subst (λ (l : List ℕ). TakenWhole t limit l p p out) (before_none from to) (taken_none t limit p out begins)

pub taken_more : {t : TableView} {limit : ℕ} {p q r : PassView} {out now : PairsSoFar} (from bucket to : ℕ) (whole : Bool) → whole ≡ true → from ≤ bucket → bucket < to → TakenBefore t limit from bucket to p q out → TakesInto t bucket q r whole out now → TakenBefore t limit from (bucket + 1) to p r now
taken_more {t} {limit} {p} {q} {r} {out} {now} from bucket to whole is after before so_far into =
    subst (λ (l : List ℕ). TakenWhole t limit l p r now) (before_more from bucket to after before) (whole_by bucket so_far into into.walked refl into.gathered is)

pub taken_over : {t : TableView} {limit : ℕ} {p q r : PassView} {out now : PairsSoFar} (from bucket to : ℕ) (whole : Bool) → to ≡ t.shape.buckets → whole ≡ false → from ≤ bucket → bucket < to → TakenBefore t limit from bucket to p q out → TakesInto t bucket q r whole out now → TakesOn t from p r limit now.pairs bucket
taken_over {t} from bucket to whole to_is is after before so_far into =
    let there : bucket < t.shape.buckets = omega (arith, to_is, before) in
    over_by bucket so_far into into.walked from (range_with_len (bucket + 1) (to - (bucket + 1))) refl into.gathered is there (before_here t.shape from bucket to to_is after before)

pub taken_end : {t : TableView} {limit : ℕ} {p q : PassView} {out : PairsSoFar} (from bucket to : ℕ) → to ≡ t.shape.buckets → to ≤ bucket → TakenBefore t limit from bucket to p q out → TakesOn t from p q limit out.pairs to
taken_end {t} from bucket to to_is past_end so_far = taken_all_on from to to_is (before_all t.shape from bucket to to_is past_end) so_far

-- The end of the call

module _ {t : TableView} {p s : PassView} (count : ℕ) (start : Option ℕ) (flags : ℕ) (can : CanCall t p) (plain : is_lru t.shape.kind ≡ false) (none_shared : t.shape.common ≡ false) where
  called_took : {steps told : List Turned} {lost : List ℕ} (reply : Reply) → Took t p s steps told lost → IsReadTrace t.shape p.cpu true count start flags (map (turn_at t.shape) told) reply → Called t p s (verbs.BatchRead true count start flags) reply
  called_took {steps} {told} {lost} reply took trace =
      let goes = took.made.goes in
      let idle = can.in_no_call in
      record {
        steps = steps;
        lost = lost;
        told = told;
        told_are = took.told_are;
        leaves = record {
          made = took.made;
          in_no_call = idle_same p s (record { holds_nothing = refl; spares_only = idle.spares_only; spares_in_hand = idle.spares_in_hand; none_out = idle.none_out; carries_nothing = idle.carries_nothing })
              (took.made.held ∙ idle.holds_nothing) goes.cpus goes.shape took.spares took.carried took.hands;
          by_call = took.by_call;
          other_spares = λ other _. ap (spare_of other) took.spares;
          bits = λ _. took.bits;
          learns = subst (Learns t.shape p.view s.view steps) (sym (no_bits t.shape told plain)) took.learns;
        };
        trace = trace;
        none_moved = λ common. absurd (true_false (sym common ∙ none_shared));
        spare = (λ i. element_of (spare_of (goes.cpu i) (took.spares i))) ∙ (sym (took.spare_told (spare_element p)) ∙ plain_left t.shape (spare_element p) told plain);
      }

  -- buckets were taken
  pub called_taken : {pairs : List (List ℕ × List ℕ)} {next limit : ℕ} (shape : Shape) (planned : Planned) (out : BatchOut) → shape ≡ t.shape → Plans shape count start flags (Ok (Some planned)) → limit ≡ planned.out.limit → TakesOn t planned.from p s limit pairs next → out ≡ outs.Read (stop_of shape next pairs) pairs next
      → Answers t p s (verbs.BatchRead true count start flags) (Ok out)
  called_taken {pairs} {next} {limit} shape planned out shape_is plans limit_is takes out_is =
      let reply : Reply = Batch (stop_of t.shape next pairs) pairs next in
      let to_read : IsToRead t.shape count start flags = subst (λ (x : Shape). IsToRead x count start flags) shape_is plans.0 in
      let takes_here : TakesOn t (unwrap_or start 0) p s (min count t.shape.elements) pairs next = subst (λ (z : ℕ × ℕ). TakesOn t z.0 p s z.1 pairs next) (λ i. (plans.1.from_is i, ((limit_is ∙ plans.1.begins.limit_is) ∙ ap (λ (x : Shape). min count x.elements) shape_is) i)) takes in
      let called : Called t p s (verbs.BatchRead true count start flags) reply =
      called_took reply takes_here.took (walks_read t.shape p.cpu true count start flags (map (turn_at t.shape) takes_here.told) reply to_read takes_here.trace) in
      subst (λ (o : BatchOut). Answers t p s (verbs.BatchRead true count start flags) (Ok o)) (sym (out_is ∙ ap (λ (x : Shape). outs.Read (stop_of x next pairs) pairs next) shape_is)) called
