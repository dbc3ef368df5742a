-- A walk over all elements: what was handed over so far, and how it ends.
use Rattle.std.proofs.Common.{◌≡◌, ℕ, suc, ◌+◌, ◌-◌, ◌<◌, ◌≤◌, ◌==◌, Bool, true, false, List, [], ◌∷◌, ◌++◌, length, map, sym, refl, ap, ◌∙◌, subst, arith, None, Ok, Err}
use Rattle.std.specs.Prelude.{MatchBool}
use Rattle.std.specs.List.{range_with_len}
use Rattle.std.proofs.lemmas.Bool.{ne_eqb}
use Rattle.std.proofs.lemmas.List.{map-append, append_assoc}
use Rattle.map_types.specs.declared.attr.Shape.{Shape}
use Rattle.map_types.specs.declared.kind.DomainId.TheVariants.{Bucket}
use Rattle.map_types.specs.declared.kind.Side.TheVariants.{Prog}
use Rattle.map_types.specs.declared.refusal.Errno.TheVariants.{Einval}
use Rattle.map_types.specs.declared.reply.Reply.{Reply}
use Rattle.map_types.specs.declared.reply.Reply.TheVariants.{Refused, Batch}
use Rattle.map_types.specs.Stored.{Stored}
use Rattle.place_words.specs.declared.bucket_part.BucketPart.TheVariants.{Walk}
use Rattle.place_words.specs.declared.bucket_part.Walked.{Walked}
use Rattle.place_words.specs.declared.bucket_part.Walked.TheVariants.{Over, Taken}
use Rattle.place_words.specs.declared.history.Part.TheVariants as parts
use Rattle.place_words.specs.Handing.{Callback, HandsOver, HandsOverBuckets, IsHandingTrace, handed}
use Rattle.place_words.specs.Turns.{Turn, on_lock}
use Rattle.place_words.specs.Walks.{buckets_from}
use Rattle.place_table.specs.declared.view.Turned.{Turned}
use Rattle.place_table.specs.Known.{turn_of}
use Rattle.place_table.specs.Passes.{PassView, TableView}
use Rattle.place_table.proofs.Entries.{append_nil}
use Rattle.bucket_walks.specs.BatchReads.{PairsSoFar, IsOfMap, with_pairs}
use Rattle.bucket_walks.specs.Looks.{Looked, LooksInto}
use Rattle.bucket_walks.proofs.Past.{range_before, before_none, before_more, before_here, before_all}
use Rattle.bucket_walks.proofs.Told.{looked_nowhere, looked_on}
use Rattle.elem_walk.specs.Walks.{EndsWith, HandsIn, HandsOn, WalksOver}
use Rattle.elem_walk.specs.declared.walk.Ended.{Ended}
use Rattle.elem_walk.specs.declared.walk.Ended.TheVariants as ends
use Rattle.elem_walk.specs.declared.walk.Handed.{Handed}
use Rattle.elem_walk.specs.declared.walk.WalkRefusal.TheVariants as refusals

-- flags that aren't 0: nothing was done
pub flags_refused : {t : TableView} {p : PassView} (Says : Callback) (flags : ℕ) → (flags ≡ 0 → ⊥) → WalksOver t Says p p flags (Err refusals.Einval)
flags_refused {t} {p} Says flags other = (
  other,
  refl,
  record {
    steps = [];
    told = [];
    lost = [];
    looked = looked_nowhere t p;
    trace = subst (λ (b : Bool). MatchBool b (HandsOverBuckets t.shape p.cpu Says (buckets_from t.shape 0) [] [] (Refused Einval)) ((let none : List Turn = [] in none ≡ []) × (Refused Einval ≡ Refused Einval))) (sym (ne_eqb flags 0 other)) (refl, refl);
  },
)

-- These buckets were walked and handed over whole: with a trace of the later buckets their turns are one of all.
pub record HandedSo (t : TableView) (Says : Callback) (buckets : List ℕ) (before after : PassView) (out : PairsSoFar) : Type 0 where
  pub steps : List Turned
  pub told : List Turned
  pub lost : List ℕ
  pub looked : Looked t before after steps told lost
  pub limit_is : out.limit ≡ t.shape.elements
  pub few : length out.pairs ≤ out.limit
  pub trace : (rest : List ℕ) (turns : List Turn) (reply : Reply) → HandsOverBuckets t.shape before.cpu Says rest out.pairs turns reply
      → HandsOverBuckets t.shape before.cpu Says (buckets ++ rest) [] (map (turn_of t.shape) told ++ turns) reply

pub handed_none : (t : TableView) (Says : Callback) (p : PassView) (out : PairsSoFar) → out.pairs ≡ [] → out.limit ≡ t.shape.elements → HandedSo t Says [] p p out
handed_none t Says p out none limit_is = record {
  steps = [];
  told = [];
  lost = [];
  looked = looked_nowhere t p;
  limit_is = limit_is;
  few = omega (arith, ap (length {A = List ℕ × List ℕ}) none);
  trace = λ rest turns reply later. subst (λ (pairs : List (List ℕ × List ℕ)). HandsOverBuckets t.shape p.cpu Says rest pairs turns reply) none later;
}

turns_one : (shape : Shape) (first : List Turned) (told : Turned) (turns : List Turn) → map (turn_of shape) first ++ turn_of shape told ∷ turns ≡ map (turn_of shape) (first ++ told ∷ []) ++ turns
turns_one shape first told turns = sym (ap (λ (l : List Turn). l ++ turns) (map-append (turn_of shape) first (told ∷ [])) ∙ append_assoc (map (turn_of shape) first) (turn_of shape told ∷ []) turns)

module _ {t : TableView} {Says : Callback} {buckets : List ℕ} {p q : PassView} {out : PairsSoFar} (bucket : ℕ) (so_far : HandedSo t Says buckets p q out) where
  abbrev walk_in : Walked → Turn
  walk_in walked = on_lock (Bucket bucket) (parts.Bucket (Walk false (t.shape.elements - length out.pairs) walked))

  -- its turn, with the room that was left
  turn_is : {r : PassView} {walked : Walked} (into : LooksInto t bucket q r (Walk false (out.limit - length out.pairs) walked)) → turn_of t.shape into.told ≡ walk_in walked
  turn_is {r} {walked} into = into.turn ∙ ap (λ (n : ℕ). on_lock (Bucket bucket) (parts.Bucket (Walk false (n - length out.pairs) walked))) so_far.limit_is

  -- what was handed over is told on the CPU that began
  on_cpu : (all : List Stored) (over : List (List ℕ × List ℕ)) (stopped : Bool) → HandsOver Says (map (handed t.shape q.cpu) all) over stopped → HandsOver Says (map (handed t.shape p.cpu) all) over stopped
  on_cpu all over stopped hands = subst (λ (cpu : ℕ). HandsOver Says (map (handed t.shape cpu) all) over stopped) so_far.looked.went.made.goes.cpu hands

  whole_more : {r : PassView} {now : PairsSoFar} (all : List Stored) (over : List (List ℕ × List ℕ)) → LooksInto t bucket q r (Walk false (out.limit - length out.pairs) (Taken all)) → HandsOver Says (map (handed t.shape q.cpu) all) over false → now ≡ with_pairs out over → length now.pairs ≤ now.limit
      → HandedSo t Says (buckets ++ bucket ∷ []) p r now
  whole_more {r} {now} all over into hands now_is few = record {
    steps = so_far.steps ++ into.step ∷ [];
    told = so_far.told ++ into.told ∷ [];
    lost = into.lost ++ so_far.lost;
    looked = looked_on so_far.looked into.looked;
    limit_is = ap (λ (o : PairsSoFar). o.limit) now_is ∙ so_far.limit_is;
    few = few;
    trace = λ rest turns reply later.
        subst (λ (z : List ℕ × List Turn). HandsOverBuckets t.shape p.cpu Says z.0 [] z.1 reply) (λ i. (sym (append_assoc buckets (bucket ∷ []) rest) i, turns_one t.shape so_far.told into.told turns i))
        (so_far.trace (bucket ∷ rest) (turn_of t.shape into.told ∷ turns) reply
        (Taken all, turns, (ap (λ (turn : Turn). turn ∷ turns) (turn_is into), (over, false, (on_cpu all over false hands, subst (λ (pairs : List (List ℕ × List ℕ)). HandsOverBuckets t.shape p.cpu Says rest pairs turns reply) (ap (λ (o : PairsSoFar). o.pairs) now_is) later)))));
  }

  -- the walk ends with this bucket's turn
  ends_here : {r : PassView} {walked : Walked} (from : List ℕ) (reply_pairs : List (List ℕ × List ℕ)) (next : ℕ) (into : LooksInto t bucket q r (Walk false (out.limit - length out.pairs) walked)) → buckets ++ bucket ∷ from ≡ buckets_from t.shape 0
      → HandsOverBuckets t.shape p.cpu Says (bucket ∷ from) out.pairs (turn_of t.shape into.told ∷ []) (Batch None reply_pairs next) → length reply_pairs ≤ t.shape.elements → next ≤ t.shape.buckets → HandsOn t Says p r reply_pairs next
  ends_here from reply_pairs next into all last few there = record {
    few = few;
    there = there;
    steps = so_far.steps ++ into.step ∷ [];
    told = so_far.told ++ into.told ∷ [];
    lost = into.lost ++ so_far.lost;
    looked = looked_on so_far.looked into.looked;
    trace = subst (λ (z : List ℕ × List Turn). HandsOverBuckets t.shape p.cpu Says z.0 [] z.1 (Batch None reply_pairs next)) (λ i. (all i, (turns_one t.shape so_far.told into.told [] ∙ append_nil (map (turn_of t.shape) (so_far.told ++ into.told ∷ []))) i))
        (so_far.trace (bucket ∷ from) (turn_of t.shape into.told ∷ []) (Batch None reply_pairs next) last);
  }

  over_here : {r : PassView} {now : PairsSoFar} (n : ℕ) (from : List ℕ) → LooksInto t bucket q r (Walk false (out.limit - length out.pairs) (Over n)) → now ≡ out → bucket < t.shape.buckets → buckets ++ bucket ∷ from ≡ buckets_from t.shape 0 → HandsOn t Says p r now.pairs bucket
  over_here {r} {now} n from into now_is there all =
      subst (λ (pairs : List (List ℕ × List ℕ)). HandsOn t Says p r pairs bucket) (ap (λ (o : PairsSoFar). o.pairs) (sym now_is))
      (ends_here from out.pairs bucket into all (Over n, [], (ap (λ (turn : Turn). turn ∷ []) (turn_is into), (refl, refl))) (omega (arith, so_far.few, so_far.limit_is)) (omega (arith, there)))

  stopped_here : {r : PassView} {now : PairsSoFar} (all_told : List Stored) (over : List (List ℕ × List ℕ)) (from : List ℕ) → LooksInto t bucket q r (Walk false (out.limit - length out.pairs) (Taken all_told)) → HandsOver Says (map (handed t.shape q.cpu) all_told) over true → now ≡ with_pairs out over
      → length now.pairs ≤ now.limit → bucket < t.shape.buckets → buckets ++ bucket ∷ from ≡ buckets_from t.shape 0 → HandsOn t Says p r now.pairs (suc bucket)
  stopped_here {r} {now} all_told over from into hands now_is few there all =
      subst (λ (pairs : List (List ℕ × List ℕ)). HandsOn t Says p r pairs (suc bucket)) (ap (λ (o : PairsSoFar). o.pairs) (sym now_is))
      (ends_here from (out.pairs ++ over) (suc bucket) into all (Taken all_told, [], (ap (λ (turn : Turn). turn ∷ []) (turn_is into), (over, true, (on_cpu all_told over true hands, (refl, refl)))))
      (omega (arith, few, so_far.limit_is, ap (λ (o : PairsSoFar). o.limit) now_is, ap (λ (o : PairsSoFar). length o.pairs) now_is)) (omega (arith, there)))

  -- by whether the walk ends with it
  goes_on : {r : PassView} (now : PairsSoFar) (walked : Walked) → LooksInto t bucket q r (Walk false (out.limit - length out.pairs) walked) → EndsWith t.shape q.cpu Says walked ends.Not out now → length now.pairs ≤ now.limit → HandedSo t Says (buckets ++ bucket ∷ []) p r now
  goes_on now (Over n) into is few = absurd cc
  goes_on now (Taken all) into (over, true, (hands, now_is, is)) few = absurd cc
  goes_on now (Taken all) into (over, false, (hands, now_is, is)) few = whole_more all over into hands now_is few

  no_room : {r : PassView} (now : PairsSoFar) (walked : Walked) (from : List ℕ) → LooksInto t bucket q r (Walk false (out.limit - length out.pairs) walked) → EndsWith t.shape q.cpu Says walked ends.Here out now → bucket < t.shape.buckets → buckets ++ bucket ∷ from ≡ buckets_from t.shape 0 → HandsOn t Says p r now.pairs bucket
  no_room now (Over n) from into is there all = over_here n from into is.1 there all
  no_room now (Taken told) from into (over, true, (hands, now_is, is)) there all = absurd cc
  no_room now (Taken told) from into (over, false, (hands, now_is, is)) there all = absurd cc

  was_stopped : {r : PassView} (now : PairsSoFar) (walked : Walked) (from : List ℕ) → LooksInto t bucket q r (Walk false (out.limit - length out.pairs) walked) → EndsWith t.shape q.cpu Says walked ends.Behind out now → length now.pairs ≤ now.limit → bucket < t.shape.buckets → buckets ++ bucket ∷ from ≡ buckets_from t.shape 0 → HandsOn t Says p r now.pairs (suc bucket)
  was_stopped now (Over n) from into is few there all = absurd cc
  was_stopped now (Taken told) from into (over, true, (hands, now_is, is)) few there all = stopped_here told over from into hands now_is few there all
  was_stopped now (Taken told) from into (over, false, (hands, now_is, is)) few there all = absurd cc

-- The loop over the buckets, where it stands at one

abbrev pub HandedBefore : TableView → Callback → ℕ → ℕ → PassView → PassView → PairsSoFar → Type 0
HandedBefore t Says bucket to p q out = HandedSo t Says (range_before 0 bucket to) p q out

pub hand_begins : (t : TableView) (Says : Callback) (to : ℕ) (p : PassView) (out : PairsSoFar) → out.pairs ≡ [] → out.limit ≡ t.shape.elements → HandedBefore t Says 0 to p p out
hand_begins t Says to p out none limit_is = subst (λ (l : List ℕ). HandedSo t Says l p p out) (before_none 0 to) (handed_none t Says p out none limit_is)

pub hand_more : {t : TableView} {Says : Callback} {p q r : PassView} {out now : PairsSoFar} (bucket to : ℕ) (ended : Ended) → ended ≡ ends.Not → bucket < to → HandedBefore t Says bucket to p q out → HandsIn t Says bucket q r ended out now → HandedBefore t Says (bucket + 1) to p r now
hand_more {t} {Says} {p} {q} {r} {out} {now} bucket to ended is before so_far hands =
    subst (λ (l : List ℕ). HandedSo t Says l p r now) (before_more 0 bucket to (omega arith) before) (goes_on bucket so_far now hands.walked hands.into (subst (λ (e : Ended). EndsWith t.shape q.cpu Says hands.walked e out now) is hands.ends_with) hands.few)

pub hand_over : {t : TableView} {Says : Callback} {p q r : PassView} {out now : PairsSoFar} (bucket to : ℕ) (ended : Ended) → ended ≡ ends.Here → to ≡ t.shape.buckets → bucket < to → HandedBefore t Says bucket to p q out → HandsIn t Says bucket q r ended out now → HandsOn t Says p r now.pairs bucket
hand_over {t} {Says} {p} {q} {r} {out} {now} bucket to ended is to_is before so_far hands =
    no_room bucket so_far now hands.walked (range_with_len (bucket + 1) (to - (bucket + 1))) hands.into (subst (λ (e : Ended). EndsWith t.shape q.cpu Says hands.walked e out now) is hands.ends_with) (omega (arith, before, to_is)) (before_here t.shape 0 bucket to to_is (omega arith) before)

pub hand_stopped : {t : TableView} {Says : Callback} {p q r : PassView} {out now : PairsSoFar} (bucket to : ℕ) (ended : Ended) → ended ≡ ends.Behind → to ≡ t.shape.buckets → bucket < to → HandedBefore t Says bucket to p q out → HandsIn t Says bucket q r ended out now → HandsOn t Says p r now.pairs (bucket + 1)
hand_stopped {t} {Says} {p} {q} {r} {out} {now} bucket to ended is to_is before so_far hands =
    let behind : suc bucket ≡ bucket + 1 = omega arith in
    subst (λ (next : ℕ). HandsOn t Says p r now.pairs next) behind (was_stopped bucket so_far now hands.walked (range_with_len (bucket + 1) (to - (bucket + 1))) hands.into (subst (λ (e : Ended). EndsWith t.shape q.cpu Says hands.walked e out now) is hands.ends_with) hands.few (omega (arith, before, to_is)) (before_here t.shape 0 bucket to to_is (omega arith) before))

pub hand_end : {t : TableView} {Says : Callback} {p q : PassView} {out : PairsSoFar} (bucket to : ℕ) → to ≡ t.shape.buckets → to ≤ bucket → HandedBefore t Says bucket to p q out → HandsOn t Says p q out.pairs to
hand_end {t} {Says} {p} {q} {out} bucket to to_is past so_far = record {
  steps = so_far.steps;
  told = so_far.told;
  lost = so_far.lost;
  looked = so_far.looked;
  trace = subst (λ (z : List ℕ × List Turn × ℕ). HandsOverBuckets t.shape p.cpu Says z.0 [] z.1 (Batch None out.pairs z.2)) (λ i. (before_all t.shape 0 bucket to to_is past i, append_nil (map (turn_of t.shape) so_far.told) i, sym to_is i)) (so_far.trace [] [] (Batch None out.pairs t.shape.buckets) (refl, refl));
  few = omega (arith, so_far.few, so_far.limit_is);
  there = omega (arith, to_is);
}

-- a walk that was made
pub walked_all : {t : TableView} {Says : Callback} {p q : PassView} {flags : ℕ} (over : Handed) (pairs : List (List ℕ × List ℕ)) → over.taken ≡ pairs → flags ≡ 0 → HandsOn t Says p q pairs over.next → WalksOver t Says p q flags (Ok over)
walked_all {t} {Says} {p} {q} {flags} over pairs taken_is none hands = (
  none,
  omega (arith, hands.few, ap (length {A = List ℕ × List ℕ}) taken_is),
  hands.there,
  record {
    steps = hands.steps;
    told = hands.told;
    lost = hands.lost;
    looked = hands.looked;
    trace = subst (λ (z : ℕ × List (List ℕ × List ℕ)). IsHandingTrace t.shape p.cpu Says z.0 (map (turn_of t.shape) hands.told) (Batch None z.1 over.next)) (λ i. (sym none i, sym taken_is i)) hands.trace;
  },
)
