-- What a CPU of a map that doesn't evict has in hand between its turns: its spare, and what it has popped. Of each call the turns use what
-- the CPU has, and leave it its spare alone.
use Rattle.std.proofs.Common.{◌≡◌, ℕ, suc, ◌+◌, ◌-◌, inl, inr, Bool, true, false, cond, eqb, ltb, List, [], ◌∷◌, ◌++◌, map, length, Option, None, Some, refl, ap, ◌∙◌, sym, subst}
use Rattle.std.specs.Prelude.{MatchBool, MatchOption, unwrap_or}
use Rattle.std.proofs.lemmas.List.{map-append}
use Rattle.map_types.specs.declared.attr.Shape.{Shape}
use Rattle.map_types.specs.declared.call.Verb.{Verb}
use Rattle.map_types.specs.declared.call.Verb.TheVariants as verbs
use Rattle.map_types.specs.declared.kind.DomainId.TheVariants.{Bucket}
use Rattle.map_types.specs.declared.kind.Side.{Side}
use Rattle.map_types.specs.declared.refusal.Errno.{Errno}
use Rattle.map_types.specs.declared.reply.Reply.{Reply}
use Rattle.map_types.specs.declared.reply.Reply.TheVariants.{Value, Count}
use Rattle.map_types.specs.Kind.{is_lru}
use Rattle.place_words.specs.declared.bucket_part.BucketPart.{BucketPart}
use Rattle.place_words.specs.declared.bucket_part.BucketPart.TheVariants.{Lookup, Update, Delete, Take, Next, First, Walk, Evict}
use Rattle.place_words.specs.declared.bucket_part.NextFound.{NextFound}
use Rattle.place_words.specs.declared.bucket_part.NextFound.TheVariants as nexts
use Rattle.place_words.specs.declared.bucket_part.Put.{Put}
use Rattle.place_words.specs.declared.bucket_part.Put.TheVariants as puts
use Rattle.place_words.specs.declared.bucket_part.Walked.{Walked}
use Rattle.place_words.specs.declared.bucket_part.Walked.TheVariants.{Over, Taken}
use Rattle.place_words.specs.declared.free_part.FreePart.{FreePart}
use Rattle.place_words.specs.declared.free_part.FreePart.TheVariants.{Pushed, Popped, FoundEmpty}
use Rattle.place_words.specs.declared.history.Part.{Part}
use Rattle.place_words.specs.declared.history.Part.TheVariants as parts
use Rattle.place_words.specs.Handing.{Callback, HandsOverBuckets, AfterHanding, IsHandingTrace, StopsAt}
use Rattle.place_words.specs.PlainTraces.{found_empty, pushes, LooksFor, IsPlainTrace, IsPutTrace, element_gone, spare_after, spare_after_part}
use Rattle.place_words.specs.Traces.{IsTrace}
use Rattle.place_words.specs.Turns.{Turn, TurnAt, turns_of, on_lock, on_bucket_of, on_freelist_of, bucket_of_key}
use Rattle.place_words.specs.Walks.{buckets_from, Firsts, GoesOn, IsNextTrace, walked_out, AfterWalk, Walks, IsReadTrace, IsKeyTrace, refused_with, spare_left, Writes, IsWriteBatch, updates_of, deletes_of}

pub record Hand : Type 0 where
  pub spare : Option ℕ
  pub popped : Option ℕ

abbrev pub hand : Option ℕ → Option ℕ → Hand
hand spare popped = record { spare = spare; popped = popped }

-- what a part uses, and what it leaves
abbrev pub MayPut : Hand → Put → Type 0
MayPut h (puts.Added e) = h.popped ≡ Some e
MayPut h (puts.Replaced new old) = h.spare ≡ Some new
MayPut h (puts.Written e) = Unit {0}
MayPut h puts.Exists = Unit {0}
MayPut h puts.Absent = Unit {0}
MayPut h puts.Full = Unit {0}

abbrev pub hand_after_put : Hand → Put → Hand
hand_after_put h (puts.Added e) = hand h.spare None
hand_after_put h (puts.Replaced new old) = hand (Some old) h.popped
hand_after_put h (puts.Written e) = h
hand_after_put h puts.Exists = h
hand_after_put h puts.Absent = h
hand_after_put h puts.Full = h

abbrev pub MayInBucket : Hand → BucketPart → Type 0
MayInBucket h (Lookup side key got) = Unit {0}
MayInBucket h (Update side flags key value offer put) = MayPut h put
MayInBucket h (Delete key removed) = Unit {0}
MayInBucket h (Take key removed) = Unit {0}
MayInBucket h (Next key found) = Unit {0}
MayInBucket h (First key) = Unit {0}
MayInBucket h (Walk remove room result) = Unit {0}
MayInBucket h (Evict e probed) = ⊥

abbrev pub hand_after_bucket : Hand → BucketPart → Hand
hand_after_bucket h (Lookup side key got) = h
hand_after_bucket h (Update side flags key value offer put) = hand_after_put h put
hand_after_bucket h (Delete key removed) = h
hand_after_bucket h (Take key removed) = h
hand_after_bucket h (Next key found) = h
hand_after_bucket h (First key) = h
hand_after_bucket h (Walk remove room result) = h
hand_after_bucket h (Evict e probed) = h

abbrev pub hand_after_free : Hand → FreePart → Hand
hand_after_free h (Pushed e) = h
hand_after_free h (Popped e) = hand h.spare (Some e)
hand_after_free h FoundEmpty = h

abbrev pub MayHand : Hand → Part → Type 0
MayHand h (parts.Bucket part) = MayInBucket h part
MayHand h (parts.Free part) = Unit {0}
MayHand h (parts.Local part) = Unit {0}
MayHand h (parts.Global part) = Unit {0}
MayHand h (parts.Own part) = Unit {0}

abbrev pub hand_after : Hand → Part → Hand
hand_after h (parts.Bucket part) = hand_after_bucket h part
hand_after h (parts.Free part) = hand_after_free h part
hand_after h (parts.Local part) = h
hand_after h (parts.Global part) = h
hand_after h (parts.Own part) = h

-- along turns of a CPU
abbrev pub HandRuns : Hand → List Turn → Hand → Type 0
HandRuns h [] k = h ≡ k
HandRuns h (turn ∷ turns) k = MayHand h turn.part × HandRuns (hand_after h turn.part) turns k

pub hand_both : (h k l : Hand) (xs ys : List Turn) → HandRuns h xs k → HandRuns k ys l → HandRuns h (xs ++ ys) l
hand_both h k l [] ys first second = subst (λ (g : Hand). HandRuns g ys l) (sym first) second
hand_both h k l (x ∷ xs) ys first second = (first.0, hand_both (hand_after h x.part) k l xs ys first.1 second)

-- The spare is the one that traces tell.
spare_of_put : (h : Hand) (part : Part) → (hand_after h part).spare ≡ spare_after_part h.spare part
spare_of_put h (parts.Bucket (Lookup side key got)) = refl
spare_of_put h (parts.Bucket (Update side flags key value offer (puts.Added e))) = refl
spare_of_put h (parts.Bucket (Update side flags key value offer (puts.Replaced new old))) = refl
spare_of_put h (parts.Bucket (Update side flags key value offer (puts.Written e))) = refl
spare_of_put h (parts.Bucket (Update side flags key value offer puts.Exists)) = refl
spare_of_put h (parts.Bucket (Update side flags key value offer puts.Absent)) = refl
spare_of_put h (parts.Bucket (Update side flags key value offer puts.Full)) = refl
spare_of_put h (parts.Bucket (Delete key removed)) = refl
spare_of_put h (parts.Bucket (Take key removed)) = refl
spare_of_put h (parts.Bucket (Next key found)) = refl
spare_of_put h (parts.Bucket (First key)) = refl
spare_of_put h (parts.Bucket (Walk remove room result)) = refl
spare_of_put h (parts.Bucket (Evict e probed)) = refl
spare_of_put h (parts.Free (Pushed e)) = refl
spare_of_put h (parts.Free (Popped e)) = refl
spare_of_put h (parts.Free FoundEmpty) = refl
spare_of_put h (parts.Local part) = refl
spare_of_put h (parts.Global part) = refl
spare_of_put h (parts.Own part) = refl

pub spare_is : (h k : Hand) (turns : List Turn) → HandRuns h turns k → k.spare ≡ spare_after h.spare turns
spare_is h k [] runs = ap (λ (g : Hand). g.spare) (sym runs)
spare_is h k (turn ∷ turns) runs = spare_is (hand_after h turn.part) k turns runs.1 ∙ ap (λ (s : Option ℕ). spare_after s turns) (spare_of_put h turn.part)

-- Turns that use nothing, before others

empty_runs : (cpus : List ℕ) (h k : Hand) (turns : List Turn) → HandRuns h turns k → HandRuns h (found_empty cpus ++ turns) k
empty_runs [] h k turns runs = runs
empty_runs (c ∷ cpus) h k turns runs = (tt, empty_runs cpus h k turns runs)

pushes_run : (cpu : ℕ) (gone : List ℕ) (h k : Hand) (turns : List Turn) → HandRuns h turns k → HandRuns h (map (λ e. on_freelist_of cpu (Pushed e)) gone ++ turns) k
pushes_run cpu [] h k turns runs = runs
pushes_run cpu (e ∷ gone) h k turns runs = (tt, pushes_run cpu gone h k turns runs)

-- The turns of a call

pub record CallHands (spare : Option ℕ) (turns : List Turn) : Type 0 where
  pub last : Option ℕ
  pub runs : HandRuns (hand spare None) turns (hand last None)

abbrev Still : List Turn → Type 0
Still turns = (h : Hand) → HandRuns h turns h

still_hands : (spare : Option ℕ) (turns : List Turn) → Still turns → CallHands spare turns
still_hands spare turns still = record { last = spare; runs = still (hand spare None) }

none_still : (turns : List Turn) → turns ≡ [] → Still turns
none_still turns none = subst Still (sym none) (λ h. refl)

none_at : (turns : List TurnAt) → turns ≡ [] → Still (turns_of turns)
none_at turns none = subst (λ (l : List TurnAt). Still (turns_of l)) (sym none) (λ h. refl)

either : (b : Bool) {P Q R : Type 0} → MatchBool b P Q → (P → R) → (Q → R) → R
either true may hit miss = hit may
either false may hit miss = miss may

second : (b : Bool) (P Q : Type 0) → b ≡ false → MatchBool b P Q → Q
second b P Q is may = subst (λ (c : Bool). MatchBool c P Q) is may

module _ (shape : Shape) (cpu : ℕ) (spare : Option ℕ) (side : Side) (flags : ℕ) (key value : List ℕ) where
  abbrev update : Put → Turn
  update put = on_bucket_of shape key (Update side flags key value None put)

  put_hands : (put : Put) (looks : List Turn) → LooksFor shape cpu spare put looks → CallHands spare (looks ++ update put ∷ [])
  put_hands (puts.Added e) looks are = record {
    last = spare;
    runs = hand_both (hand spare None) (hand spare (Some e)) (hand spare None) looks (update (puts.Added e) ∷ [])
        (subst (λ (l : List Turn). HandRuns (hand spare None) l (hand spare (Some e))) (sym are.turns_are) (empty_runs are.passed (hand spare None) (hand spare (Some e)) (on_freelist_of are.giver (Popped e) ∷ []) (tt, refl)))
        (refl, refl);
  }
  put_hands (puts.Replaced new old) looks are = record {
    last = Some old;
    runs = subst (λ (l : List Turn). HandRuns (hand spare None) (l ++ update (puts.Replaced new old) ∷ []) (hand (Some old) None)) (sym are.0) (are.1, refl);
  }
  put_hands (puts.Written e) looks are = record { last = spare; runs = subst (λ (l : List Turn). HandRuns (hand spare None) (l ++ update (puts.Written e) ∷ []) (hand spare None)) (sym are) (tt, refl) }
  put_hands puts.Exists looks are = record { last = spare; runs = subst (λ (l : List Turn). HandRuns (hand spare None) (l ++ update puts.Exists ∷ []) (hand spare None)) (sym are) (tt, refl) }
  put_hands puts.Absent looks are = record { last = spare; runs = subst (λ (l : List Turn). HandRuns (hand spare None) (l ++ update puts.Absent ∷ []) (hand spare None)) (sym are) (tt, refl) }
  put_hands puts.Full looks are = record {
    last = spare;
    runs = subst (λ (l : List Turn). HandRuns (hand spare None) (l ++ update puts.Full ∷ []) (hand spare None)) (sym are) (empty_runs _ (hand spare None) (hand spare None) (update puts.Full ∷ []) (tt, refl));
  }

delete_still : (shape : Shape) (cpu : ℕ) (key : List ℕ) (gone : Option ℕ) → Still (pushes cpu gone ++ on_bucket_of shape key (Delete key gone) ∷ [])
delete_still shape cpu key None h = (tt, refl)
delete_still shape cpu key (Some e) h = (tt, (tt, refl))

take_still : (shape : Shape) (cpu : ℕ) (key : List ℕ) (gone : Option (ℕ × List ℕ)) → Still (pushes cpu (element_gone gone) ++ on_bucket_of shape key (Take key gone) ∷ [])
take_still shape cpu key None h = (tt, refl)
take_still shape cpu key (Some gone) h = (tt, (tt, refl))

plain_hands : (shape : Shape) (cpu : ℕ) (spare : Option ℕ) (verb : Verb) (turns : List Turn) (reply : Reply) → IsPlainTrace shape cpu spare verb turns reply → CallHands spare turns
plain_hands shape cpu spare (verbs.Lookup side key) turns reply trace = still_hands spare turns (subst Still (sym trace.turns_are) (λ h. (tt, refl)))
plain_hands shape cpu spare (verbs.Update side flags key value) turns reply (inl refused) = still_hands spare turns (none_still turns refused.1)
plain_hands shape cpu spare (verbs.Update side flags key value) turns reply (inr made) =
    let trace : IsPutTrace shape cpu spare side flags key value turns reply = made.1 in
    subst (CallHands spare) (sym trace.turns_are) (put_hands shape cpu spare side flags key value trace.put trace.looks trace.looks_are)
plain_hands shape cpu spare (verbs.Delete key) turns reply trace = still_hands spare turns (subst Still (sym trace.turns_are) (delete_still shape cpu key trace.gone))
plain_hands shape cpu spare (verbs.Take key) turns reply trace = still_hands spare turns (subst Still (sym trace.turns_are) (take_still shape cpu key trace.gone))
plain_hands shape cpu spare (verbs.Next key) turns reply trace = absurd trace
plain_hands shape cpu spare (verbs.BatchRead remove count start flags) turns reply trace = absurd trace
plain_hands shape cpu spare (verbs.BatchUpdate flags pairs) turns reply trace = absurd trace
plain_hands shape cpu spare (verbs.BatchDelete flags keys) turns reply trace = absurd trace
plain_hands shape cpu spare (verbs.Each flags stop) turns reply trace = absurd trace

-- Next key
firsts_still : (buckets : List ℕ) (turns : List Turn) (reply : Reply) → Firsts buckets turns reply → Still turns
firsts_still [] turns reply firsts = none_still turns firsts.0
firsts_still (bucket ∷ buckets) turns reply firsts =
    subst Still (sym firsts.2) (λ h. (tt, by firsts.1 (λ more. firsts_still buckets firsts.1 reply more) firsts.0 firsts.3 h))
  where
    by : (rest : List Turn) → (Firsts buckets rest reply → Still rest) → (key : Option (List ℕ)) → MatchOption key (Firsts buckets rest reply) (λ first. (rest ≡ []) × (reply ≡ Value first)) → Still rest
    by rest go None may = go may
    by rest go (Some first) may = none_still rest may.0

goes_on_still : (shape : Shape) (key : List ℕ) (found : NextFound) (turns : List Turn) (reply : Reply) → GoesOn shape key found turns reply → Still turns
goes_on_still shape key nexts.Absent turns reply goes = firsts_still (buckets_from shape 0) turns reply goes
goes_on_still shape key nexts.Last turns reply goes = firsts_still (buckets_from shape (bucket_of_key shape key + 1)) turns reply goes
goes_on_still shape key (nexts.Key next) turns reply goes = none_still turns goes.0

next_still : (shape : Shape) (key : Option (List ℕ)) (turns : List Turn) (reply : Reply) → IsNextTrace shape key turns reply → Still turns
next_still shape None turns reply trace = firsts_still (buckets_from shape 0) turns reply trace
next_still shape (Some key) turns reply trace =
    subst Still (sym trace.turns_are) (λ h. (tt, goes_on_still shape key trace.found trace.rest reply trace.goes_on h))

-- Batches
split_at : (one rest turns : List TurnAt) → turns ≡ one ++ rest → turns_of turns ≡ turns_of one ++ turns_of rest
split_at one rest turns is = ap turns_of is ∙ map-append (λ (at : TurnAt). at.turn) one rest

both_still : (one rest turns : List TurnAt) → turns ≡ one ++ rest → Still (turns_of one) → Still (turns_of rest) → Still (turns_of turns)
both_still one rest turns is first more = subst Still (sym (split_at one rest turns is)) (λ h. hand_both h h h (turns_of one) (turns_of rest) (first h) (more h))

module _ (shape : Shape) (plain : is_lru shape.kind ≡ false) where
  walks_still : (cpu : ℕ) (remove : Bool) (limit : ℕ) (buckets : List ℕ) (taken : List (List ℕ × List ℕ)) (turns : List TurnAt) (reply : Reply) → Walks shape cpu remove limit buckets taken turns reply → Still (turns_of turns)
  walks_still cpu remove limit [] taken turns reply walks = none_at turns walks.0
  walks_still cpu remove limit (bucket ∷ buckets) taken turns reply walks =
      let turn : Turn = on_lock (Bucket bucket) (parts.Bucket (Walk remove (limit - length taken) walks.0)) in
      both_still walks.1 walks.2 turns walks.3.0
      (subst Still (sym (second (is_lru shape.kind) _ _ plain walks.3.1)) (λ h. pushes_run cpu (walked_out remove walks.0) h h (turn ∷ []) (tt, refl)))
      (by walks.2 walks.0 (λ now more. walks_still cpu remove limit buckets now walks.2 reply more) walks.3.2)
    where
      by : (rest : List TurnAt) (result : Walked) → ((now : List (List ℕ × List ℕ)) → Walks shape cpu remove limit buckets now rest reply → Still (turns_of rest))
          → AfterWalk bucket taken rest reply result (λ now. Walks shape cpu remove limit buckets now rest reply) → Still (turns_of rest)
      by rest (Over n) go after = none_at rest after.0
      by rest (Taken all) go after = go _ after

  read_still : (cpu : ℕ) (remove : Bool) (count : ℕ) (start : Option ℕ) (flags : ℕ) (turns : List TurnAt) (reply : Reply) → IsReadTrace shape cpu remove count start flags turns reply → Still (turns_of turns)
  read_still cpu remove count start flags turns reply trace =
      either (eqb flags 0) trace
      (λ asked. either (eqb count 0) asked
      (λ none. none_at turns none.0)
      (λ some. either (ltb (unwrap_or start 0) shape.buckets) some
      (λ walks. walks_still cpu remove _ _ [] turns reply walks)
      (λ none. none_at turns none.0)))
      (λ refused. none_at turns refused.0)

  key_hands : (cpu : ℕ) (spare : Option ℕ) (verb : Verb) (turns : List TurnAt) (reply : Reply) → IsKeyTrace shape cpu spare verb turns reply → CallHands spare (turns_of turns)
  key_hands cpu spare verb turns reply trace = plain_hands shape cpu spare verb (turns_of turns) reply (second (is_lru shape.kind) _ _ plain trace)

  -- the spare after turns of a call
  pub left_is : (spare : Option ℕ) (turns : List TurnAt) (call : CallHands spare (turns_of turns)) → spare_left shape spare turns ≡ call.last
  left_is spare turns call =
      ap (λ (b : Bool). cond b spare (spare_after spare (turns_of turns))) plain ∙ sym (spare_is (hand spare None) (hand call.last None) (turns_of turns) call.runs)

  writes_hands : (cpu : ℕ) (spare : Option ℕ) (entries : List Verb) (done : ℕ) (turns : List TurnAt) (reply : Reply) → Writes shape cpu spare entries done turns reply → CallHands spare (turns_of turns)
  writes_hands cpu spare [] done turns reply writes = still_hands spare (turns_of turns) (none_at turns writes.0)
  writes_hands cpu spare (entry ∷ entries) done turns reply writes =
      let one : CallHands spare (turns_of writes.1) = key_hands cpu spare entry writes.1 writes.0 writes.3.1 in
      let rest : CallHands one.last (turns_of writes.2) =
      by writes.2 (refused_with writes.0) one.last
      (λ more. subst (λ (s : Option ℕ). CallHands s (turns_of writes.2)) (left_is spare writes.1 one) (writes_hands cpu (spare_left shape spare writes.1) entries (suc done) writes.2 reply more)) writes.3.2 in
      subst (CallHands spare) (sym (split_at writes.1 writes.2 turns writes.3.0))
      (record { last = rest.last; runs = hand_both (hand spare None) (hand one.last None) (hand rest.last None) (turns_of writes.1) (turns_of writes.2) one.runs rest.runs })
    where
      by : (rest : List TurnAt) (refused : Option Errno) (now : Option ℕ) {P : Type 0} → (P → CallHands now (turns_of rest)) → MatchOption refused P (λ errno. (rest ≡ []) × (reply ≡ Count (Some errno) done)) → CallHands now (turns_of rest)
      by rest None now go may = go may
      by rest (Some errno) now go may = still_hands now (turns_of rest) (none_at rest may.0)

  batch_hands : (cpu : ℕ) (spare : Option ℕ) (flags : ℕ) (entries : List Verb) (turns : List TurnAt) (reply : Reply) → IsWriteBatch shape cpu spare flags entries turns reply → CallHands spare (turns_of turns)
  batch_hands cpu spare flags entries turns reply trace =
      either (eqb flags 0) trace (λ writes. writes_hands cpu spare entries 0 turns reply writes) (λ refused. still_hands spare (turns_of turns) (none_at turns refused.0))

  -- Walks over all elements
  over_still : (cpu : ℕ) (Says : Callback) (buckets : List ℕ) (before : List (List ℕ × List ℕ)) (turns : List Turn) (reply : Reply) → HandsOverBuckets shape cpu Says buckets before turns reply → Still turns
  over_still cpu Says [] before turns reply hands = none_still turns hands.0
  over_still cpu Says (bucket ∷ buckets) before turns reply hands =
      subst Still (sym hands.2.0) (λ h. (tt, by hands.1 hands.0 (λ now more. over_still cpu Says buckets now hands.1 reply more) hands.2.1 h))
    where
      by : (rest : List Turn) (result : Walked) → ((now : List (List ℕ × List ℕ)) → HandsOverBuckets shape cpu Says buckets now rest reply → Still rest)
          → AfterHanding shape cpu Says bucket before rest reply result (λ now. HandsOverBuckets shape cpu Says buckets now rest reply) → Still rest
      by rest (Over n) go after = none_still rest after.0
      by rest (Taken all) go after = either after.1 after.2.1 (λ stopped. none_still rest stopped.0) (λ more. go _ more)

  handing_still : (cpu : ℕ) (Says : Callback) (flags : ℕ) (turns : List Turn) (reply : Reply) → IsHandingTrace shape cpu Says flags turns reply → Still turns
  handing_still cpu Says flags turns reply trace = either (eqb flags 0) trace (λ hands. over_still cpu Says _ [] turns reply hands) (λ refused. none_still turns refused.0)

  -- Any call
  pub trace_hands : (cpu : ℕ) (spare : Option ℕ) (verb : Verb) (turns : List TurnAt) (reply : Reply) → IsTrace shape cpu spare verb turns reply → CallHands spare (turns_of turns)
  trace_hands cpu spare (verbs.Lookup side key) turns reply trace = key_hands cpu spare (verbs.Lookup side key) turns reply trace
  trace_hands cpu spare (verbs.Update side flags key value) turns reply trace = key_hands cpu spare (verbs.Update side flags key value) turns reply trace
  trace_hands cpu spare (verbs.Delete key) turns reply trace = key_hands cpu spare (verbs.Delete key) turns reply trace
  trace_hands cpu spare (verbs.Take key) turns reply trace = key_hands cpu spare (verbs.Take key) turns reply trace
  trace_hands cpu spare (verbs.Next key) turns reply trace = still_hands spare (turns_of turns) (next_still shape key (turns_of turns) reply trace)
  trace_hands cpu spare (verbs.BatchRead remove count start flags) turns reply trace = still_hands spare (turns_of turns) (read_still cpu remove count start flags turns reply trace)
  trace_hands cpu spare (verbs.BatchUpdate flags pairs) turns reply trace = batch_hands cpu spare flags (updates_of pairs) turns reply trace
  trace_hands cpu spare (verbs.BatchDelete flags keys) turns reply trace = batch_hands cpu spare flags (deletes_of keys) turns reply trace
  trace_hands cpu spare (verbs.Each flags stop) turns reply trace = still_hands spare (turns_of turns) (handing_still cpu (StopsAt stop) flags (turns_of turns) reply trace)
