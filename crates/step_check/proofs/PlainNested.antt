-- The turns of each call on a map that doesn't evict are nested.
use Rattle.std.proofs.Common.{◌≡◌, ℕ, suc, ◌+◌, ◌-◌, ◌⊎◌, inl, inr, Bool, true, false, cond, eqb, List, [], ◌∷◌, ◌++◌, map, length, Option, None, Some, refl, ap, ◌∙◌, sym, subst, ⊎_elim, arith}
use Rattle.std.specs.Prelude.{MatchBool, MatchOption, All, filter, unwrap_or}
use Rattle.std.proofs.lemmas.Bool.{eqb-true}
use Rattle.std.proofs.lemmas.List.{map-append}
use Rattle.std.proofs.lemmas.List.Elements.{All-head, All-rest}
use Rattle.map_types.specs.declared.attr.Shape.{Shape}
use Rattle.map_types.specs.declared.call.Verb.{Verb}
use Rattle.map_types.specs.declared.call.Verb.TheVariants as verbs
use Rattle.map_types.specs.declared.kind.DomainId.TheVariants.{Bucket}
use Rattle.map_types.specs.declared.refusal.Errno.{Errno}
use Rattle.map_types.specs.declared.reply.Reply.{Reply}
use Rattle.map_types.specs.declared.reply.Reply.TheVariants.{Value, Count}
use Rattle.map_types.specs.Kind.{is_lru}
use Rattle.map_types.specs.ElementLists.{times}
use Rattle.place_words.specs.declared.bucket_part.BucketPart.TheVariants.{Lookup, Update, Delete, Take, Next, First, Walk}
use Rattle.place_words.specs.declared.bucket_part.NextFound.{NextFound}
use Rattle.place_words.specs.declared.bucket_part.NextFound.TheVariants as nexts
use Rattle.place_words.specs.declared.bucket_part.Put.{Put}
use Rattle.place_words.specs.declared.bucket_part.Put.TheVariants as puts
use Rattle.place_words.specs.declared.bucket_part.Walked.{Walked}
use Rattle.place_words.specs.declared.bucket_part.Walked.TheVariants.{Over, Taken}
use Rattle.place_words.specs.declared.free_part.FreePart.TheVariants.{Pushed, Popped}
use Rattle.place_words.specs.declared.history.Part.TheVariants as parts
use Rattle.place_words.specs.Handing.{Callback, HandsOverBuckets, AfterHanding, IsHandingTrace, StopsAt}
use Rattle.place_words.specs.PlainTraces.{found_empty, pushes, LooksFor, IsPlainTrace, element_gone}
use Rattle.place_words.specs.Traces.{IsTrace}
use Rattle.place_words.specs.Turns.{Turn, TurnAt, turns_of, on_lock, on_bucket_of, on_freelist_of, bucket_of_key}
use Rattle.place_words.specs.Walks.{buckets_from, Firsts, GoesOn, IsNextTrace, walked_out, AfterWalk, Walks, IsReadTrace, IsKeyTrace, refused_with, spare_left, Writes, IsWriteBatch, updates_of, deletes_of}
use Rattle.place_words.proofs.BucketLaws.{times_more}
use Rattle.place_words.specs.Interleaving.{Drawn, turn_of}
use Rattle.turn_order.specs.InCalls.{Placed, place, placed_after, is_of, turns_of_call, CallInOrder, AreInOrder}
use Rattle.step_check.proofs.Begun.{Stands}
use Rattle.step_check.proofs.Inside.{pushed_by}
use Rattle.step_check.proofs.Nested.{left_of, Nested, nested_both}
use Rattle.step_check.proofs.InsideCalls.{its, its_stands, CallNested}

either : (b : Bool) {P Q R : Type 0} → MatchBool b P Q → (P → R) → (Q → R) → R
either true may hit miss = hit may
either false may hit miss = miss may

second : (b : Bool) (P Q : Type 0) → b ≡ false → MatchBool b P Q → Q
second b P Q is may = subst (λ (c : Bool). MatchBool c P Q) is may

none_nested : (turns : List Turn) → turns ≡ [] → Nested [] turns
none_nested turns none = subst (λ (l : List Turn). Nested [] l) (sym none) refl

none_at : (turns : List TurnAt) → turns ≡ [] → Nested [] (turns_of turns)
none_at turns none = subst (λ (l : List TurnAt). Nested [] (turns_of l)) (sym none) refl

-- a turn of a bucket that takes nothing out
closes_with : (turn : Turn) (b : ℕ) (rest : List Turn) → turn.lock ≡ Bucket b → pushed_by turn.part ≡ [] → left_of turn.part ≡ [] → Nested [] rest → Nested [] (turn ∷ rest)
closes_with turn b rest lock_is quiet left nested = inl (record { bucket = b; lock_is = lock_is; quiet = quiet; pays = λ e. ap (times e) (sym left) }, nested)

empty_nested : (cpus : List ℕ) → Nested [] (found_empty cpus)
empty_nested [] = refl
empty_nested (c ∷ cpus) = inr (inl (record { cpu = c; lock_is = refl; quiet = refl; nothing = refl }, empty_nested cpus))

pop_nested : (giver e : ℕ) → Nested [] (on_freelist_of giver (Popped e) ∷ [])
pop_nested giver e = inr (inl (record { cpu = giver; lock_is = refl; quiet = refl; nothing = refl }, refl))

-- pushes, and then the turn of a bucket that takes out what they push
pushes_nested : (cpu : ℕ) (turn : Turn) (b : ℕ) (gone es : List ℕ) → turn.lock ≡ Bucket b → pushed_by turn.part ≡ [] → ((e : ℕ) → times e gone + times e es ≡ times e (left_of turn.part))
    → Nested es (map (λ e. on_freelist_of cpu (Pushed e)) gone ++ turn ∷ [])
pushes_nested cpu turn b [] es lock_is quiet pays = inl (record { bucket = b; lock_is = lock_is; quiet = quiet; pays = λ e. omega (arith, pays e) }, refl)
pushes_nested cpu turn b (x ∷ gone) es lock_is quiet pays =
    inr (inr (
      x,
      record { cpu = cpu; lock_is = refl; pushes = refl; inner = refl },
      pushes_nested cpu turn b gone (x ∷ es) lock_is quiet (λ e. omega (arith, pays e, times_more e x gone, times_more e x es)),
    ))

looks_nested : (shape : Shape) (cpu : ℕ) (spare : Option ℕ) (put : Put) (turns : List Turn) → LooksFor shape cpu spare put turns → Nested [] turns
looks_nested shape cpu spare (puts.Added e) turns looks =
    subst (λ (l : List Turn). Nested [] l) (sym looks.turns_are)
    (nested_both [] (found_empty looks.passed) (on_freelist_of looks.giver (Popped e) ∷ []) (empty_nested looks.passed) (pop_nested looks.giver e))
looks_nested shape cpu spare (puts.Replaced new old) turns looks = none_nested turns looks.0
looks_nested shape cpu spare (puts.Written e) turns looks = none_nested turns looks
looks_nested shape cpu spare puts.Exists turns looks = none_nested turns looks
looks_nested shape cpu spare puts.Absent turns looks = none_nested turns looks
looks_nested shape cpu spare puts.Full turns looks = subst (λ (l : List Turn). Nested [] l) (sym looks) (empty_nested _)

delete_nested : (shape : Shape) (cpu : ℕ) (key : List ℕ) (gone : Option ℕ) → Nested [] (pushes cpu gone ++ on_bucket_of shape key (Delete key gone) ∷ [])
delete_nested shape cpu key None = closes_with (on_bucket_of shape key (Delete key None)) (bucket_of_key shape key) [] refl refl refl refl
delete_nested shape cpu key (Some e) = pushes_nested cpu (on_bucket_of shape key (Delete key (Some e))) (bucket_of_key shape key) (e ∷ []) [] refl refl (λ d. omega arith)

take_nested : (shape : Shape) (cpu : ℕ) (key : List ℕ) (gone : Option (ℕ × List ℕ)) → Nested [] (pushes cpu (element_gone gone) ++ on_bucket_of shape key (Take key gone) ∷ [])
take_nested shape cpu key None = closes_with (on_bucket_of shape key (Take key None)) (bucket_of_key shape key) [] refl refl refl refl
take_nested shape cpu key (Some gone) = pushes_nested cpu (on_bucket_of shape key (Take key (Some gone))) (bucket_of_key shape key) (gone.0 ∷ []) [] refl refl (λ d. omega arith)

plain_nested : (shape : Shape) (cpu : ℕ) (spare : Option ℕ) (verb : Verb) (turns : List Turn) (reply : Reply) → IsPlainTrace shape cpu spare verb turns reply → Nested [] turns
plain_nested shape cpu spare (verbs.Lookup side key) turns reply trace =
    subst (λ (l : List Turn). Nested [] l) (sym trace.turns_are) (closes_with (on_bucket_of shape key (Lookup side key trace.got)) (bucket_of_key shape key) [] refl refl refl refl)
plain_nested shape cpu spare (verbs.Update side flags key value) turns reply (inl refused) = none_nested turns refused.1
plain_nested shape cpu spare (verbs.Update side flags key value) turns reply (inr made) =
    let trace = made.1 in
    subst (λ (l : List Turn). Nested [] l) (sym trace.turns_are)
    (nested_both [] trace.looks (on_bucket_of shape key (Update side flags key value None trace.put) ∷ []) (looks_nested shape cpu spare trace.put trace.looks trace.looks_are)
    (closes_with (on_bucket_of shape key (Update side flags key value None trace.put)) (bucket_of_key shape key) [] refl refl refl refl))
plain_nested shape cpu spare (verbs.Delete key) turns reply trace = subst (λ (l : List Turn). Nested [] l) (sym trace.turns_are) (delete_nested shape cpu key trace.gone)
plain_nested shape cpu spare (verbs.Take key) turns reply trace = subst (λ (l : List Turn). Nested [] l) (sym trace.turns_are) (take_nested shape cpu key trace.gone)
plain_nested shape cpu spare (verbs.Next key) turns reply trace = absurd trace
plain_nested shape cpu spare (verbs.BatchRead remove count start flags) turns reply trace = absurd trace
plain_nested shape cpu spare (verbs.BatchUpdate flags pairs) turns reply trace = absurd trace
plain_nested shape cpu spare (verbs.BatchDelete flags keys) turns reply trace = absurd trace
plain_nested shape cpu spare (verbs.Each flags stop) turns reply trace = absurd trace

-- Next key
firsts_nested : (buckets : List ℕ) (turns : List Turn) (reply : Reply) → Firsts buckets turns reply → Nested [] turns
firsts_nested [] turns reply firsts = none_nested turns firsts.0
firsts_nested (bucket ∷ buckets) turns reply firsts =
    subst (λ (l : List Turn). Nested [] l) (sym firsts.2)
    (closes_with (on_lock (Bucket bucket) (parts.Bucket (First firsts.0))) bucket firsts.1 refl refl refl (by firsts.1 (λ more. firsts_nested buckets firsts.1 reply more) firsts.0 firsts.3))
  where
    by : (rest : List Turn) → (Firsts buckets rest reply → Nested [] rest) → (key : Option (List ℕ)) → MatchOption key (Firsts buckets rest reply) (λ first. (rest ≡ []) × (reply ≡ Value first)) → Nested [] rest
    by rest go None may = go may
    by rest go (Some first) may = none_nested rest may.0

goes_on_nested : (shape : Shape) (key : List ℕ) (found : NextFound) (turns : List Turn) (reply : Reply) → GoesOn shape key found turns reply → Nested [] turns
goes_on_nested shape key nexts.Absent turns reply goes = firsts_nested (buckets_from shape 0) turns reply goes
goes_on_nested shape key nexts.Last turns reply goes = firsts_nested (buckets_from shape (bucket_of_key shape key + 1)) turns reply goes
goes_on_nested shape key (nexts.Key next) turns reply goes = none_nested turns goes.0

next_nested : (shape : Shape) (key : Option (List ℕ)) (turns : List Turn) (reply : Reply) → IsNextTrace shape key turns reply → Nested [] turns
next_nested shape None turns reply trace = firsts_nested (buckets_from shape 0) turns reply trace
next_nested shape (Some key) turns reply trace =
    subst (λ (l : List Turn). Nested [] l) (sym trace.turns_are)
    (closes_with (on_bucket_of shape key (Next key trace.found)) (bucket_of_key shape key) trace.rest refl refl refl (goes_on_nested shape key trace.found trace.rest reply trace.goes_on))

-- Batches
left_by_walk : (remove : Bool) (room : ℕ) (result : Walked) → left_of (parts.Bucket (Walk remove room result)) ≡ walked_out remove result
left_by_walk remove room (Over n) = refl
left_by_walk remove room (Taken all) = refl

both_at : (one rest turns : List TurnAt) → turns ≡ one ++ rest → Nested [] (turns_of one) → Nested [] (turns_of rest) → Nested [] (turns_of turns)
both_at one rest turns is first more =
    subst (λ (l : List Turn). Nested [] l) (sym (ap (λ (l : List TurnAt). turns_of l) is ∙ map-append (λ (at : TurnAt). at.turn) one rest)) (nested_both [] (turns_of one) (turns_of rest) first more)

module _ (shape : Shape) (plain : is_lru shape.kind ≡ false) where
  walks_nested : (cpu : ℕ) (remove : Bool) (limit : ℕ) (buckets : List ℕ) (taken : List (List ℕ × List ℕ)) (turns : List TurnAt) (reply : Reply) → Walks shape cpu remove limit buckets taken turns reply → Nested [] (turns_of turns)
  walks_nested cpu remove limit [] taken turns reply walks = none_at turns walks.0
  walks_nested cpu remove limit (bucket ∷ buckets) taken turns reply walks =
      let turn : Turn = on_lock (Bucket bucket) (parts.Bucket (Walk remove (limit - length taken) walks.0)) in
      both_at walks.1 walks.2 turns walks.3.0
      (subst (λ (l : List Turn). Nested [] l) (sym (second (is_lru shape.kind) _ _ plain walks.3.1))
      (pushes_nested cpu turn bucket (walked_out remove walks.0) [] refl refl (λ e. omega (arith, ap (times e) (left_by_walk remove (limit - length taken) walks.0)))))
      (by walks.2 walks.0 (λ now more. walks_nested cpu remove limit buckets now walks.2 reply more) walks.3.2)
    where
      by : (rest : List TurnAt) (result : Walked) → ((now : List (List ℕ × List ℕ)) → Walks shape cpu remove limit buckets now rest reply → Nested [] (turns_of rest))
          → AfterWalk bucket taken rest reply result (λ now. Walks shape cpu remove limit buckets now rest reply) → Nested [] (turns_of rest)
      by rest (Over n) go after = none_at rest after.0
      by rest (Taken all) go after = go _ after

  read_nested : (cpu : ℕ) (remove : Bool) (count : ℕ) (start : Option ℕ) (flags : ℕ) (turns : List TurnAt) (reply : Reply) → IsReadTrace shape cpu remove count start flags turns reply → Nested [] (turns_of turns)
  read_nested cpu remove count start flags turns reply trace =
      either (eqb flags 0) trace
      (λ asked. either (eqb count 0) asked
      (λ none. none_at turns none.0)
      (λ some. either (Rattle.std.proofs.Common.ltb (unwrap_or start 0) shape.buckets) some
      (λ walks. walks_nested cpu remove _ _ [] turns reply walks)
      (λ none. none_at turns none.0)))
      (λ refused. none_at turns refused.0)

  key_nested : (cpu : ℕ) (spare : Option ℕ) (verb : Verb) (turns : List TurnAt) (reply : Reply) → IsKeyTrace shape cpu spare verb turns reply → Nested [] (turns_of turns)
  key_nested cpu spare verb turns reply trace = plain_nested shape cpu spare verb (turns_of turns) reply (second (is_lru shape.kind) _ _ plain trace)

  writes_nested : (cpu : ℕ) (spare : Option ℕ) (entries : List Verb) (done : ℕ) (turns : List TurnAt) (reply : Reply) → Writes shape cpu spare entries done turns reply → Nested [] (turns_of turns)
  writes_nested cpu spare [] done turns reply writes = none_at turns writes.0
  writes_nested cpu spare (entry ∷ entries) done turns reply writes =
      both_at writes.1 writes.2 turns writes.3.0 (key_nested cpu spare entry writes.1 writes.0 writes.3.1)
      (by writes.2 (refused_with writes.0) (λ more. writes_nested cpu (spare_left shape spare writes.1) entries (suc done) writes.2 reply more) writes.3.2)
    where
      by : (rest : List TurnAt) (refused : Option Errno) {P : Type 0} → (P → Nested [] (turns_of rest)) → MatchOption refused P (λ errno. (rest ≡ []) × (reply ≡ Count (Some errno) done)) → Nested [] (turns_of rest)
      by rest None go may = go may
      by rest (Some errno) go may = none_at rest may.0

  batch_nested : (cpu : ℕ) (spare : Option ℕ) (flags : ℕ) (entries : List Verb) (turns : List TurnAt) (reply : Reply) → IsWriteBatch shape cpu spare flags entries turns reply → Nested [] (turns_of turns)
  batch_nested cpu spare flags entries turns reply trace = either (eqb flags 0) trace (λ writes. writes_nested cpu spare entries 0 turns reply writes) (λ refused. none_at turns refused.0)

  -- Walks over all elements
  hands_nested : (cpu : ℕ) (Says : Callback) (buckets : List ℕ) (before : List (List ℕ × List ℕ)) (turns : List Turn) (reply : Reply) → HandsOverBuckets shape cpu Says buckets before turns reply → Nested [] turns
  hands_nested cpu Says [] before turns reply hands = none_nested turns hands.0
  hands_nested cpu Says (bucket ∷ buckets) before turns reply hands =
      subst (λ (l : List Turn). Nested [] l) (sym hands.2.0)
      (closes_with (on_lock (Bucket bucket) (parts.Bucket (Walk false (shape.elements - length before) hands.0))) bucket hands.1 refl refl (left_by_walk false (shape.elements - length before) hands.0 ∙ none_walked hands.0)
      (by hands.1 hands.0 (λ now more. hands_nested cpu Says buckets now hands.1 reply more) hands.2.1))
    where
      none_walked : (result : Walked) → walked_out false result ≡ []
      none_walked (Over n) = refl
      none_walked (Taken all) = refl

      by : (rest : List Turn) (result : Walked) → ((now : List (List ℕ × List ℕ)) → HandsOverBuckets shape cpu Says buckets now rest reply → Nested [] rest)
          → AfterHanding shape cpu Says bucket before rest reply result (λ now. HandsOverBuckets shape cpu Says buckets now rest reply) → Nested [] rest
      by rest (Over n) go after = none_nested rest after.0
      by rest (Taken all) go after = either after.1 after.2.1 (λ stopped. none_nested rest stopped.0) (λ more. go _ more)

  handing_nested : (cpu : ℕ) (Says : Callback) (flags : ℕ) (turns : List Turn) (reply : Reply) → IsHandingTrace shape cpu Says flags turns reply → Nested [] turns
  handing_nested cpu Says flags turns reply trace = either (eqb flags 0) trace (λ hands. hands_nested cpu Says _ [] turns reply hands) (λ refused. none_nested turns refused.0)

  -- Any call
  pub trace_nested : (cpu : ℕ) (spare : Option ℕ) (verb : Verb) (turns : List TurnAt) (reply : Reply) → IsTrace shape cpu spare verb turns reply → Nested [] (turns_of turns)
  trace_nested cpu spare (verbs.Lookup side key) turns reply trace = key_nested cpu spare (verbs.Lookup side key) turns reply trace
  trace_nested cpu spare (verbs.Update side flags key value) turns reply trace = key_nested cpu spare (verbs.Update side flags key value) turns reply trace
  trace_nested cpu spare (verbs.Delete key) turns reply trace = key_nested cpu spare (verbs.Delete key) turns reply trace
  trace_nested cpu spare (verbs.Take key) turns reply trace = key_nested cpu spare (verbs.Take key) turns reply trace
  trace_nested cpu spare (verbs.Next key) turns reply trace = next_nested shape key (turns_of turns) reply trace
  trace_nested cpu spare (verbs.BatchRead remove count start flags) turns reply trace = read_nested cpu remove count start flags turns reply trace
  trace_nested cpu spare (verbs.BatchUpdate flags pairs) turns reply trace = batch_nested cpu spare flags (updates_of pairs) turns reply trace
  trace_nested cpu spare (verbs.BatchDelete flags keys) turns reply trace = batch_nested cpu spare flags (deletes_of keys) turns reply trace
  trace_nested cpu spare (verbs.Each flags stop) turns reply trace = handing_nested cpu (StopsAt stop) flags (turns_of turns) reply trace

-- the turns of a call, in an order, without what came before each on its lock
pub its_turns : (call : ℕ) (before turns : List Drawn) → turns_of (map (λ (placed : Placed). placed.at) (filter (is_of call) (placed_after before turns))) ≡ map turn_of (its call turns)
its_turns call before [] = refl
its_turns call before (x ∷ later) = by (eqb x.entry.call call) (its_turns call (before ++ x ∷ []) later)
  where
    by : (b : Bool) → turns_of (map (λ (placed : Placed). placed.at) (filter (is_of call) (placed_after (before ++ x ∷ []) later))) ≡ map turn_of (its call later)
        → turns_of (map (λ (placed : Placed). placed.at) (cond b (place before x ∷ filter (is_of call) (placed_after (before ++ x ∷ []) later)) (filter (is_of call) (placed_after (before ++ x ∷ []) later))))
        ≡ map turn_of (cond b (x ∷ its call later) (its call later))
    by true rest = ap (λ (l : List Turn). turn_of x ∷ l) rest
    by false rest = rest

-- of all turns one that stands among them
pub all_stand : (P : Drawn → Type 0) (turns : List Drawn) → All P turns → (y : Drawn) → Stands y turns → P y
all_stand P [] all y at = absurd at
all_stand P (x ∷ later) all y (inl is) = subst P is (All-head P x later all)
all_stand P (x ∷ later) all y (inr at) = all_stand P later (All-rest P x later (x ∷ later) refl all) y at

pub record SomeOf (turns : List Drawn) (call : ℕ) : Type 0 where
  pub turn : Drawn
  pub stands : Stands turn turns
  pub is : turn.entry.call ≡ call

-- a call has a turn or none
pub some_or_none : (call : ℕ) (turns : List Drawn) → SomeOf turns call ⊎ (its call turns ≡ [])
some_or_none call [] = inr refl
some_or_none call (x ∷ later) = by (eqb x.entry.call call) refl (some_or_none call later)
  where
    by : (b : Bool) → eqb x.entry.call call ≡ b → SomeOf later call ⊎ (its call later ≡ []) → SomeOf (x ∷ later) call ⊎ (cond b (x ∷ its call later) (its call later) ≡ [])
    by true is rest = inl (record { turn = x; stands = inl refl; is = eqb-true x.entry.call call is })
    by false is (inl some) = inl (record { turn = some.turn; stands = inr some.stands; is = some.is })
    by false is (inr none) = inr none

-- Each call of turns in the order of their tickets is nested.
pub calls_nested : (shape : Shape) → is_lru shape.kind ≡ false → (turns : List Drawn) → AreInOrder shape turns → (call : ℕ) → CallNested turns call
calls_nested shape plain turns in_order call = ⊎_elim (λ (some : SomeOf turns call). by some) (λ (none : its call turns ≡ []). nothing none) (some_or_none call turns)
  where
    nothing : its call turns ≡ [] → CallNested turns call
    nothing none = record {
      cpu = 0;
      of = λ y at. absurd (subst (λ (l : List Drawn). Stands y l) none at);
      nested = subst (λ (l : List Drawn). Nested [] (map turn_of l)) (sym none) refl;
    }

    by : SomeOf turns call → CallNested turns call
    by some =
        let c : CallInOrder shape turns call = subst (CallInOrder shape turns) some.is (all_stand (λ (y : Drawn). CallInOrder shape turns y.entry.call) turns in_order some.turn some.stands) in
        record {
          cpu = c.cpu;
          of = λ y at. let here = its_stands call turns y at in (all_stand (λ (d : Drawn). d.entry.call ≡ call → d.entry.cpu ≡ c.cpu) turns c.all_its y here.0 here.1, here.1);
          nested = subst (λ (l : List Turn). Nested [] l) (its_turns call [] turns) (trace_nested shape plain c.cpu c.spare c.verb (turns_of_call call turns) c.reply c.trace);
        }
