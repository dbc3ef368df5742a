-- What walks over the buckets did.
use Rattle.std.proofs.Common.{◌≡◌, ℕ, zero, suc, ◌+◌, ◌<◌, Bool, true, false, inl, inr, ⊎_elim, List, [], ◌∷◌, ◌++◌, map, length, reverse, refl, ap, sym, ◌∙◌, subst, arith, append_assoc, Option, None, Some, MatchOption}
use Rattle.std.specs.Prelude.{◌≢◌, ◌⊎◌, ◌-◌, ◌==◌, nat_lt, min, unwrap_or}
use Rattle.std.specs.List.{flat_map, range_with_len}
use Rattle.std.proofs.lemmas.List.{map-append, append-nil}
use Rattle.std.proofs.lemmas.Grind.{flat_map-append}
use Rattle.std.proofs.lemmas.Option.{none-some}
use Rattle.map_types.specs.declared.attr.Shape.{Shape}
use Rattle.map_types.specs.declared.call.Verb.TheVariants as verbs
use Rattle.map_types.specs.declared.kind.DomainId.{DomainId}
use Rattle.map_types.specs.declared.kind.DomainId.TheVariants.{Local, Bucket}
use Rattle.map_types.specs.declared.refusal.Errno.{Errno}
use Rattle.map_types.specs.declared.refusal.Errno.TheVariants.{Enoent, Enospc, Einval}
use Rattle.map_types.specs.declared.reply.Reply.{Reply}
use Rattle.map_types.specs.declared.reply.Reply.TheVariants.{Done, Value, Refused, Batch}
use Rattle.map_types.specs.Kind.{is_lru}
use Rattle.map_types.specs.Stored.{Stored}
use Rattle.place_words.specs.declared.bucket_part.BucketPart.TheVariants.{Next, First, Walk}
use Rattle.place_words.specs.declared.bucket_part.NextFound.{NextFound}
use Rattle.place_words.specs.declared.bucket_part.NextFound.TheVariants as nexts
use Rattle.place_words.specs.declared.bucket_part.Walked.{Walked}
use Rattle.place_words.specs.declared.bucket_part.Walked.TheVariants.{Over, Taken}
use Rattle.place_words.specs.declared.free_part.FreePart.{FreePart}
use Rattle.place_words.specs.declared.free_part.FreePart.TheVariants.{Pushed}
use Rattle.place_words.specs.declared.history.Part.TheVariants as parts
use Rattle.place_words.specs.declared.list_part.GlobalPart.{GlobalPart}
use Rattle.place_words.specs.declared.list_part.GlobalPart.TheVariants as global
use Rattle.place_words.specs.declared.list_part.LocalPart.{LocalPart}
use Rattle.place_words.specs.declared.list_part.LocalPart.TheVariants as local
use Rattle.place_words.specs.declared.list_part.OwnPart.{OwnPart}
use Rattle.place_words.specs.declared.list_part.OwnPart.TheVariants as own
use Rattle.place_words.specs.Bodies.{present, next_key}
use Rattle.place_words.specs.Buckets.{IsAbsent, IsPresentWith, AllowsInBucket, as_read}
use Rattle.place_words.specs.Histories.{Content, in_bucket, on_freelist, in_locals, in_global, in_own, Allows}
use Rattle.place_words.specs.Locks.{lock_named}
use Rattle.place_words.specs.Takings.{Frees, FreesFlushed, freed_globally}
use Rattle.place_words.specs.Turns.{Turn, TurnAt, turns_of, on_lock, on_bucket_of, on_freelist_of, bucket_of_key}
use Rattle.place_words.specs.Walks.{buckets_from, Firsts, GoesOn, IsAfterTrace, FreesAll, TakesOut, walked_out, pair_of, stopped_at, AfterWalk, Walks, IsReadTrace}
use Rattle.place_words.proofs.PlainLaws.{second_chosen}
use Rattle.place_table.specs.declared.view.Turned.{Turned}
use Rattle.place_table.specs.Calls.{Called}
use Rattle.place_table.specs.Known.{turn_at}
use Rattle.place_table.specs.Passes.{PassView, TableView}
use Rattle.refusals.specs.Made.{lay, bodies_in, Did, AllDid}
use Rattle.refusals.specs.Walks.{found_no_head, LeavesOutNone, FirstKeyLeavesOutNone, AbsentKeyStartsOver, LastKeyGoesOn, pairs_lay, GivesWholeBuckets, ReadsInOrder, EnospcTakesNothing, pushed_by, emptied_by, TakenArePushedInOrder}
use Rattle.refusals.proofs.KeyTraces.{by_kind}
use Rattle.refusals.proofs.MadeLemmas.{turns_at, called_did, did_single, did_none, DidAt, did_at, allowed_there}

-- Next key

module _ (shape : Shape) where
  -- the turns of a walk over so many buckets, from one on
  abbrev Walked_over : ℕ → ℕ → List Turn → Reply → Type 0
  Walked_over from whole turns reply =
      ((reply ≡ Refused Enoent) × (turns ≡ found_no_head from whole))
      ⊎ ((number : ℕ) × (key : List ℕ) × (reply ≡ Value key) × (turns ≡ found_no_head from number ++ on_lock (Bucket (from + number)) (parts.Bucket (First (Some key))) ∷ []))

  one_more : (from whole : ℕ) (rest turns : List Turn) (reply : Reply) → turns ≡ on_lock (Bucket from) (parts.Bucket (First None)) ∷ rest → Walked_over (from + 1) whole rest reply → Walked_over from (suc whole) turns reply
  one_more from whole rest turns reply are walked =
      ⊎_elim
      (λ none. inl (none.0, are ∙ ap (λ (l : List Turn). on_lock (Bucket from) (parts.Bucket (First None)) ∷ l) none.1))
      (λ found. inr (
        suc found.0,
        found.1,
        found.2,
        are ∙ ap (λ (l : List Turn). on_lock (Bucket from) (parts.Bucket (First None)) ∷ l) found.3
            ∙ ap (λ (n : ℕ). on_lock (Bucket from) (parts.Bucket (First None)) ∷ (found_no_head (from + 1) found.0 ++ on_lock (Bucket n) (parts.Bucket (First (Some found.1))) ∷ [])) (let same : from + 1 + found.0 ≡ from + suc found.0 = omega arith in same),
      ))
      walked

  at_once : (from : ℕ) (key : List ℕ) (rest turns : List Turn) → turns ≡ on_lock (Bucket from) (parts.Bucket (First (Some key))) ∷ rest → rest ≡ []
      → turns ≡ on_lock (Bucket (from + 0)) (parts.Bucket (First (Some key))) ∷ []
  at_once from key rest turns are none =
      are ∙ ap (λ (l : List Turn). on_lock (Bucket from) (parts.Bucket (First (Some key))) ∷ l) none
      ∙ ap (λ (n : ℕ). on_lock (Bucket n) (parts.Bucket (First (Some key))) ∷ []) (let same : from ≡ from + 0 = omega arith in same)

  walked_over : (whole from : ℕ) (turns : List Turn) (reply : Reply) → Firsts (range_with_len from whole) turns reply → Walked_over from whole turns reply
  walked_over zero from turns reply firsts = inl (firsts.1, firsts.0)
  walked_over (suc whole) from turns reply (key, rest, are, goes) = on key are (λ more. walked_over whole (from + 1) rest reply more) goes
    where
      on : (head : Option (List ℕ)) → turns ≡ on_lock (Bucket from) (parts.Bucket (First head)) ∷ rest → (Firsts (range_with_len (from + 1) whole) rest reply → Walked_over (from + 1) whole rest reply)
          → MatchOption head (Firsts (range_with_len (from + 1) whole) rest reply) (λ first. (rest ≡ []) × (reply ≡ Value first)) → Walked_over from (suc whole) turns reply
      on None are next more = one_more from whole rest turns reply are (next more)
      on (Some first) are next ends = inr (0, first, ends.1, at_once from first rest turns are ends.0)

  leaves_out_none : (cpu from : ℕ) (turns : List Turn) (reply : Reply) (steps : List Turned) → Firsts (buckets_from shape from) turns reply → AllDid shape cpu steps turns → LeavesOutNone shape cpu from steps reply
  leaves_out_none cpu from turns reply steps firsts did =
      ⊎_elim
      (λ none. inl (none.0, subst (λ (l : List Turn). AllDid shape cpu steps l) none.1 did))
      (λ found. inr (found.0, found.1, found.2, subst (λ (l : List Turn). AllDid shape cpu steps l) found.3 did))
      (walked_over (shape.buckets - from) from turns reply firsts)

  never_absent : (Fact : Stored → Type 0) (found : Option Stored) → found ≡ None → MatchOption found ⊥ Fact → ⊥
  never_absent Fact None none there = there
  never_absent Fact (Some body) none there = none-some body (sym none)

  after_absent : (cpu : ℕ) (key : List ℕ) (found : NextFound) (turns : List Turn) (reply : Reply) (first : Turned) (steps : List Turned) → IsAbsent key (bodies_in (lay shape first))
      → AllowsInBucket shape cpu (Next key found) (bodies_in (lay shape first)) → GoesOn shape key found turns reply → AllDid shape cpu steps turns → LeavesOutNone shape cpu 0 steps reply
  unfolding AllowsInBucket
  after_absent cpu key nexts.Absent turns reply first steps absent allowed goes did = leaves_out_none cpu 0 turns reply steps goes did
  after_absent cpu key nexts.Last turns reply first steps absent allowed goes did = absurd (never_absent (λ body. next_key key (bodies_in (lay shape first)) ≡ None) (present key (bodies_in (lay shape first))) absent allowed)
  after_absent cpu key (nexts.Key next) turns reply first steps absent allowed goes did = absurd (never_absent (λ body. next_key key (bodies_in (lay shape first)) ≡ Some next) (present key (bodies_in (lay shape first))) absent allowed)

  fact_of : (Fact : Type 0) (found : Option Stored) → MatchOption found ⊥ (λ body. Fact) → Fact
  fact_of Fact None is = absurd is
  fact_of Fact (Some body) is = is

  after_last : (cpu : ℕ) (key : List ℕ) (found : NextFound) (turns : List Turn) (reply : Reply) (first : Turned) (steps : List Turned)
      → IsPresentWith key (bodies_in (lay shape first)) (λ body. next_key key (bodies_in (lay shape first)) ≡ None)
      → AllowsInBucket shape cpu (Next key found) (bodies_in (lay shape first)) → GoesOn shape key found turns reply → AllDid shape cpu steps turns → LeavesOutNone shape cpu (bucket_of_key shape key + 1) steps reply
  unfolding AllowsInBucket
  after_last cpu key nexts.Absent turns reply first steps last allowed goes did = absurd (never_absent (λ body. next_key key (bodies_in (lay shape first)) ≡ None) (present key (bodies_in (lay shape first))) allowed last)
  after_last cpu key nexts.Last turns reply first steps last allowed goes did = leaves_out_none cpu (bucket_of_key shape key + 1) turns reply steps goes did
  after_last cpu key (nexts.Key next) turns reply first steps last allowed goes did =
      absurd (none-some next (sym (fact_of (next_key key (bodies_in (lay shape first)) ≡ None) (present key (bodies_in (lay shape first))) last) ∙ fact_of (next_key key (bodies_in (lay shape first)) ≡ Some next) (present key (bodies_in (lay shape first))) allowed))

pub first_leaves_out_none : FirstKeyLeavesOutNone
first_leaves_out_none t before after reply called =
    leaves_out_none t.shape before.cpu 0 (turns_of (map (turn_at t.shape) called.told)) reply called.steps called.trace (called_did t before after (verbs.Next None) reply called)

module _ (t : TableView) (before after : PassView) (key : List ℕ) (reply : Reply) (called : Called t before after (verbs.Next (Some key)) reply) (first : Turned) (rest : List Turned) where
  behind : called.steps ≡ first ∷ rest → (X : Type 0)
      → ((found : NextFound) (turns : List Turn) → AllowsInBucket t.shape before.cpu (Next key found) (bodies_in (lay t.shape first)) → GoesOn t.shape key found turns reply → AllDid t.shape before.cpu rest turns → X) → X
  behind are X goes =
      let trace : IsAfterTrace t.shape key (turns_of (map (turn_at t.shape) called.told)) reply = called.trace in
      let did : AllDid t.shape before.cpu (first ∷ rest) (on_bucket_of t.shape key (Next key trace.found) ∷ trace.rest) =
      subst (λ (l : List Turned). AllDid t.shape before.cpu l (on_bucket_of t.shape key (Next key trace.found) ∷ trace.rest)) are
      (subst (λ (turns : List Turn). AllDid t.shape before.cpu called.steps turns) trace.turns_are (called_did t before after (verbs.Next (Some key)) reply called)) in
      goes trace.found trace.rest (allowed_there t.shape before.cpu (Next key trace.found) (lay t.shape first) did.0.allowed) trace.goes_on did.1

pub absent_starts_over : AbsentKeyStartsOver
absent_starts_over t before after key reply called first rest are absent =
    behind t before after key reply called first rest are (LeavesOutNone t.shape before.cpu 0 rest reply)
    (λ found turns allowed goes did. after_absent t.shape before.cpu key found turns reply first rest absent allowed goes did)

pub last_goes_on : LastKeyGoesOn
last_goes_on t before after key reply called first rest are last =
    behind t before after key reply called first rest are (LeavesOutNone t.shape before.cpu (bucket_of_key t.shape key + 1) rest reply)
    (λ found turns allowed goes did. after_last t.shape before.cpu key found turns reply first rest last allowed goes did)

-- Batch reads

same_batch : (stop other : Option Errno) (taken pairs : List (List ℕ × List ℕ)) (next at : ℕ) → Batch stop taken next ≡ Batch other pairs at → (stop ≡ other) × (taken ≡ pairs)
same_batch stop other taken pairs next at is = (cc, cc)

-- the reply of a walk, from that of a batch read
walk_of : (shape : Shape) (cpu : ℕ) (remove : Bool) (count : ℕ) (start : Option ℕ) (flags : ℕ) (turns : List TurnAt) (stop : Option Errno) (taken : List (List ℕ × List ℕ)) (next : ℕ)
    → IsReadTrace shape cpu remove count start flags turns (Batch stop taken next)
    → Walks shape cpu remove (min count shape.elements) (buckets_from shape (unwrap_or start 0)) [] turns (Batch stop taken next)
walk_of shape cpu remove count start flags turns stop taken next trace =
    by_kind (flags == 0) trace
    (λ _ known. by_kind (count == 0) known (λ _ idle. let other : Batch stop taken next ≡ Done = idle.1 in absurd cc)
    (λ _ some. by_kind (nat_lt (unwrap_or start 0) shape.buckets) some (λ _ walks. walks) (λ _ past. let other : Batch stop taken next ≡ Refused Enoent = past.1 in absurd cc)))
    (λ _ unknown. let other : Batch stop taken next ≡ Refused Einval = unknown.1 in absurd cc)

-- ENOSPC
stopped_nothing : (pairs : List (List ℕ × List ℕ)) → Some Enospc ≡ stopped_at pairs → pairs ≡ []
stopped_nothing [] is = refl
stopped_nothing (pair ∷ pairs) is = absurd (none-some Enospc (sym is))

module _ (shape : Shape) (cpu : ℕ) (remove : Bool) (limit : ℕ) (taken : List (List ℕ × List ℕ)) (next : ℕ) where
  no_space : (buckets : List ℕ) (before : List (List ℕ × List ℕ)) (turns : List TurnAt) → Walks shape cpu remove limit buckets before turns (Batch (Some Enospc) taken next) → taken ≡ []
  no_space [] before turns walks = let other : Some Enospc ≡ Some Enoent = (same_batch (Some Enospc) (Some Enoent) taken before next shape.buckets walks.1).0 in absurd cc
  no_space (bucket ∷ buckets) before turns (result, one, rest, (are, takes, goes)) = on (λ now more. no_space buckets now rest more) result goes
    where
      on : ((now : List (List ℕ × List ℕ)) → Walks shape cpu remove limit buckets now rest (Batch (Some Enospc) taken next) → taken ≡ []) → (walked : Walked)
          → AfterWalk bucket before rest (Batch (Some Enospc) taken next) walked (λ now. Walks shape cpu remove limit buckets now rest (Batch (Some Enospc) taken next)) → taken ≡ []
      on later (Over n) ends = let same = same_batch (Some Enospc) (stopped_at before) taken before next bucket ends.1 in same.1 ∙ stopped_nothing before same.0
      on later (Taken all) more = later (before ++ map pair_of all) more

pub enospc_takes_nothing : EnospcTakesNothing
enospc_takes_nothing t before after remove count start flags taken next called =
    no_space t.shape before.cpu remove (min count t.shape.elements) taken next (buckets_from t.shape (unwrap_or start 0)) [] (map (turn_at t.shape) called.told)
    (walk_of t.shape before.cpu remove count start flags (map (turn_at t.shape) called.told) (Some Enospc) taken next called.trace)

-- Whole buckets

-- turns that are of no bucket
abbrev OffBuckets : Shape → List Turn → Type 0
OffBuckets shape [] = Unit {0}
OffBuckets shape (turn ∷ turns) = ((cpu : ℕ) (lies : Content) → Allows shape cpu turn.part lies → bodies_in lies ≡ []) × OffBuckets shape turns

module _ (shape : Shape) where
  free_off : (part : FreePart) (cpu : ℕ) (lies : Content) → Allows shape cpu (parts.Free part) lies → bodies_in lies ≡ []
  free_off part cpu (in_bucket bodies) allowed = absurd allowed
  free_off part cpu (on_freelist stack) allowed = refl
  free_off part cpu (in_locals lists) allowed = refl
  free_off part cpu (in_global set) allowed = refl
  free_off part cpu (in_own set) allowed = refl

  local_off : (part : LocalPart) (cpu : ℕ) (lies : Content) → Allows shape cpu (parts.Local part) lies → bodies_in lies ≡ []
  local_off part cpu (in_bucket bodies) allowed = absurd allowed
  local_off part cpu (on_freelist stack) allowed = refl
  local_off part cpu (in_locals lists) allowed = refl
  local_off part cpu (in_global set) allowed = refl
  local_off part cpu (in_own set) allowed = refl

  global_off : (part : GlobalPart) (cpu : ℕ) (lies : Content) → Allows shape cpu (parts.Global part) lies → bodies_in lies ≡ []
  global_off part cpu (in_bucket bodies) allowed = absurd allowed
  global_off part cpu (on_freelist stack) allowed = refl
  global_off part cpu (in_locals lists) allowed = refl
  global_off part cpu (in_global set) allowed = refl
  global_off part cpu (in_own set) allowed = refl

  own_off : (part : OwnPart) (cpu : ℕ) (lies : Content) → Allows shape cpu (parts.Own part) lies → bodies_in lies ≡ []
  own_off part cpu (in_bucket bodies) allowed = absurd allowed
  own_off part cpu (on_freelist stack) allowed = refl
  own_off part cpu (in_locals lists) allowed = refl
  own_off part cpu (in_global set) allowed = refl
  own_off part cpu (in_own set) allowed = refl

  off_joined : (xs ys : List Turn) → OffBuckets shape xs → OffBuckets shape ys → OffBuckets shape (xs ++ ys)
  off_joined [] ys first second = second
  off_joined (x ∷ xs) ys first second = (first.0, off_joined xs ys first.1 second)

  pushes_off : (cpu : ℕ) (gone : List ℕ) → OffBuckets shape (map (λ e. on_freelist_of cpu (Pushed e)) gone)
  pushes_off cpu [] = tt
  pushes_off cpu (e ∷ gone) = (free_off (Pushed e), pushes_off cpu gone)

  frees_off : (e : ℕ) (turns : List TurnAt) → Frees shape e turns → OffBuckets shape (turns_of turns)
  frees_off e turns frees =
      by_kind shape.common frees
      (λ _ shared. ⊎_elim
      (λ pending. subst (OffBuckets shape) (sym pending.turns_are) (local_off (local.Push e true), tt))
      (λ other. ⊎_elim
      (λ flushed. two flushed)
      (λ alone. subst (OffBuckets shape) (sym alone) (global_off (global.Push e), tt)) other)
      shared)
      (λ _ of_own. subst (OffBuckets shape) (sym of_own) (own_off (own.Push e), tt))
    where
      two : FreesFlushed e turns → OffBuckets shape (turns_of turns)
      two flushed =
          let are : turns_of turns ≡ on_lock (Local flushed.on) (parts.Local (local.Push e false)) ∷ freed_globally e ∷ [] =
          ap turns_of flushed.turns_are ∙ ap (λ (x : Turn). x ∷ flushed.second.turn ∷ []) flushed.first_is ∙ ap (λ (x : Turn). on_lock (Local flushed.on) (parts.Local (local.Push e false)) ∷ x ∷ []) flushed.second_is in
          subst (OffBuckets shape) (sym are) (local_off (local.Push e false), (global_off (global.Push e), tt))

  frees_all_off : (gone : List ℕ) (turns : List TurnAt) → FreesAll shape gone turns → OffBuckets shape (turns_of turns)
  frees_all_off [] turns frees = subst (λ (l : List TurnAt). OffBuckets shape (turns_of l)) (sym frees) tt
  frees_all_off (e ∷ gone) turns (one, others, (are, first, more)) =
      subst (OffBuckets shape) (sym (ap turns_of are ∙ map-append (λ (at : TurnAt). at.turn) one others)) (off_joined (turns_of one) (turns_of others) (frees_off e one first) (frees_all_off gone others more))

module _ (shape : Shape) (cpu : ℕ) where
  -- steps that did turns of no bucket give nothing
  off_gives : (steps : List Turned) (turns : List Turn) → OffBuckets shape turns → AllDid shape cpu steps turns → flat_map (pairs_lay shape cpu) steps ≡ []
  off_gives [] [] off did = refl
  off_gives [] (turn ∷ turns) off did = absurd did
  off_gives (step ∷ steps) [] off did = absurd did
  off_gives (step ∷ steps) (turn ∷ turns) off did =
      ap (λ (l : List Stored). map pair_of (map (as_read shape cpu) l) ++ flat_map (pairs_lay shape cpu) steps) (off.0 cpu (lay shape step) did.0.allowed) ∙ off_gives steps turns off.1 did.1

  -- the turns of a walk in one bucket: that of the bucket, and what frees what was taken
  pub record AroundBucket (turn : Turn) (turns : List Turn) : Type 0 where
    pub front : List Turn
    pub back : List Turn
    pub turns_are : turns ≡ front ++ turn ∷ back
    pub front_off : OffBuckets shape front
    pub back_off : OffBuckets shape back

  around : (turn : Turn) (gone : List ℕ) (turns : List TurnAt) → TakesOut shape cpu turn gone turns → AroundBucket turn (turns_of turns)
  around turn gone turns takes =
      by_kind (is_lru shape.kind) takes
      (λ lru freed. record {
        front = [];
        back = turns_of freed.freeing;
        turns_are = ap turns_of freed.turns_are ∙ ap (λ (x : Turn). x ∷ turns_of freed.freeing) freed.bucket_is;
        front_off = tt;
        back_off = frees_all_off shape (reverse gone) freed.freeing freed.frees;
      })
      (λ plain are. record { front = map (λ e. on_freelist_of cpu (Pushed e)) gone; back = []; turns_are = are; front_off = pushes_off shape cpu gone; back_off = tt })

  -- the steps that did some turns, and those that did others
  did_both : (steps : List Turned) (xs ys : List Turn) → AllDid shape cpu steps (xs ++ ys) → (one : List Turned) × (others : List Turned) × (steps ≡ one ++ others) × AllDid shape cpu one xs × AllDid shape cpu others ys
  did_both steps [] ys did = ([], steps, refl, tt, did)
  did_both [] (x ∷ xs) ys did = absurd did
  did_both (step ∷ steps) (x ∷ xs) ys did = let more = did_both steps xs ys did.1 in (step ∷ more.0, more.1, ap (λ (l : List Turned). step ∷ l) more.2, (did.0, more.3), more.4)

  -- what the steps of a walk in one bucket give
  around_gives : (turn : Turn) (turns : List Turn) (steps : List Turned) → AroundBucket turn turns → AllDid shape cpu steps turns
      → (step : Turned) × Did shape cpu step turn × (flat_map (pairs_lay shape cpu) steps ≡ pairs_lay shape cpu step)
  around_gives turn turns steps one did = on (did_at shape cpu steps one.front turn one.back (subst (λ (l : List Turn). AllDid shape cpu steps l) one.turns_are did))
    where
      on : DidAt shape cpu steps one.front turn one.back → (step : Turned) × Did shape cpu step turn × (flat_map (pairs_lay shape cpu) steps ≡ pairs_lay shape cpu step)
      on at = (
        at.step,
        at.did,
        ap (flat_map (pairs_lay shape cpu)) at.steps_are ∙ flat_map-append (pairs_lay shape cpu) at.front (at.step ∷ at.back)
            ∙ ap (λ (l : List (List ℕ × List ℕ)). l ++ (pairs_lay shape cpu at.step ++ flat_map (pairs_lay shape cpu) at.back)) (off_gives at.front one.front one.front_off at.front_did)
            ∙ ap (λ (l : List (List ℕ × List ℕ)). pairs_lay shape cpu at.step ++ l) (off_gives at.back one.back one.back_off at.back_did) ∙ append-nil (pairs_lay shape cpu at.step),
      )

-- a bucket in which there is no room makes one turn
read_once : (shape : Shape) (cpu : ℕ) (turn : Turn) (gone : List ℕ) (turns : List TurnAt) → gone ≡ [] → TakesOut shape cpu turn gone turns → turns_of turns ≡ turn ∷ []
read_once shape cpu turn [] turns none takes =
    by_kind (is_lru shape.kind) takes
    (λ lru freed. ap turns_of freed.turns_are ∙ ap (λ (l : List TurnAt). turns_of (freed.at_bucket ∷ l)) freed.frees ∙ ap (λ (x : Turn). x ∷ []) freed.bucket_is)
    (λ plain are. are)
read_once shape cpu turn (e ∷ gone) turns none takes = absurd cc

not_past : (pairs : List (List ℕ × List ℕ)) → stopped_at pairs ≢ Some Enoent
not_past [] is = absurd cc
not_past (pair ∷ pairs) is = none-some Enoent is

module _ (shape : Shape) (cpu : ℕ) (remove : Bool) (limit : ℕ) where
  -- the steps of a walk: those that read buckets whole, and the one that found no room
  abbrev Gives : List Turned → List (List ℕ × List ℕ) → List (List ℕ × List ℕ) → Option Errno → Type 0
  Gives steps before taken stop =
      (whole : List Turned) × (rest : List Turned) × (steps ≡ whole ++ rest) × (taken ≡ before ++ flat_map (pairs_lay shape cpu) whole)
      × (((stop ≡ Some Enoent) × (rest ≡ []))
      ⊎ ((stop ≢ Some Enoent) × (step : Turned) × (rest ≡ step ∷ []) × (limit < length taken + length (bodies_in (lay shape step)))))

  taken_all : (room : ℕ) (all : List Stored) (bodies : List Stored) → AllowsInBucket shape cpu (Walk remove room (Taken all)) bodies → all ≡ map (as_read shape cpu) bodies
  unfolding AllowsInBucket
  taken_all room all bodies allowed = allowed.1

  no_room : (taken n : ℕ) (bodies : List Stored) → AllowsInBucket shape cpu (Walk remove (limit - taken) (Over n)) bodies → limit < taken + length bodies
  unfolding AllowsInBucket
  no_room taken n bodies allowed = omega (arith, allowed.0, allowed.1)

  gives_more : (one others : List Turned) (before all taken : List (List ℕ × List ℕ)) (stop : Option Errno) → all ≡ flat_map (pairs_lay shape cpu) one → Gives others (before ++ all) taken stop → Gives (one ++ others) before taken stop
  gives_more one others before all taken stop is (whole, rest, are, taken_is, last) = (
    one ++ whole,
    rest,
    ap (λ (l : List Turned). one ++ l) are ∙ sym (append_assoc one whole rest),
    taken_is ∙ append_assoc before all (flat_map (pairs_lay shape cpu) whole) ∙ ap (λ (l : List (List ℕ × List ℕ)). before ++ (l ++ flat_map (pairs_lay shape cpu) whole)) is
        ∙ ap (λ (l : List (List ℕ × List ℕ)). before ++ l) (sym (flat_map-append (pairs_lay shape cpu) one whole)),
    last,
  )

  gives : (buckets : List ℕ) (before : List (List ℕ × List ℕ)) (turns : List TurnAt) (steps : List Turned) (stop : Option Errno) (taken : List (List ℕ × List ℕ)) (next : ℕ)
      → Walks shape cpu remove limit buckets before turns (Batch stop taken next) → AllDid shape cpu steps (turns_of turns) → Gives steps before taken stop
  gives [] before turns [] stop taken next walks did =
      let same = same_batch stop (Some Enoent) taken before next shape.buckets walks.1 in
      ([], [], refl, same.1 ∙ sym (append-nil before), inl (same.0, refl))
  gives [] before turns (step ∷ steps) stop taken next walks did = absurd (subst (λ (l : List TurnAt). AllDid shape cpu (step ∷ steps) (turns_of l)) walks.0 did)
  gives (bucket ∷ buckets) before turns steps stop taken next (result, one, rest, (are, takes, goes)) did =
      let both = did_both shape cpu steps (turns_of one) (turns_of rest) (subst (λ (l : List Turn). AllDid shape cpu steps l) (ap turns_of are ∙ map-append (λ (at : TurnAt). at.turn) one rest) did) in
      subst (λ (l : List Turned). Gives l before taken stop) (sym both.2)
      (on result takes both.0 both.1 both.3 both.4 (λ others now more rest_did. gives buckets now rest others stop taken next more rest_did) goes)
    where
      on : (walked : Walked) → TakesOut shape cpu (on_lock (Bucket bucket) (parts.Bucket (Walk remove (limit - length before) walked))) (walked_out remove walked) one
          → (made others : List Turned) → AllDid shape cpu made (turns_of one) → AllDid shape cpu others (turns_of rest)
          → ((others_2 : List Turned) (now : List (List ℕ × List ℕ)) → Walks shape cpu remove limit buckets now rest (Batch stop taken next) → AllDid shape cpu others_2 (turns_of rest) → Gives others_2 now taken stop)
          → AfterWalk bucket before rest (Batch stop taken next) walked (λ now. Walks shape cpu remove limit buckets now rest (Batch stop taken next))
          → Gives (made ++ others) before taken stop
      on (Taken all) takes_one made others made_did rest_did later more =
          let turn : Turn = on_lock (Bucket bucket) (parts.Bucket (Walk remove (limit - length before) (Taken all))) in
          let gave = around_gives shape cpu turn (turns_of one) made (around shape cpu turn (walked_out remove (Taken all)) one takes_one) made_did in
          gives_more made others before (map pair_of all) taken stop
          (ap (map pair_of) (taken_all (limit - length before) all (bodies_in (lay shape gave.0)) (allowed_there shape cpu (Walk remove (limit - length before) (Taken all)) (lay shape gave.0) gave.1.allowed)) ∙ sym gave.2)
          (later others (before ++ map pair_of all) more rest_did)
      on (Over n) takes_one made others made_did rest_did later ends =
          let turn : Turn = on_lock (Bucket bucket) (parts.Bucket (Walk remove (limit - length before) (Over n))) in
          let same = same_batch stop (stopped_at before) taken before next bucket ends.1 in
          let alone = did_single shape cpu made turn (subst (λ (l : List Turn). AllDid shape cpu made l) (read_once shape cpu turn [] one refl takes_one) made_did) in
          let none : others ≡ [] = did_none shape cpu others (turns_of rest) (ap turns_of ends.0) rest_did in
          let full : limit < length before + length (bodies_in (lay shape alone.0)) =
          no_room (length before) n (bodies_in (lay shape alone.0)) (allowed_there shape cpu (Walk remove (limit - length before) (Over n)) (lay shape alone.0) alone.2.allowed) in (
            [],
            made ++ others,
            refl,
            same.1 ∙ sym (append-nil before),
            inr (
              (λ past. not_past before (sym same.0 ∙ past)),
              alone.0,
              ap (λ (l : List Turned). l ++ others) alone.1 ∙ ap (λ (l : List Turned). alone.0 ∷ l) none,
              subst (λ (l : List (List ℕ × List ℕ)). limit < length l + length (bodies_in (lay shape alone.0))) (sym same.1) full,
            ),
          )

pub gives_whole_buckets : GivesWholeBuckets
gives_whole_buckets t before after remove count start flags stop taken next called =
    gives t.shape before.cpu remove (min count t.shape.elements) (buckets_from t.shape (unwrap_or start 0)) [] (map (turn_at t.shape) called.told) called.steps stop taken next
    (walk_of t.shape before.cpu remove count start flags (map (turn_at t.shape) called.told) stop taken next called.trace)
    (called_did t before after (verbs.BatchRead remove count start flags) (Batch stop taken next) called)

-- a lookup makes one turn of each bucket, in order
nothing_out : (walked : Walked) → walked_out false walked ≡ []
nothing_out (Over n) = refl
nothing_out (Taken all) = refl

module _ (shape : Shape) (cpu limit : ℕ) (stop : Option Errno) (taken : List (List ℕ × List ℕ)) (next : ℕ) where
  abbrev InOrder : ℕ → ℕ → List Turned → Type 0
  InOrder from whole steps =
      (map (λ (step : Turned). lock_named shape step.lock) steps ≡ map Bucket (range_with_len from (length steps))) × (stop ≡ Some Enoent → length steps ≡ whole)

  order_more : (from whole : ℕ) (step : Turned) (steps : List Turned) → lock_named shape step.lock ≡ Bucket from → InOrder (from + 1) whole steps → InOrder from (suc whole) (step ∷ steps)
  order_more from whole step steps is more = (
    ap (λ (x : DomainId). x ∷ map (λ (step : Turned). lock_named shape step.lock) steps) is ∙ ap (λ (l : List DomainId). Bucket from ∷ l) more.0,
    λ past. ap suc (more.1 past),
  )

  in_order : (whole from : ℕ) (before : List (List ℕ × List ℕ)) (turns : List TurnAt) (steps : List Turned)
      → Walks shape cpu false limit (range_with_len from whole) before turns (Batch stop taken next) → AllDid shape cpu steps (turns_of turns) → InOrder from whole steps
  in_order zero from before turns steps walks did = subst (λ (l : List Turned). InOrder from 0 l) (sym (did_none shape cpu steps (turns_of turns) (ap turns_of walks.0) did)) (refl, λ past. refl)
  in_order (suc whole) from before turns steps (result, one, rest, (are, takes, goes)) did =
      let turn : Turn = on_lock (Bucket from) (parts.Bucket (Walk false (limit - length before) result)) in
      let turns_are : turns_of turns ≡ turn ∷ turns_of rest =
      ap turns_of are ∙ map-append (λ (at : TurnAt). at.turn) one rest ∙ ap (λ (l : List Turn). l ++ turns_of rest) (read_once shape cpu turn (walked_out false result) one (nothing_out result) takes) in
      on steps result (subst (λ (l : List Turn). AllDid shape cpu steps l) turns_are did) (λ others now more rest_did. in_order whole (from + 1) now rest others more rest_did) goes
    where
      on : (made : List Turned) (walked : Walked) → AllDid shape cpu made (on_lock (Bucket from) (parts.Bucket (Walk false (limit - length before) walked)) ∷ turns_of rest)
          → ((others : List Turned) (now : List (List ℕ × List ℕ)) → Walks shape cpu false limit (range_with_len (from + 1) whole) now rest (Batch stop taken next) → AllDid shape cpu others (turns_of rest) → InOrder (from + 1) whole others)
          → AfterWalk from before rest (Batch stop taken next) walked (λ now. Walks shape cpu false limit (range_with_len (from + 1) whole) now rest (Batch stop taken next))
          → InOrder from (suc whole) made
      on [] walked none later ends = absurd none
      on (step ∷ others) (Taken all) all_did later more = order_more from whole step others all_did.0.lock_is (later others (before ++ map pair_of all) more all_did.1)
      on (step ∷ []) (Over n) all_did later ends =
          let same = same_batch stop (stopped_at before) taken before next from ends.1 in
          (ap (λ (x : DomainId). x ∷ []) all_did.0.lock_is, λ past. absurd (not_past before (sym same.0 ∙ past)))
      on (step ∷ other ∷ others) (Over n) all_did later ends = absurd (subst (λ (l : List TurnAt). AllDid shape cpu (other ∷ others) (turns_of l)) ends.0 all_did.1)

pub reads_in_order : ReadsInOrder
reads_in_order t before after count start flags stop taken next called =
    in_order t.shape before.cpu (min count t.shape.elements) stop taken next (t.shape.buckets - unwrap_or start 0) (unwrap_or start 0) [] (map (turn_at t.shape) called.told) called.steps
    (walk_of t.shape before.cpu false count start flags (map (turn_at t.shape) called.told) stop taken next called.trace)
    (called_did t before after (verbs.BatchRead false count start flags) (Batch stop taken next) called)

-- The order of pushes

abbrev pushes_of : List Turn → List ℕ
pushes_of turns = flat_map (λ (turn : Turn). pushed_by turn.part) turns

abbrev empties_of : List Turn → List ℕ
empties_of turns = flat_map (λ (turn : Turn). emptied_by turn.part) turns

all_pushed : (cpu : ℕ) (gone : List ℕ) → pushes_of (map (λ e. on_freelist_of cpu (Pushed e)) gone) ≡ gone
all_pushed cpu [] = refl
all_pushed cpu (e ∷ gone) = ap (λ (l : List ℕ). e ∷ l) (all_pushed cpu gone)

none_emptied : (cpu : ℕ) (gone : List ℕ) → empties_of (map (λ e. on_freelist_of cpu (Pushed e)) gone) ≡ []
none_emptied cpu [] = refl
none_emptied cpu (e ∷ gone) = none_emptied cpu gone

alike_both : (xs ys : List Turn) → pushes_of xs ≡ empties_of xs → pushes_of ys ≡ empties_of ys → pushes_of (xs ++ ys) ≡ empties_of (xs ++ ys)
alike_both xs ys first second =
    flat_map-append (λ (turn : Turn). pushed_by turn.part) xs ys ∙ ap (λ (l : List ℕ). l ++ pushes_of ys) first ∙ ap (λ (l : List ℕ). empties_of xs ++ l) second
    ∙ sym (flat_map-append (λ (turn : Turn). emptied_by turn.part) xs ys)

module _ (shape : Shape) (cpu : ℕ) (plain : is_lru shape.kind ≡ false) (remove : Bool) (limit : ℕ) where
  bucket_alike : (bucket room : ℕ) (walked : Walked) (one : List TurnAt) → TakesOut shape cpu (on_lock (Bucket bucket) (parts.Bucket (Walk remove room walked))) (walked_out remove walked) one
      → pushes_of (turns_of one) ≡ empties_of (turns_of one)
  bucket_alike bucket room walked one takes =
      let turn : Turn = on_lock (Bucket bucket) (parts.Bucket (Walk remove room walked)) in
      let gone : List ℕ = walked_out remove walked in
      let pushing : List Turn = map (λ e. on_freelist_of cpu (Pushed e)) gone in
      let are : turns_of one ≡ pushing ++ turn ∷ [] = second_chosen (is_lru shape.kind) _ _ plain takes in
      ap pushes_of are ∙ flat_map-append (λ (x : Turn). pushed_by x.part) pushing (turn ∷ []) ∙ append-nil (pushes_of pushing) ∙ all_pushed cpu gone
      ∙ sym (ap empties_of are ∙ flat_map-append (λ (x : Turn). emptied_by x.part) pushing (turn ∷ []) ∙ ap (λ (l : List ℕ). l ++ (gone ++ [])) (none_emptied cpu gone) ∙ append-nil gone)

  walks_alike : (buckets : List ℕ) (before : List (List ℕ × List ℕ)) (turns : List TurnAt) (reply : Reply) → Walks shape cpu remove limit buckets before turns reply → pushes_of (turns_of turns) ≡ empties_of (turns_of turns)
  walks_alike [] before turns reply walks = subst (λ (l : List TurnAt). pushes_of (turns_of l) ≡ empties_of (turns_of l)) (sym walks.0) refl
  walks_alike (bucket ∷ buckets) before turns reply (result, one, rest, (are, takes, goes)) =
      subst (λ (l : List Turn). pushes_of l ≡ empties_of l) (sym (ap turns_of are ∙ map-append (λ (at : TurnAt). at.turn) one rest))
      (alike_both (turns_of one) (turns_of rest) (bucket_alike bucket (limit - length before) result one takes) (on result (λ now more. walks_alike buckets now rest reply more) goes))
    where
      on : (walked : Walked) → ((now : List (List ℕ × List ℕ)) → Walks shape cpu remove limit buckets now rest reply → pushes_of (turns_of rest) ≡ empties_of (turns_of rest))
          → AfterWalk bucket before rest reply walked (λ now. Walks shape cpu remove limit buckets now rest reply) → pushes_of (turns_of rest) ≡ empties_of (turns_of rest)
      on (Over n) later ends = subst (λ (l : List TurnAt). pushes_of (turns_of l) ≡ empties_of (turns_of l)) (sym ends.0) refl
      on (Taken all) later more = later (before ++ map pair_of all) more

alike_none : (turns : List TurnAt) → turns ≡ [] → pushes_of (turns_of turns) ≡ empties_of (turns_of turns)
alike_none turns none = subst (λ (l : List TurnAt). pushes_of (turns_of l) ≡ empties_of (turns_of l)) (sym none) refl

pub taken_are_pushed : TakenArePushedInOrder
taken_are_pushed t before after remove count start flags reply plain called =
    let turns : List TurnAt = map (turn_at t.shape) called.told in
    subst (λ (l : List Turn). pushes_of l ≡ empties_of l) (turns_at t.shape called.told)
    (by_kind (flags == 0) called.trace
    (λ _ known. by_kind (count == 0) known (λ _ idle. alike_none turns idle.0)
    (λ _ some. by_kind (nat_lt (unwrap_or start 0) t.shape.buckets) some
    (λ _ walks. walks_alike t.shape before.cpu plain remove (min count t.shape.elements) (buckets_from t.shape (unwrap_or start 0)) [] turns reply walks)
    (λ _ past. alike_none turns past.0)))
    (λ _ unknown. alike_none turns unknown.0))
