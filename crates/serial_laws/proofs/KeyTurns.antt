-- What a call on one key does to the lists of a map that doesn't evict is what its turns do.
use Rattle.std.proofs.Common.{◌≡◌, ◌≢◌, ℕ, zero, suc, ◌<◌, ◌≤◌, Bool, true, false, nat_lt, cond, List, [], ◌∷◌, ◌++◌, length, map, get_or, set, Option, Some, None, refl, ap, sym, ◌∙◌, subst, inl, inr, arith}
use Rattle.std.specs.Prelude.{slice_get, IsTrue, MatchOption, if◌then◌else◌, option_map}
use Rattle.std.specs.List.{list_any, before_first, after_first}
use Rattle.std.proofs.lemmas.Bool.{or_parts, ltb-true, ltb-false}
use Rattle.std.proofs.lemmas.Option.{slice_get-get_or}
use Rattle.map_types.specs.declared.attr.Shape.{Shape}
use Rattle.map_types.specs.declared.call.Verb.{Verb}
use Rattle.map_types.specs.declared.call.Verb.TheVariants as verbs
use Rattle.map_types.specs.declared.kind.DomainId.{DomainId}
use Rattle.map_types.specs.declared.kind.Side.{Side}
use Rattle.map_types.specs.declared.kind.Side.TheVariants.{Sys}
use Rattle.map_types.specs.declared.refusal.Errno.TheVariants.{Enoent, E2big, Eexist, Einval}
use Rattle.map_types.specs.declared.reply.Reply.{Reply}
use Rattle.map_types.specs.declared.reply.Reply.TheVariants.{Done, Value, Refused}
use Rattle.map_types.specs.Kind.{is_lru, is_percpu}
use Rattle.map_types.specs.Shape.{HasBounds}
use Rattle.map_types.specs.Sides.{value_read, values_written}
use Rattle.map_types.specs.Stored.{Stored}
use Rattle.place_words.specs.declared.bucket_part.BucketPart.{BucketPart}
use Rattle.place_words.specs.declared.bucket_part.BucketPart.TheVariants.{Lookup, Update, Delete, Take}
use Rattle.place_words.specs.declared.bucket_part.Put.{Put}
use Rattle.place_words.specs.declared.bucket_part.Put.TheVariants as puts
use Rattle.place_words.specs.declared.finals.Finals.{Finals}
use Rattle.place_words.specs.declared.free_part.FreePart.TheVariants.{Pushed}
use Rattle.place_words.specs.declared.history.Part.TheVariants as parts
use Rattle.place_words.specs.Bodies.{has_key, HasDistinctKeys, present, without_key}
use Rattle.place_words.specs.Buckets.{IsPresentWith, AllowsInBucket, written_over, bucket_after}
use Rattle.place_words.specs.Locks.{is_lock}
use Rattle.place_words.specs.Traces.{Turn, on_bucket_of, pushes, element_gone, reply_of_got, IsPlainTrace, AreAllowed, after_turn, after_turns, spare_after_part, spare_after}
use Rattle.place_words.proofs.BucketLaws.{key_gone}
use Rattle.map_types.proofs.RowLemmas.{by_test}
use Rattle.place_words.proofs.Splits.{find_passes, find_splits}
use Rattle.map_report.specs.Buckets.{bucket_of_key, with_in_place}
use Rattle.map_report.specs.Freelists.{stack_at, first_not_empty, popped_at, popped, pushed}
use Rattle.map_report.specs.Serial.{has_spares, bucket_at, value_or_absent, new_stored, replaced, written, added, updated, deleted, after_call}
use Rattle.place_words.proofs.DoneLaws.{IsKeyVerb}
use Rattle.place_words.specs.Logs.{got_by}
use Rattle.place_words.proofs.PlacedContents.{after_both}
use Rattle.map_report.specs.Soundness.{IsSound}
use Rattle.map_report.specs.Turns.{content_under, spare_at, pop_turns, put_popped, update_turns, call_turns}
use Rattle.serial_laws.proofs.EachOnceRun.{bucket_within, spares_unless_percpu}
use Rattle.serial_laws.proofs.RingTurns.{lists_popped, pop_traced, none_traced, pop_allowed, pop_leaves, pop_spare}
use Rattle.serial_laws.proofs.TurnSteps.{allowed_more, bucket_leaves, bucket_stays, freelist_leaves}
use Rattle.core_runs.proofs.BatchCalls.{spare_both}

-- Tests and spares

-- a test, by cases
by_bool : (b : Bool) (F : Bool → Type 0) → (b ≡ true → F true) → (b ≡ false → F false) → F b
by_bool true F hit miss = hit refl
by_bool false F hit miss = miss refl

get_set_same : (xs : List ℕ) (i x : ℕ) → i < length xs → Some x ≡ slice_get (set xs i x) i
get_set_same [] i x within = absurd (omega arith)
get_set_same (y ∷ ys) zero x within = refl
get_set_same (y ∷ ys) (suc i) x within = get_set_same ys i x (omega arith)

get_set_other : (xs : List ℕ) (i j x : ℕ) → j ≢ i → slice_get (set xs i x) j ≡ slice_get xs j
get_set_other [] i j x other = refl
get_set_other (y ∷ ys) zero zero x other = absurd (other refl)
get_set_other (y ∷ ys) zero (suc j) x other = refl
get_set_other (y ∷ ys) (suc i) zero x other = refl
get_set_other (y ∷ ys) (suc i) (suc j) x other = get_set_other ys i j x (λ same. other (ap suc same))

-- Buckets

-- what holds of the element that has a key
present_with : (key : List ℕ) (bucket : List Stored) (old : Stored) (Fact : Stored → Type 0) → present key bucket ≡ Some old → Fact old → IsPresentWith key bucket Fact
present_with key bucket old Fact is fact = subst (λ found. MatchOption found ⊥ Fact) (sym is) fact

-- a value that is written over the one element with the key
module _ (shape : Shape) (side : Side) (cpu : ℕ) (key value : List ℕ) where
  over_here : (old : Stored) → has_key key old ≡ true → written_over shape side cpu key value old ≡ record old { values = values_written shape side cpu old.values value }
  over_here old is = ap (λ b. if b then record old { values = values_written shape side cpu old.values value } else old) is

  over_other : (other : Stored) → has_key key other ≡ false → written_over shape side cpu key value other ≡ other
  over_other other is = ap (λ b. if b then record other { values = values_written shape side cpu other.values value } else other) is

  over_none : (bodies : List Stored) → list_any (has_key key) bodies ≡ false → map (written_over shape side cpu key value) bodies ≡ bodies
  over_none [] none = refl
  over_none (body ∷ bodies) none =
      let parts = or_parts (has_key key body) (list_any (has_key key) bodies) none in
      (λ i. over_other body parts.0 i ∷ over_none bodies parts.1 i)

  over_middle : (front back : List Stored) (old : Stored) → list_any (has_key key) (front ++ back) ≡ false → has_key key old ≡ true
      → map (written_over shape side cpu key value) (front ++ old ∷ back) ≡ front ++ record old { values = values_written shape side cpu old.values value } ∷ back
  over_middle [] back old none is = (λ i. over_here old is i ∷ over_none back none i)
  over_middle (body ∷ front) back old none is =
      let parts = or_parts (has_key key body) (list_any (has_key key) (front ++ back)) none in
      (λ i. over_other body parts.0 i ∷ over_middle front back old parts.1 is i)

  pub written_in_place : (bucket : List Stored) (old : Stored) → HasDistinctKeys bucket → present key bucket ≡ Some old
      → map (written_over shape side cpu key value) bucket ≡ with_in_place key (record old { values = values_written shape side cpu old.values value }) bucket
  written_in_place bucket old distinct is =
      ap (map (written_over shape side cpu key value)) (find_splits (has_key key) bucket old is)
      ∙ over_middle (before_first (has_key key) bucket) (after_first (has_key key) bucket) old (key_gone key bucket old is distinct) (find_passes (has_key key) bucket old is)

-- Calls

-- these turns do what a call does, which leaves these lists and gives this answer
record Does (shape : Shape) (cpu : ℕ) (verb : Verb) (lists : Finals) (turns : List Turn) (after : Finals × Reply) : Type 0 where
  trace : IsPlainTrace shape cpu (spare_at lists cpu) verb turns after.1
  allowed : AreAllowed shape cpu (content_under lists) turns
  leaves : after_turns shape cpu (content_under lists) turns ≡ content_under after.0
  spare : spare_after (spare_at lists cpu) turns ≡ spare_at after.0 cpu
  other_spares : (other : ℕ) → other ≢ cpu → spare_at after.0 other ≡ spare_at lists other

module _ (shape : Shape) (cpu : ℕ) (lists : Finals) where
  -- the last turn is that of the key's bucket
  last_does : (verb : Verb) (after : Finals × Reply) (looks : List Turn) (middle : Finals) (key : List ℕ) (part : BucketPart)
      → IsPlainTrace shape cpu (spare_at lists cpu) verb (looks ++ on_bucket_of shape key part ∷ []) after.1
      → AreAllowed shape cpu (content_under lists) looks
      → after_turns shape cpu (content_under lists) looks ≡ content_under middle
      → AllowsInBucket shape cpu part (bucket_at shape middle key)
      → after_turn shape cpu (content_under middle) (on_bucket_of shape key part) ≡ content_under after.0
      → spare_after_part (spare_after (spare_at lists cpu) looks) (parts.Bucket part) ≡ spare_at after.0 cpu
      → ((other : ℕ) → other ≢ cpu → spare_at after.0 other ≡ spare_at lists other)
      → Does shape cpu verb lists (looks ++ on_bucket_of shape key part ∷ []) after
  last_does verb after looks middle key part trace looks_allowed looked allowed left spare others = record {
    trace = trace;
    allowed = allowed_more shape cpu (content_under lists) looks (on_bucket_of shape key part ∷ []) looks_allowed
        (subst (λ contents. AreAllowed shape cpu contents (on_bucket_of shape key part ∷ [])) (sym looked) (allowed, tt));
    leaves = after_both shape cpu (content_under lists) looks (on_bucket_of shape key part ∷ []) ∙ ap (λ contents. after_turn shape cpu contents (on_bucket_of shape key part)) looked ∙ left;
    spare = spare_both (spare_at lists cpu) looks (on_bucket_of shape key part ∷ []) ∙ spare;
    other_spares = others;
  }

  -- it is the only one, and changes nothing
  stays_does : (verb : Verb) (reply : Reply) (key : List ℕ) (part : BucketPart)
      → IsPlainTrace shape cpu (spare_at lists cpu) verb (on_bucket_of shape key part ∷ []) reply
      → AllowsInBucket shape cpu part (bucket_at shape lists key)
      → bucket_after shape cpu part (bucket_at shape lists key) ≡ bucket_at shape lists key
      → spare_after_part (spare_at lists cpu) (parts.Bucket part) ≡ spare_at lists cpu
      → Does shape cpu verb lists (on_bucket_of shape key part ∷ []) (lists, reply)
  stays_does verb reply key part trace allowed stays spare =
      last_does verb (lists, reply) [] lists key part trace tt refl allowed (bucket_stays shape cpu lists key part stays) spare (λ other apart. refl)

  -- an element is pushed, and the turn of the bucket takes its key
  gone_does : (verb : Verb) (reply : Reply) (key : List ℕ) (part : BucketPart) (old : Stored)
      → bucket_of_key shape key < length lists.buckets → cpu < length lists.freelists
      → IsPlainTrace shape cpu (spare_at lists cpu) verb (pushes cpu (Some old.element) ++ on_bucket_of shape key part ∷ []) reply
      → AllowsInBucket shape cpu part (bucket_at shape lists key)
      → bucket_after shape cpu part (bucket_at shape lists key) ≡ without_key key (bucket_at shape lists key)
      → spare_after_part (spare_at lists cpu) (parts.Bucket part) ≡ spare_at lists cpu
      → Does shape cpu verb lists (pushes cpu (Some old.element) ++ on_bucket_of shape key part ∷ []) (deleted shape cpu key lists reply (Some old))
  gone_does verb reply key part old here within trace allowed leaves spare =
      let stacks : List (List ℕ) = pushed cpu old.element lists.freelists in
      last_does verb (deleted shape cpu key lists reply (Some old)) (pushes cpu (Some old.element)) (record lists { freelists = stacks }) key part trace (tt, tt)
      (freelist_leaves shape cpu lists cpu (Pushed old.element) (old.element ∷ stack_at lists.freelists cpu) within refl) allowed
      (bucket_leaves shape cpu (record lists { freelists = stacks }) key part (without_key key (bucket_at shape lists key)) here leaves) spare (λ other apart. refl)

  -- a lookup
  lookup_replies : (side : Side) (found : Option Stored) → value_or_absent shape side cpu found ≡ reply_of_got (got_by shape side cpu found)
  lookup_replies side None = refl
  lookup_replies side (Some old) = refl

  lookup_allowed : (side : Side) (key : List ℕ) (bucket : List Stored) (found : Option Stored) → present key bucket ≡ found → AllowsInBucket shape cpu (Lookup side key (got_by shape side cpu found)) bucket
  unfolding AllowsInBucket
  lookup_allowed side key bucket None is = is
  lookup_allowed side key bucket (Some old) is = present_with key bucket old _ is (refl, refl)

  lookup_does : (side : Side) (key : List ℕ)
      → Does shape cpu (verbs.Lookup side key) lists (call_turns shape cpu (verbs.Lookup side key) lists) (after_call shape cpu (verbs.Lookup side key) lists)
  unfolding call_turns after_call bucket_after
  lookup_does side key =
      let found = present key (bucket_at shape lists key) in
      let part = Lookup side key (got_by shape side cpu found) in
      stays_does (verbs.Lookup side key) (value_or_absent shape side cpu found) key part
      (record { got = got_by shape side cpu found; turns_are = refl; reply_is = lookup_replies side found })
      (lookup_allowed side key (bucket_at shape lists key) found refl) refl refl

  -- a delete
  delete_found : (key : List ℕ) (found : Option Stored) → present key (bucket_at shape lists key) ≡ found → bucket_of_key shape key < length lists.buckets → cpu < length lists.freelists
      → Does shape cpu (verbs.Delete key) lists (pushes cpu (option_map (λ (stored : Stored). stored.element) found) ++ on_bucket_of shape key (Delete key (option_map (λ (stored : Stored). stored.element) found)) ∷ [])
      (deleted shape cpu key lists Done found)
  unfolding AllowsInBucket bucket_after
  delete_found key None is here within =
      stays_does (verbs.Delete key) (Refused Enoent) key (Delete key None) (record { gone = None; turns_are = refl; reply_is = refl }) is refl refl
  delete_found key (Some old) is here within =
      gone_does (verbs.Delete key) Done key (Delete key (Some old.element)) old here within (record { gone = Some old.element; turns_are = refl; reply_is = refl })
      (present_with key (bucket_at shape lists key) old _ is refl) refl refl

  delete_does : (key : List ℕ) → bucket_of_key shape key < length lists.buckets → cpu < length lists.freelists
      → Does shape cpu (verbs.Delete key) lists (call_turns shape cpu (verbs.Delete key) lists) (after_call shape cpu (verbs.Delete key) lists)
  unfolding call_turns after_call
  delete_does key here within = delete_found key (present key (bucket_at shape lists key)) refl here within

  -- a take
  take_found : (key : List ℕ) (found : Option Stored) → present key (bucket_at shape lists key) ≡ found → bucket_of_key shape key < length lists.buckets → cpu < length lists.freelists
      → Does shape cpu (verbs.Take key) lists (pushes cpu (element_gone (got_by shape Sys cpu found)) ++ on_bucket_of shape key (Take key (got_by shape Sys cpu found)) ∷ [])
      (deleted shape cpu key lists (value_or_absent shape Sys cpu found) found)
  unfolding AllowsInBucket bucket_after
  take_found key None is here within =
      stays_does (verbs.Take key) (Refused Enoent) key (Take key None) (record { gone = None; turns_are = refl; reply_is = refl }) is refl refl
  take_found key (Some old) is here within =
      let got : ℕ × List ℕ = (old.element, value_read shape Sys cpu old.values) in
      gone_does (verbs.Take key) (Value got.1) key (Take key (Some got)) old here within (record { gone = Some got; turns_are = refl; reply_is = refl })
      (present_with key (bucket_at shape lists key) old _ is (refl, refl)) refl refl

  take_does : (key : List ℕ) → bucket_of_key shape key < length lists.buckets → cpu < length lists.freelists
      → Does shape cpu (verbs.Take key) lists (call_turns shape cpu (verbs.Take key) lists) (after_call shape cpu (verbs.Take key) lists)
  unfolding call_turns after_call
  take_does key here within = take_found key (present key (bucket_at shape lists key)) refl here within

-- an update
module _ (shape : Shape) (cpu : ℕ) (lists : Finals) (built : is_lru shape.kind ≡ false) (bounds : HasBounds shape) (sound : IsSound shape lists) (within : cpu < shape.cpus)
    (side : Side) (flags : ℕ) (key value : List ℕ) where
  abbrev updates : Verb
  updates = verbs.Update side flags key value

  abbrev with_put : Put → BucketPart
  with_put put = Update side flags key value None put

  abbrev own_bucket : List Stored
  own_bucket = bucket_at shape lists key

  bucket_there : bucket_of_key shape key < length lists.buckets
  bucket_there = bucket_within shape key lists bounds sound.lengths

  -- a present key that the flags refuse
  exists_does : (old : Stored) → present key own_bucket ≡ Some old → flags ≡ 1 → Does shape cpu updates lists (on_bucket_of shape key (with_put puts.Exists) ∷ []) (lists, Refused Eexist)
  unfolding AllowsInBucket bucket_after
  exists_does old is one =
      stays_does shape cpu lists updates (Refused Eexist) key (with_put puts.Exists)
      (inr (omega arith, record { put = puts.Exists; looks = []; looks_are = refl; turns_are = refl; reply_is = refl }))
      (present_with key own_bucket old _ is one) refl refl

  -- an absent one
  absent_does : present key own_bucket ≡ None → flags ≡ 2 → Does shape cpu updates lists (on_bucket_of shape key (with_put puts.Absent) ∷ []) (lists, Refused Enoent)
  unfolding AllowsInBucket bucket_after
  absent_does is two =
      stays_does shape cpu lists updates (Refused Enoent) key (with_put puts.Absent)
      (inr (omega arith, record { put = puts.Absent; looks = []; looks_are = refl; turns_are = refl; reply_is = refl }))
      (is, two) refl refl

  -- a present key whose value is written in place
  written_does : (old : Stored) → present key own_bucket ≡ Some old → flags ≤ 2 → flags ≢ 1 → is_percpu shape.kind ≡ true
      → Does shape cpu updates lists (on_bucket_of shape key (with_put (puts.Written old.element)) ∷ []) (written shape side cpu key value lists old, Done)
  unfolding AllowsInBucket bucket_after
  written_does old is low other percpu =
      last_does shape cpu lists updates (written shape side cpu key value lists old, Done) [] lists key (with_put (puts.Written old.element))
      (inr (low, record { put = puts.Written old.element; looks = []; looks_are = refl; turns_are = refl; reply_is = refl })) tt refl
      (present_with key own_bucket old _ is (refl, other, percpu))
      (bucket_leaves shape cpu lists key (with_put (puts.Written old.element)) (with_in_place key (record old { values = values_written shape side cpu old.values value }) own_bucket) bucket_there
      (written_in_place shape side cpu key value own_bucket old (sound.each_bucket (bucket_of_key shape key)).distinct is))
      refl (λ other apart. refl)

  -- a present key whose element is replaced by the spare
  replaced_does : (old : Stored) → present key own_bucket ≡ Some old → flags ≤ 2 → flags ≢ 1 → is_percpu shape.kind ≡ false
      → Does shape cpu updates lists (on_bucket_of shape key (with_put (puts.Replaced (get_or lists.spares cpu 0) old.element)) ∷ []) (replaced shape side cpu key value lists old, Done)
  unfolding AllowsInBucket bucket_after
  replaced_does old is low other shared =
      let spare : ℕ = get_or lists.spares cpu 0 in
      let put : Put = puts.Replaced spare old.element in
      let all : cond (has_spares shape.kind) shape.cpus 0 ≡ shape.cpus = spares_unless_percpu shape.kind shape.cpus built shared in
      let long : length lists.spares ≡ shape.cpus = sound.lengths.spares ∙ all in
      let some : cpu < length lists.spares = omega arith in
      last_does shape cpu lists updates (replaced shape side cpu key value lists old, Done) [] lists key (with_put put)
      (inr (low, record { put = put; looks = []; looks_are = (refl, slice_get-get_or lists.spares cpu 0 some); turns_are = refl; reply_is = refl })) tt refl
      (present_with key own_bucket old _ is (refl, other, shared))
      (bucket_leaves shape cpu lists key (with_put put) (new_stored shape side cpu spare key value ∷ without_key key own_bucket) bucket_there refl)
      (get_set_same lists.spares cpu old.element some) (λ other apart. get_set_other lists.spares cpu other old.element apart)

  -- an absent key, for which an element is popped, if there is one
  added_does : (found : Option ℕ) → first_not_empty cpu lists.freelists ≡ found → present key own_bucket ≡ None → flags ≤ 2 → flags ≢ 2
      → Does shape cpu updates lists (pop_turns cpu lists.freelists found ++ on_bucket_of shape key (with_put (put_popped lists.freelists found)) ∷ [])
      (added shape side cpu key value lists (option_map (popped_at lists.freelists) found))
  unfolding AllowsInBucket bucket_after
  added_does None is absent low other =
      last_does shape cpu lists updates (lists, Refused E2big) (pop_turns cpu lists.freelists None) lists key (with_put puts.Full)
      (inr (low, record { put = puts.Full; looks = pop_turns cpu lists.freelists None; looks_are = none_traced shape cpu lists sound.lengths.freelists; turns_are = refl; reply_is = refl }))
      (pop_allowed shape cpu lists None is) (pop_leaves shape cpu lists None is)
      (absent, other, built)
      (bucket_stays shape cpu lists key (with_put puts.Full) refl) (pop_spare shape cpu lists (spare_at lists cpu) None) (λ other apart. refl)
  added_does (Some giver) is absent low other =
      let top : ℕ = get_or (stack_at lists.freelists giver) 0 0 in
      let looks : List Turn = pop_turns cpu lists.freelists (Some giver) in
      let middle : Finals = lists_popped lists (Some giver) in
      last_does shape cpu lists updates (added shape side cpu key value lists (Some (popped_at lists.freelists giver))) looks middle key (with_put (puts.Added top))
      (inr (low, record { put = puts.Added top; looks = looks; looks_are = pop_traced shape cpu lists giver sound.lengths.freelists is; turns_are = refl; reply_is = refl }))
      (pop_allowed shape cpu lists (Some giver) is) (pop_leaves shape cpu lists (Some giver) is)
      (absent, other)
      (bucket_leaves shape cpu middle key (with_put (puts.Added top)) (new_stored shape side cpu top key value ∷ own_bucket) bucket_there refl)
      (pop_spare shape cpu lists (spare_at lists cpu) (Some giver)) (λ other apart. refl)

  -- a key that is there, and one that isn't
  put_does : (found : Option Stored) → present key own_bucket ≡ found → flags ≤ 2
      → Does shape cpu updates lists (update_turns shape side cpu flags key value lists found) (updated shape side cpu flags key value lists found)
  put_does None is low =
      by_test flags 2
      (λ b. Does shape cpu updates lists (if b then on_bucket_of shape key (with_put puts.Absent) ∷ []
      else pop_turns cpu lists.freelists (first_not_empty cpu lists.freelists) ++ on_bucket_of shape key (with_put (put_popped lists.freelists (first_not_empty cpu lists.freelists))) ∷ [])
      (if b then (lists, Refused Enoent) else added shape side cpu key value lists (popped cpu lists.freelists)))
      (λ two. absent_does is two) (λ other. added_does (first_not_empty cpu lists.freelists) refl is low other)
  put_does (Some old) is low =
      by_test flags 1
      (λ b. Does shape cpu updates lists
      (on_bucket_of shape key (with_put (if b then puts.Exists else (if is_percpu shape.kind then puts.Written old.element else puts.Replaced (get_or lists.spares cpu 0) old.element))) ∷ [])
      (if b then (lists, Refused Eexist) else (if is_percpu shape.kind then written shape side cpu key value lists old else replaced shape side cpu key value lists old, Done)))
      (λ one. exists_does old is one)
      (λ other. by_bool (is_percpu shape.kind)
      (λ b. Does shape cpu updates lists (on_bucket_of shape key (with_put (if b then puts.Written old.element else puts.Replaced (get_or lists.spares cpu 0) old.element)) ∷ [])
      (if b then written shape side cpu key value lists old else replaced shape side cpu key value lists old, Done))
      (λ percpu. written_does old is low other percpu) (λ shared. replaced_does old is low other shared))

  update_does : Does shape cpu updates lists (call_turns shape cpu updates lists) (after_call shape cpu updates lists)
  unfolding call_turns after_call
  update_does =
      by_bool (nat_lt 2 flags)
      (λ b. Does shape cpu updates lists (if b then [] else update_turns shape side cpu flags key value lists (present key own_bucket))
      (if b then (lists, Refused Einval) else updated shape side cpu flags key value lists (present key own_bucket)))
      (λ above. record { trace = inl (ltb-true 2 flags above, refl, refl); allowed = tt; leaves = refl; spare = refl; other_spares = λ other apart. refl })
      (λ known. put_does (present key own_bucket) refl (ltb-false 2 flags known))

-- A call on one key does what its turns do. They are the turns of such a call with the answer that it gives, and each of them
-- may be made at its place. They leave under each lock what lies there after the call, and they leave its CPU the spare that
-- it has then. The other CPUs keep their spares.
pub record DoesTurns (shape : Shape) (cpu : ℕ) (verb : Verb) (lists : Finals) : Type 0 where
  pub trace : IsPlainTrace shape cpu (spare_at lists cpu) verb (call_turns shape cpu verb lists) (after_call shape cpu verb lists).1
  pub allowed : AreAllowed shape cpu (content_under lists) (call_turns shape cpu verb lists)
  pub leaves : (lock : DomainId) → IsTrue (is_lock shape lock)
      → after_turns shape cpu (content_under lists) (call_turns shape cpu verb lists) lock ≡ content_under (after_call shape cpu verb lists).0 lock
  pub spare : spare_after (spare_at lists cpu) (call_turns shape cpu verb lists) ≡ spare_at (after_call shape cpu verb lists).0 cpu
  pub other_spares : (other : ℕ) → other ≢ cpu → spare_at (after_call shape cpu verb lists).0 other ≡ spare_at lists other

-- Each call on one key does what its turns do.
pub does_turns : (shape : Shape) (cpu : ℕ) (verb : Verb) (lists : Finals) → is_lru shape.kind ≡ false → HasBounds shape → IsSound shape lists
    → cpu < shape.cpus → IsKeyVerb verb → DoesTurns shape cpu verb lists
does_turns shape cpu verb lists built bounds sound within is =
    let does = by verb is in
    record {
      trace = does.trace;
      allowed = does.allowed;
      leaves = λ lock real. ap (λ contents. contents lock) does.leaves;
      spare = does.spare;
      other_spares = does.other_spares;
    }
  where
    by : (v : Verb) → IsKeyVerb v → Does shape cpu v lists (call_turns shape cpu v lists) (after_call shape cpu v lists)
    by (verbs.Lookup side key) one = lookup_does shape cpu lists side key
    by (verbs.Update side flags key value) one = update_does shape cpu lists built bounds sound within side flags key value
    by (verbs.Delete key) one = delete_does shape cpu lists key (bucket_within shape key lists bounds sound.lengths) (subst (λ n. cpu < n) (sym sound.lengths.freelists) within)
    by (verbs.Take key) one = take_does shape cpu lists key (bucket_within shape key lists bounds sound.lengths) (subst (λ n. cpu < n) (sym sound.lengths.freelists) within)
    by (verbs.Next key) one = absurd one
    by (verbs.BatchRead remove count start flags) one = absurd one
    by (verbs.BatchUpdate flags pairs) one = absurd one
    by (verbs.BatchDelete flags keys) one = absurd one
    by (verbs.Each flags stop) one = absurd one
