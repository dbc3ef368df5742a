-- What holds of all turns of every call in serial order, from what holds of those by which elements are taken and freed, and of
-- the turns of buckets and freelists.
use Rattle.std.proofs.Common.{◌≡◌, ℕ, zero, suc, ◌+◌, ◌-◌, ◌<◌, ◌≤◌, Bool, true, false, ◌&&◌, cond, eqb, ltb, List, [], ◌∷◌, ◌++◌, length, reverse, map, refl, ap, sym, ◌∙◌, arith}
use Rattle.std.specs.List.{list_any, range_with_len}
use Rattle.std.specs.Prelude.{Option, None, Some, slice_get, unwrap_or, option_map, option_to_list, min}
use Rattle.std.proofs.lemmas.Bool.{true≢false}
use Rattle.map_types.specs.declared.attr.Shape.{Shape}
use Rattle.map_types.specs.declared.call.Verb.{Verb}
use Rattle.map_types.specs.declared.call.Verb.TheVariants as verbs
use Rattle.map_types.specs.declared.kind.DomainId.TheVariants.{Bucket}
use Rattle.map_types.specs.declared.kind.Side.{Side}
use Rattle.map_types.specs.declared.kind.Side.TheVariants.{Sys}
use Rattle.map_types.specs.declared.refusal.Errno.{Errno}
use Rattle.map_types.specs.declared.refusal.Errno.TheVariants.{Enoent, E2big, Enomem, Eexist, Einval, Enospc}
use Rattle.map_types.specs.declared.reply.Reply.{Reply}
use Rattle.map_types.specs.declared.reply.Reply.TheVariants.{Done, Value, Refused, Batch, Count}
use Rattle.map_types.specs.ElementLists.{times}
use Rattle.map_types.specs.Kind.{is_lru, is_percpu}
use Rattle.map_types.specs.Stored.{Stored}
use Rattle.map_types.proofs.RowLemmas.{by_test}
use Rattle.map_types.specs.Replies.{error_of}
use Rattle.key_hash.specs.Jhash.{hash}
use Rattle.place_words.specs.declared.bucket_part.BucketPart.{BucketPart}
use Rattle.place_words.specs.declared.bucket_part.BucketPart.TheVariants.{Lookup, Update, Delete, Take, Next, First, Walk, Evict}
use Rattle.place_words.specs.declared.bucket_part.NextFound.{NextFound}
use Rattle.place_words.specs.declared.bucket_part.NextFound.TheVariants as nexts
use Rattle.place_words.specs.declared.bucket_part.Put.{Put}
use Rattle.place_words.specs.declared.bucket_part.Put.TheVariants as puts
use Rattle.place_words.specs.declared.bucket_part.Walked.{Walked}
use Rattle.place_words.specs.declared.bucket_part.Walked.TheVariants.{Over, Taken}
use Rattle.place_words.specs.declared.free_part.FreePart.{FreePart}
use Rattle.place_words.specs.declared.free_part.FreePart.TheVariants.{Pushed, Popped, FoundEmpty}
use Rattle.place_words.specs.declared.history.Part.TheVariants as parts
use Rattle.place_words.specs.Evicting.{left_over}
use Rattle.place_words.specs.Handing.{handed, is_stop, up_to_stop}
use Rattle.place_words.specs.Logs.{State, turned, all_turned, bucket_at, freelist_at, present_in, Taking, acquired, freeing, all_freed, taken_out, popped, popped_or, Does, first_does, put_offered, put_alone, puts_in, offered, evicting_does, put_popped, put_present, plain_does, got_by, key_does, first_or, firsts, found_next, goes_on, next_does, walked, after_walk, walks, read_does, counted_or, writes, write_does, after_handing, hands, each_does, does}
use Rattle.place_words.specs.PlainTraces.{element_gone, reply_of_put, reply_of_got, reply_of_gone}
use Rattle.place_words.specs.Turns.{Turn, ring, on_lock, on_bucket_of, on_freelist_of, bucket_of_key}
use Rattle.place_words.specs.Walks.{buckets_from, stopped_at, pair_of, walked_out, refused_with, updates_of, deletes_of}

-- each number in a list is within some bounds
abbrev pub AreWithin : (ℕ → Type 0) → List ℕ → Type 0
AreWithin Within numbers = (x : ℕ) → 1 ≤ times x numbers → Within x

pub first_within : (Within : ℕ → Type 0) (x : ℕ) (xs : List ℕ) → AreWithin Within (x ∷ xs) → Within x
first_within Within x xs within = within x (by_test x x (λ b. 1 ≤ cond b (suc (times x xs)) (times x xs)) (λ same. omega arith) (λ other. absurd (other refl)))

pub others_within : (Within : ℕ → Type 0) (x : ℕ) (xs : List ℕ) → AreWithin Within (x ∷ xs) → AreWithin Within xs
others_within Within x xs within y there = within y (by_test x y (λ b. 1 ≤ cond b (suc (times y xs)) (times y xs)) (λ same. omega arith) (λ other. there))

pub range_within : (from n : ℕ) → AreWithin (λ x. (from ≤ x) × (x < from + n)) (range_with_len from n)
range_within from zero x there = absurd (omega (arith, there))
range_within from (suc n) x there =
    by_test from x (λ b. 1 ≤ cond b (suc (times x (range_with_len (from + 1) n))) (times x (range_with_len (from + 1) n)) → (from ≤ x) × (x < from + suc n))
    (λ same some. (omega (arith, same), omega (arith, same)))
    (λ other some. let rest = range_within (from + 1) n x some in (omega (arith, rest.0), omega (arith, rest.1)))
    there

pub buckets_within : (shape : Shape) (from : ℕ) → AreWithin (λ bucket. bucket < shape.buckets) (buckets_from shape from)
buckets_within shape from x there = let bounds = range_within from (shape.buckets - from) x there in omega (arith, bounds.0, bounds.1)

-- a part of a key's bucket that is no eviction, and writes only this key and what passes
abbrev pub IsOfCall : (Side → List ℕ → List ℕ → Type 0) → List ℕ → BucketPart → Type 0
IsOfCall Passes of (Lookup side key got) = Unit {0}
IsOfCall Passes of (Update side flags key value offer put) = (key ≡ of) × Passes side key value
IsOfCall Passes of (Delete key removed) = Unit {0}
IsOfCall Passes of (Take key removed) = Unit {0}
IsOfCall Passes of (Next key found) = Unit {0}
IsOfCall Passes of (First key) = Unit {0}
IsOfCall Passes of (Walk remove room result) = Unit {0}
IsOfCall Passes of (Evict e probed) = ⊥

-- a part of a walk over buckets: next key's look at a bucket's head, or a batch's turn
abbrev pub IsOfWalk : BucketPart → Type 0
IsOfWalk (Lookup side key got) = ⊥
IsOfWalk (Update side flags key value offer put) = ⊥
IsOfWalk (Delete key removed) = ⊥
IsOfWalk (Take key removed) = ⊥
IsOfWalk (Next key found) = ⊥
IsOfWalk (First key) = Unit {0}
IsOfWalk (Walk remove room result) = Unit {0}
IsOfWalk (Evict e probed) = ⊥

-- a call that writes only what passes
abbrev pub PassAll : (Side → List ℕ → List ℕ → Type 0) → List (List ℕ × List ℕ) → Type 0
PassAll Passes [] = Unit {0}
PassAll Passes (pair ∷ pairs) = Passes Sys pair.0 pair.1 × PassAll Passes pairs

abbrev pub VerbPasses : (Side → List ℕ → List ℕ → Type 0) → Verb → Type 0
VerbPasses Passes (verbs.Lookup side key) = Unit {0}
VerbPasses Passes (verbs.Update side flags key value) = Passes side key value
VerbPasses Passes (verbs.Delete key) = Unit {0}
VerbPasses Passes (verbs.Take key) = Unit {0}
VerbPasses Passes (verbs.Next key) = Unit {0}
VerbPasses Passes (verbs.BatchRead remove count start flags) = Unit {0}
VerbPasses Passes (verbs.BatchUpdate flags pairs) = PassAll Passes pairs
VerbPasses Passes (verbs.BatchDelete flags keys) = Unit {0}
VerbPasses Passes (verbs.Each flags stop) = Unit {0}

-- where everything passes
all_pass : (pairs : List (List ℕ × List ℕ)) → PassAll (λ side key value. Unit {0}) pairs
all_pass [] = tt
all_pass (pair ∷ pairs) = (tt, all_pass pairs)

pub verb_passes : (verb : Verb) → VerbPasses (λ side key value. Unit {0}) verb
verb_passes (verbs.Lookup side key) = tt
verb_passes (verbs.Update side flags key value) = tt
verb_passes (verbs.Delete key) = tt
verb_passes (verbs.Take key) = tt
verb_passes (verbs.Next key) = tt
verb_passes (verbs.BatchRead remove count start flags) = tt
verb_passes (verbs.BatchUpdate flags pairs) = all_pass pairs
verb_passes (verbs.BatchDelete flags keys) = tt
verb_passes (verbs.Each flags stop) = tt

abbrev ArePassing : (Side → List ℕ → List ℕ → Type 0) → List Verb → Type 0
ArePassing Passes [] = Unit {0}
ArePassing Passes (entry ∷ entries) = VerbPasses Passes entry × ArePassing Passes entries

updates_pass : (Passes : Side → List ℕ → List ℕ → Type 0) (pairs : List (List ℕ × List ℕ)) → PassAll Passes pairs → ArePassing Passes (updates_of pairs)
updates_pass Passes [] pass = tt
updates_pass Passes (pair ∷ pairs) pass = (pass.0, updates_pass Passes pairs pass.1)

deletes_pass : (Passes : Side → List ℕ → List ℕ → Type 0) (keys : List (List ℕ)) → ArePassing Passes (deletes_of keys)
deletes_pass Passes [] = tt
deletes_pass Passes (key ∷ keys) = (tt, deletes_pass Passes keys)

-- What is kept of the map by each of these turns, and what it says where no element is found.
pub record TurnLaw (shape : Shape) (cpu number : ℕ) (Passes : Side → List ℕ → List ℕ → Type 0) (Kept : State → Type 0) (Fits : List Turn → Type 0) (Lacks : Type 0) : Type 0 where
  pub none : Fits []
  pub both : (xs ys : List Turn) → Fits xs → Fits ys → Fits (xs ++ ys)
  pub keeps : (turns : List Turn) → Fits turns → (state : State) → Kept state → Kept (all_turned shape cpu number turns state)
  pub in_key : (key : List ℕ) (part : BucketPart) → IsOfCall Passes key part → Fits (on_bucket_of shape key part ∷ [])
  pub in_bucket : (bucket : ℕ) → bucket < shape.buckets → (part : BucketPart) → IsOfWalk part → Fits (on_lock (Bucket bucket) (parts.Bucket part) ∷ [])
  pub pushes : is_lru shape.kind ≡ false → (e : ℕ) → Fits (on_freelist_of cpu (Pushed e) ∷ [])
  pub looks : is_lru shape.kind ≡ false → (from : ℕ) → 1 ≤ times from (ring cpu shape.cpus) → (part : FreePart) → Fits (on_freelist_of from part ∷ [])
  pub frees : is_lru shape.kind ≡ true → (state : State) (e : ℕ) → Fits (freeing shape state e ∷ [])
  pub takes : is_lru shape.kind ≡ true → (key_hash : ℕ) (state : State) → Kept state → Fits (acquired shape cpu number key_hash state).turns
  pub lacks : is_lru shape.kind ≡ true → (key_hash : ℕ) (state : State) → Kept state → (acquired shape cpu number key_hash state).got ≡ None → Lacks

-- an error that isn't ENOMEM
is_enomem : Option Errno → Bool
is_enomem None = false
is_enomem (Some Enoent) = false
is_enomem (Some E2big) = false
is_enomem (Some Enomem) = true
is_enomem (Some Eexist) = false
is_enomem (Some Einval) = false
is_enomem (Some Enospc) = false

other_error : {X : Type 0} (told : Option Errno) → is_enomem told ≡ false → told ≡ Some Enomem → X
unfolding is_enomem
other_error told other is = absurd (true≢false (sym (ap is_enomem is) ∙ other))

put_error : (put : Put) → is_enomem (error_of (reply_of_put put)) ≡ false
unfolding is_enomem
put_error (puts.Added e) = refl
put_error (puts.Replaced new old) = refl
put_error (puts.Written e) = refl
put_error puts.Exists = refl
put_error puts.Absent = refl
put_error puts.Full = refl

got_error : (got : Option (ℕ × List ℕ)) → is_enomem (error_of (reply_of_got got)) ≡ false
unfolding is_enomem
got_error None = refl
got_error (Some got) = refl

gone_error : (gone : Option ℕ) → is_enomem (error_of (reply_of_gone gone)) ≡ false
unfolding is_enomem
gone_error None = refl
gone_error (Some e) = refl

stopped_error : (taken : List (List ℕ × List ℕ)) → is_enomem (stopped_at taken) ≡ false
unfolding is_enomem
stopped_error [] = refl
stopped_error (pair ∷ pairs) = refl

refused_error : (reply : Reply) (errno : Errno) → refused_with reply ≡ Some errno → error_of reply ≡ Some errno
refused_error Done errno is = is
refused_error (Value bytes) errno is = is
refused_error (Refused other) errno is = is
refused_error (Batch stop taken next) errno is = absurd (Rattle.std.proofs.lemmas.Option.none-some errno is)
refused_error (Count stop done) errno is = absurd (Rattle.std.proofs.lemmas.Option.none-some errno is)

-- A call's turns fit, and it answers ENOMEM only where nothing was found.
pub record IsRightly (Fits : List Turn → Type 0) (Lacks : Type 0) (did : Does) : Type 0 where
  pub fits : Fits did.turns
  pub lacks : error_of did.reply ≡ Some Enomem → Lacks

module _ {shape : Shape} {cpu number : ℕ} {Passes : Side → List ℕ → List ℕ → Type 0} {Kept : State → Type 0} {Fits : List Turn → Type 0} {Lacks : Type 0} (law : TurnLaw shape cpu number Passes Kept Fits Lacks) where
  abbrev IsRight : Does → Type 0
  IsRight did = IsRightly Fits Lacks did

  other_reply : (turns : List Turn) (reply : Reply) → Fits turns → is_enomem (error_of reply) ≡ false → IsRight (record { turns = turns; reply = reply })
  other_reply turns reply fits other = record { fits = fits; lacks = λ is. other_error (error_of reply) other is }

  first_right : (turns : List Turn) (later : Does) → Fits turns → IsRight later → IsRight (first_does turns later)
  first_right turns later fits rest = record { fits = law.both turns later.turns fits rest.fits; lacks = rest.lacks }

  one_more : (turn : Turn) (turns : List Turn) → Fits (turn ∷ []) → Fits turns → Fits (turn ∷ turns)
  one_more turn turns one rest = law.both (turn ∷ []) turns one rest

  all_freed_fits : is_lru shape.kind ≡ true → (es : List ℕ) (state : State) → Fits (all_freed shape cpu number state es)
  all_freed_fits lru [] state = law.none
  all_freed_fits lru (e ∷ es) state = one_more (freeing shape state e) _ (law.frees lru state e) (all_freed_fits lru es (turned shape cpu number (freeing shape state e) state))

  pushes_fit : is_lru shape.kind ≡ false → (es : List ℕ) → Fits (map (λ e. on_freelist_of cpu (Pushed e)) es)
  pushes_fit plain [] = law.none
  pushes_fit plain (e ∷ es) = one_more (on_freelist_of cpu (Pushed e)) _ (law.pushes plain e) (pushes_fit plain es)

  taken_out_fits : (state : State) (gone : List ℕ) (turn : Turn) → Fits (turn ∷ []) → Fits (taken_out shape cpu number state gone turn)
  taken_out_fits state gone turn one = by (is_lru shape.kind) refl
    where
      by : (lru : Bool) → is_lru shape.kind ≡ lru → Fits (cond lru (turn ∷ all_freed shape cpu number (turned shape cpu number turn state) (reverse gone)) (map (λ e. on_freelist_of cpu (Pushed e)) gone ++ turn ∷ []))
      by true lru = one_more turn _ one (all_freed_fits lru (reverse gone) (turned shape cpu number turn state))
      by false plain = law.both _ (turn ∷ []) (pushes_fit plain gone) one

  module _ (plain : is_lru shape.kind ≡ false) where
    popped_step : (from : ℕ) → 1 ≤ times from (ring cpu shape.cpus) → (top : Option ℕ) (later : Taking) → Fits later.turns → Fits (popped_or from top later).turns
    popped_step from there None later rest = one_more (on_freelist_of from FoundEmpty) later.turns (law.looks plain from there FoundEmpty) rest
    popped_step from there (Some e) later rest = law.looks plain from there (Popped e)

    popped_fits : (state : State) (cpus : List ℕ) → AreWithin (λ from. 1 ≤ times from (ring cpu shape.cpus)) cpus → Fits (popped shape state cpus).turns
    popped_fits state [] within = law.none
    popped_fits state (from ∷ others) within =
        popped_step from (first_within (λ c. 1 ≤ times c (ring cpu shape.cpus)) from others within) (slice_get (freelist_at shape state from) 0) (popped shape state others)
        (popped_fits state others (others_within (λ c. 1 ≤ times c (ring cpu shape.cpus)) from others within))

  puts_right : (side : Side) (flags : ℕ) (key value : List ℕ) → Passes side key value → (put : Put) → IsRight (puts_in shape side flags key value put)
  puts_right side flags key value pass put = other_reply _ _ (law.in_key key (Update side flags key value None put) (refl, pass)) (put_error put)

  offered_right : is_lru shape.kind ≡ true → (side : Side) (flags : ℕ) (key value : List ℕ) → Passes side key value → (state : State) (got : Option ℕ) → (got ≡ None → Lacks) → IsRight (offered shape cpu number side flags key value state got)
  offered_right lru side flags key value pass state None lacks = record { fits = law.none; lacks = λ is. lacks refl }
  offered_right lru side flags key value pass state (Some e) lacks =
      let put : Put = put_offered shape flags e (present_in shape state key) in
      other_reply _ _
      (one_more (on_bucket_of shape key (Update side flags key value (Some e) put)) _ (law.in_key key (Update side flags key value (Some e) put) (refl, pass)) (all_freed_fits lru (option_to_list (left_over e put)) _))
      (put_error put)

  evicting_right : is_lru shape.kind ≡ true → (side : Side) (flags : ℕ) (key value : List ℕ) → Passes side key value → (state : State) → Kept state → IsRight (evicting_does shape cpu number side flags key value state)
  evicting_right lru side flags key value pass state kept = by (is_percpu shape.kind && eqb flags 2)
    where
      by : (alone : Bool) → IsRight (cond alone (puts_in shape side flags key value (put_alone (present_in shape state key)))
          (first_does (acquired shape cpu number (hash key shape.seed) state).turns (offered shape cpu number side flags key value (all_turned shape cpu number (acquired shape cpu number (hash key shape.seed) state).turns state) (acquired shape cpu number (hash key shape.seed) state).got)))
      by true = puts_right side flags key value pass (put_alone (present_in shape state key))
      by false = first_right _ _ (law.takes lru (hash key shape.seed) state kept) (offered_right lru side flags key value pass (all_turned shape cpu number (acquired shape cpu number (hash key shape.seed) state).turns state) (acquired shape cpu number (hash key shape.seed) state).got (law.lacks lru (hash key shape.seed) state kept))

  plain_right : is_lru shape.kind ≡ false → (side : Side) (flags : ℕ) (key value : List ℕ) → Passes side key value → (state : State) (found : Option Stored) → IsRight (plain_does shape cpu side flags key value state found)
  plain_right plain side flags key value pass state (Some old) = puts_right side flags key value pass (put_present shape flags (state.spares cpu) old)
  plain_right plain side flags key value pass state None = by (eqb flags 2)
    where
      by : (two : Bool) → IsRight (cond two (puts_in shape side flags key value puts.Absent) (first_does (popped shape state (ring cpu shape.cpus)).turns (puts_in shape side flags key value (put_popped (popped shape state (ring cpu shape.cpus)).got))))
      by true = puts_right side flags key value pass puts.Absent
      by false = first_right _ _ (popped_fits plain state (ring cpu shape.cpus) (λ c there. there)) (puts_right side flags key value pass _)

  update_right : (side : Side) (flags : ℕ) (key value : List ℕ) → Passes side key value → (state : State) → Kept state → (many lru : Bool) → is_lru shape.kind ≡ lru
      → IsRight (cond many (record { turns = []; reply = Refused Einval }) (cond lru (evicting_does shape cpu number side flags key value state) (plain_does shape cpu side flags key value state (present_in shape state key))))
  unfolding is_enomem
  update_right side flags key value pass state kept true lru is = other_reply [] (Refused Einval) law.none refl
  update_right side flags key value pass state kept false true is = evicting_right is side flags key value pass state kept
  update_right side flags key value pass state kept false false is = plain_right is side flags key value pass state (present_in shape state key)

  pub key_right : (state : State) → Kept state → (verb : Verb) → VerbPasses Passes verb → IsRight (key_does shape cpu number state verb)
  unfolding key_does is_enomem
  key_right state kept (verbs.Lookup side key) pass =
      let got : Option (ℕ × List ℕ) = got_by shape side cpu (present_in shape state key) in
      other_reply _ _ (law.in_key key (Lookup side key got) tt) (got_error got)
  key_right state kept (verbs.Update side flags key value) pass = update_right side flags key value pass state kept (ltb 2 flags) (is_lru shape.kind) refl
  key_right state kept (verbs.Delete key) pass =
      let gone : Option ℕ = option_map (λ (stored : Stored). stored.element) (present_in shape state key) in
      other_reply _ _ (taken_out_fits state (option_to_list gone) (on_bucket_of shape key (Delete key gone)) (law.in_key key (Delete key gone) tt)) (gone_error gone)
  key_right state kept (verbs.Take key) pass =
      let gone : Option (ℕ × List ℕ) = got_by shape Sys cpu (present_in shape state key) in
      other_reply _ _ (taken_out_fits state (option_to_list (element_gone gone)) (on_bucket_of shape key (Take key gone)) (law.in_key key (Take key gone) tt)) (got_error gone)
  key_right state kept (verbs.Next key) pass = other_reply [] (Refused Einval) law.none refl
  key_right state kept (verbs.BatchRead remove count start flags) pass = other_reply [] (Refused Einval) law.none refl
  key_right state kept (verbs.BatchUpdate flags pairs) pass = other_reply [] (Refused Einval) law.none refl
  key_right state kept (verbs.BatchDelete flags keys) pass = other_reply [] (Refused Einval) law.none refl
  key_right state kept (verbs.Each flags stop) pass = other_reply [] (Refused Einval) law.none refl

  first_step : (key : Option (List ℕ)) (later : Does) → IsRight later → IsRight (first_or key later)
  unfolding is_enomem
  first_step None later rest = rest
  first_step (Some key) later rest = other_reply [] (Value key) law.none refl

  firsts_right : (state : State) (buckets : List ℕ) → AreWithin (λ bucket. bucket < shape.buckets) buckets → IsRight (firsts shape state buckets)
  unfolding is_enomem
  firsts_right state [] within = other_reply [] (Refused Enoent) law.none refl
  firsts_right state (bucket ∷ buckets) within =
      let key : Option (List ℕ) = Rattle.place_words.specs.Bodies.first_key (bucket_at shape state bucket) in
      first_right _ _ (law.in_bucket bucket (first_within (λ b. b < shape.buckets) bucket buckets within) (First key) tt)
      (first_step key _ (firsts_right state buckets (others_within (λ b. b < shape.buckets) bucket buckets within)))

  goes_right : (state : State) (key : List ℕ) (found : NextFound) → IsRight (goes_on shape state key found)
  unfolding is_enomem
  goes_right state key nexts.Absent = firsts_right state (buckets_from shape 0) (buckets_within shape 0)
  goes_right state key nexts.Last = firsts_right state (buckets_from shape (bucket_of_key shape key + 1)) (buckets_within shape (bucket_of_key shape key + 1))
  goes_right state key (nexts.Key next) = other_reply [] (Value next) law.none refl

  next_right : (state : State) (key : Option (List ℕ)) → IsRight (next_does shape state key)
  unfolding next_does
  next_right state None = firsts_right state (buckets_from shape 0) (buckets_within shape 0)
  next_right state (Some key) =
      let found : NextFound = found_next key (bucket_at shape state (bucket_of_key shape key)) (present_in shape state key) in
      first_right _ _ (law.in_key key (Next key found) tt) (goes_right state key found)

  walk_step : (bucket : ℕ) (taken_before : List (List ℕ × List ℕ)) (result : Walked) (later : List (List ℕ × List ℕ) → Does) → ((now : List (List ℕ × List ℕ)) → IsRight (later now)) → IsRight (after_walk bucket taken_before result later)
  walk_step bucket taken_before (Over n) later rest = other_reply [] (Batch (stopped_at taken_before) taken_before bucket) law.none (stopped_error taken_before)
  walk_step bucket taken_before (Taken all) later rest = rest (taken_before ++ map pair_of all)

  walks_right : (remove : Bool) (limit : ℕ) (state : State) → Kept state → (buckets : List ℕ) → AreWithin (λ bucket. bucket < shape.buckets) buckets → (taken_before : List (List ℕ × List ℕ)) → IsRight (walks shape cpu number remove limit state buckets taken_before)
  unfolding is_enomem
  walks_right remove limit state kept [] within taken_before = other_reply [] (Batch (Some Enoent) taken_before shape.buckets) law.none refl
  walks_right remove limit state kept (bucket ∷ buckets) within taken_before =
      let room : ℕ = limit - length taken_before in
      let result : Walked = walked shape cpu room (bucket_at shape state bucket) in
      let turns : List Turn = taken_out shape cpu number state (walked_out remove result) (on_lock (Bucket bucket) (parts.Bucket (Walk remove room result))) in
      let fits : Fits turns = taken_out_fits state (walked_out remove result) (on_lock (Bucket bucket) (parts.Bucket (Walk remove room result))) (law.in_bucket bucket (first_within (λ b. b < shape.buckets) bucket buckets within) (Walk remove room result) tt) in
      first_right turns _ fits (walk_step bucket taken_before result _ (λ now. walks_right remove limit (all_turned shape cpu number turns state) (law.keeps turns fits state kept) buckets (others_within (λ b. b < shape.buckets) bucket buckets within) now))

  read_right : (state : State) → Kept state → (remove : Bool) (count : ℕ) (start : Option ℕ) (flags : ℕ) → IsRight (read_does shape cpu number state remove count start flags)
  unfolding read_does is_enomem
  read_right state kept remove count start flags = by (eqb flags 0) (eqb count 0) (ltb (unwrap_or start 0) shape.buckets)
    where
      by : (plain nothing there : Bool) → IsRight (cond plain (cond nothing (record { turns = []; reply = Done }) (cond there (walks shape cpu number remove (min count shape.elements) state (buckets_from shape (unwrap_or start 0)) []) (record { turns = []; reply = Refused Enoent }))) (record { turns = []; reply = Refused Einval }))
      by true true there = other_reply [] Done law.none refl
      by true false true = walks_right remove (min count shape.elements) state kept (buckets_from shape (unwrap_or start 0)) (buckets_within shape (unwrap_or start 0)) []
      by true false false = other_reply [] (Refused Enoent) law.none refl
      by false nothing there = other_reply [] (Refused Einval) law.none refl

  counted_right : (told : Option Errno) (done : ℕ) (later : Does) → (told ≡ Some Enomem → Lacks) → IsRight later → IsRight (counted_or told done later)
  counted_right None done later lacks rest = rest
  counted_right (Some errno) done later lacks rest = record { fits = law.none; lacks = lacks }

  writes_right : (state : State) → Kept state → (entries : List Verb) → ArePassing Passes entries → (done : ℕ) → IsRight (writes shape cpu number state entries done)
  unfolding is_enomem
  writes_right state kept [] passing done = other_reply [] (Count None done) law.none refl
  writes_right state kept (entry ∷ entries) passing done =
      let one : Does = key_does shape cpu number state entry in
      let right : IsRight one = key_right state kept entry passing.0 in
      first_right one.turns _ right.fits (counted_right (refused_with one.reply) done _ (λ is. right.lacks (refused_error one.reply Enomem is)) (writes_right (all_turned shape cpu number one.turns state) (law.keeps one.turns right.fits state kept) entries passing.1 (suc done)))

  write_right : (state : State) → Kept state → (flags : ℕ) (entries : List Verb) → ArePassing Passes entries → IsRight (write_does shape cpu number state flags entries)
  unfolding is_enomem
  write_right state kept flags entries passing = by (eqb flags 0)
    where
      by : (plain : Bool) → IsRight (cond plain (writes shape cpu number state entries 0) (record { turns = []; reply = Refused Einval }))
      by true = writes_right state kept entries passing 0
      by false = other_reply [] (Refused Einval) law.none refl

  -- Walks over all elements
  handing_step : (stop : Option (List ℕ)) (bucket : ℕ) (before : List (List ℕ × List ℕ)) (result : Walked) (later : List (List ℕ × List ℕ) → Does) → ((now : List (List ℕ × List ℕ)) → IsRight (later now)) → IsRight (after_handing shape cpu stop bucket before result later)
  unfolding is_enomem
  handing_step stop bucket before (Over n) later rest = other_reply [] (Batch None before bucket) law.none refl
  handing_step stop bucket before (Taken all) later rest = by (list_any (is_stop stop) (map (handed shape cpu) all))
    where
      now : List (List ℕ × List ℕ)
      now = before ++ up_to_stop stop (map (handed shape cpu) all)

      by : (stopped : Bool) → IsRight (cond stopped (record { turns = []; reply = Batch None now (suc bucket) }) (later now))
      by true = other_reply [] (Batch None now (suc bucket)) law.none refl
      by false = rest now

  hands_right : (state : State) (stop : Option (List ℕ)) (buckets : List ℕ) → AreWithin (λ bucket. bucket < shape.buckets) buckets → (before : List (List ℕ × List ℕ)) → IsRight (hands shape cpu state stop buckets before)
  unfolding is_enomem
  hands_right state stop [] within before = other_reply [] (Batch None before shape.buckets) law.none refl
  hands_right state stop (bucket ∷ buckets) within before =
      let room : ℕ = shape.elements - length before in
      let result : Walked = walked shape cpu room (bucket_at shape state bucket) in
      first_right _ _ (law.in_bucket bucket (first_within (λ b. b < shape.buckets) bucket buckets within) (Walk false room result) tt)
      (handing_step stop bucket before result _ (λ now. hands_right state stop buckets (others_within (λ b. b < shape.buckets) bucket buckets within) now))

  each_right : (state : State) (flags : ℕ) (stop : Option (List ℕ)) → IsRight (each_does shape cpu state flags stop)
  unfolding each_does is_enomem
  each_right state flags stop = by (eqb flags 0)
    where
      by : (plain : Bool) → IsRight (cond plain (hands shape cpu state stop (buckets_from shape 0) []) (record { turns = []; reply = Refused Einval }))
      by true = hands_right state stop (buckets_from shape 0) (buckets_within shape 0) []
      by false = other_reply [] (Refused Einval) law.none refl

  -- every call
  pub does_right : (state : State) → Kept state → (verb : Verb) → VerbPasses Passes verb → IsRightly Fits Lacks (does shape cpu number state verb)
  unfolding does
  does_right state kept (verbs.Lookup side key) pass = key_right state kept (verbs.Lookup side key) pass
  does_right state kept (verbs.Update side flags key value) pass = key_right state kept (verbs.Update side flags key value) pass
  does_right state kept (verbs.Delete key) pass = key_right state kept (verbs.Delete key) pass
  does_right state kept (verbs.Take key) pass = key_right state kept (verbs.Take key) pass
  does_right state kept (verbs.Next key) pass = next_right state key
  does_right state kept (verbs.BatchRead remove count start flags) pass = read_right state kept remove count start flags
  does_right state kept (verbs.BatchUpdate flags pairs) pass = write_right state kept flags (updates_of pairs) (updates_pass Passes pairs pass)
  does_right state kept (verbs.BatchDelete flags keys) pass = write_right state kept flags (deletes_of keys) (deletes_pass Passes keys)
  does_right state kept (verbs.Each flags stop) pass = each_right state flags stop
