-- Which reply a call has in serial order: one that it may have, where keys and values in the buckets have the map's sizes.
use Rattle.std.proofs.Common.{◌≡◌, ◌≢◌, ℕ, suc, ◌+◌, ◌-◌, ◌<◌, ◌≤◌, Bool, true, false, ◌&&◌, cond, eqb, ltb, List, [], ◌∷◌, ◌++◌, length, map, refl, ap, sym, ◌∙◌, subst, arith}
use Rattle.std.specs.Prelude.{Option, None, Some, All, find, min, option_map, unwrap_or}
use Rattle.std.specs.List.{after_first, list_any, position_or_len}
use Rattle.std.proofs.lemmas.Bool.{ltb-true, ltb-false, eqb-true, eqb-false, and_parts}
use Rattle.std.proofs.lemmas.List.{length-append, length-map}
use Rattle.std.proofs.lemmas.List.Elements.{All-head, All-tail, All-drop, All-weaker}
use Rattle.std.proofs.lemmas.Option.{none-some, same_Some}
use Rattle.map_types.specs.declared.attr.Shape.{Shape}
use Rattle.map_types.specs.declared.call.Call.{Call}
use Rattle.map_types.specs.declared.call.Verb.{Verb}
use Rattle.map_types.specs.declared.call.Verb.TheVariants as verbs
use Rattle.map_types.specs.declared.kind.Side.{Side}
use Rattle.map_types.specs.declared.kind.Side.TheVariants.{Sys}
use Rattle.map_types.specs.declared.refusal.Errno.{Errno}
use Rattle.map_types.specs.declared.refusal.Errno.TheVariants.{Enoent, Einval}
use Rattle.map_types.specs.declared.reply.Reply.{Reply}
use Rattle.map_types.specs.declared.reply.Reply.TheVariants.{Done, Value, Refused, Batch, Count}
use Rattle.map_types.specs.Kind.{is_lru, is_percpu}
use Rattle.map_types.specs.Sides.{value_read, values_written}
use Rattle.map_types.specs.Stored.{Stored}
use Rattle.map_types.specs.ValueLen.{value_len_of}
use Rattle.key_hash.specs.Jhash.{hash}
use Rattle.map_types.specs.declared.kind.DomainId.TheVariants.{Bucket}
use Rattle.place_words.specs.declared.bucket_part.BucketPart.TheVariants.{Walk}
use Rattle.place_words.specs.declared.history.Part.TheVariants as parts
use Rattle.place_words.specs.declared.bucket_part.NextFound.{NextFound}
use Rattle.place_words.specs.declared.bucket_part.NextFound.TheVariants as nexts
use Rattle.place_words.specs.declared.bucket_part.Put.{Put}
use Rattle.place_words.specs.declared.bucket_part.Put.TheVariants as puts
use Rattle.place_words.specs.declared.bucket_part.Walked.{Walked}
use Rattle.place_words.specs.declared.bucket_part.Walked.TheVariants.{Over, Taken}
use Rattle.place_words.specs.Bodies.{has_key, present, first_key, next_key}
use Rattle.place_words.specs.Buckets.{as_read, new_stored}
use Rattle.place_words.specs.Handing.{handed, is_stop, up_to_stop}
use Rattle.place_words.specs.Logs.{State, new_state, all_turned, taken_out, bucket_at, present_in, acquired, popped, Does, first_does, put_offered, put_alone, puts_in, offered, evicting_does, put_popped, plain_does, got_by, key_does, first_or, firsts, following, found_next, goes_on, next_does, walked, after_walk, walks, read_does, counted_or, writes, write_does, after_handing, hands, each_does, does, after_one, answers}
use Rattle.place_words.specs.PlainTraces.{reply_of_put, reply_of_got, reply_of_gone}
use Rattle.place_words.specs.Turns.{ring, on_lock, bucket_of_key}
use Rattle.place_words.specs.Walks.{buckets_from, pair_of, walked_out, refused_with, updates_of, deletes_of}
use Rattle.place_words.proofs.BodiesKept.{BucketsAlong, buckets_along, first_are}
use Rattle.place_words.proofs.EachTurn.{VerbPasses, AreWithin, first_within, others_within, buckets_within}
use Rattle.map_report.specs.Record.{MayAnswer, MayAnswerUpdate, MayGive, MayDelete, MayAnswerRead, MayAnswerWrite, MayAnswerEach, EachAnswered}

-- an element whose key has the map's size, and of whose values each side reads as many bytes as it should
abbrev pub FitsMap : Shape → Stored → Type 0
FitsMap shape body = (length body.key ≡ shape.key_size) × ((side : Side) (cpu : ℕ) → cpu < shape.cpus → length (value_read shape side cpu body.values) ≡ value_len_of shape side)

abbrev pub AllFit : Shape → State → Type 0
AllFit shape state = (bucket : ℕ) → All (λ (body : Stored). FitsMap shape body) (bucket_at shape state bucket)

found_fits : {A : Type 0} (P : A → Type 0) (test : A → Bool) (xs : List A) (x : A) → All P xs → find test xs ≡ Some x → P x
found_fits P test [] x all is = absurd (none-some x is)
found_fits P test (y ∷ xs) x all is = by (test y) is (found_fits P test xs x (All-tail P y xs all))
  where
    by : (b : Bool) → cond b (Some y) (find test xs) ≡ Some x → (find test xs ≡ Some x → P x) → P x
    by true now rest = subst P (same_Some y x now) (All-head P y xs all)
    by false now rest = rest now

after_fit : {A : Type 0} (P : A → Type 0) (test : A → Bool) (xs : List A) → All P xs → All P (after_first test xs)
after_fit P test xs all = All-drop P (position_or_len test xs + 1) xs all

module _ (shape : Shape) (cpu number : ℕ) (within : cpu < shape.cpus) where
  abbrev Fit : Stored → Type 0
  Fit body = FitsMap shape body

  given : (side : Side) (bodies : List Stored) (key : List ℕ) → All (λ (body : Stored). FitsMap shape body) bodies → (found : Option Stored) → present key bodies ≡ found → MayGive (value_len_of shape side) (reply_of_got (got_by shape side cpu found))
  given side bodies key fit None is = refl
  given side bodies key fit (Some body) is = (found_fits Fit (has_key key) bodies body fit is).1 side cpu within

  removed : (gone : Option ℕ) → MayDelete (reply_of_gone gone)
  removed None = refl
  removed (Some e) = tt

  -- Updates
  module _ (flags : ℕ) (few : flags ≤ 2) where
    absent_or : (two : Bool) (put : Put) → eqb flags 2 ≡ two → (flags ≢ 2 → MayAnswerUpdate shape flags (reply_of_put put)) → MayAnswerUpdate shape flags (reply_of_put (cond two puts.Absent put))
    absent_or true put is rest = eqb-true flags 2 is
    absent_or false put is rest = rest (eqb-false flags 2 is)

    exists_or : (one percpu : Bool) (old new : ℕ) → eqb flags 1 ≡ one → MayAnswerUpdate shape flags (reply_of_put (cond one puts.Exists (cond percpu (puts.Written old) (puts.Replaced new old))))
    exists_or true percpu old new is = eqb-true flags 1 is
    exists_or false true old new is = few
    exists_or false false old new is = few

    put_answers : (e : ℕ) (found : Option Stored) → MayAnswerUpdate shape flags (reply_of_put (put_offered shape flags e found))
    put_answers e None = absent_or (eqb flags 2) (puts.Added e) refl (λ other. few)
    put_answers e (Some old) = exists_or (eqb flags 1) (is_percpu shape.kind) old.element e refl

    alone_answers : flags ≡ 2 → (found : Option Stored) → MayAnswerUpdate shape flags (reply_of_put (put_alone found))
    alone_answers two None = two
    alone_answers two (Some old) = few

    offered_answers : is_lru shape.kind ≡ true → (side : Side) (key value : List ℕ) (state : State) (got : Option ℕ) → MayAnswerUpdate shape flags (offered shape cpu number side flags key value state got).reply
    offered_answers lru side key value state None = (few, lru)
    offered_answers lru side key value state (Some e) = put_answers e (present_in shape state key)

    evicting_answers : is_lru shape.kind ≡ true → (side : Side) (key value : List ℕ) (state : State) → MayAnswerUpdate shape flags (evicting_does shape cpu number side flags key value state).reply
    evicting_answers lru side key value state = by (is_percpu shape.kind && eqb flags 2) refl
      where
        by : (alone : Bool) → (is_percpu shape.kind && eqb flags 2) ≡ alone → MayAnswerUpdate shape flags (cond alone (puts_in shape side flags key value (put_alone (present_in shape state key)))
            (first_does (acquired shape cpu number (hash key shape.seed) state).turns (offered shape cpu number side flags key value (all_turned shape cpu number (acquired shape cpu number (hash key shape.seed) state).turns state) (acquired shape cpu number (hash key shape.seed) state).got))).reply
        by true is = alone_answers (eqb-true flags 2 (and_parts (is_percpu shape.kind) (eqb flags 2) is).1) (present_in shape state key)
        by false is = offered_answers lru side key value (all_turned shape cpu number (acquired shape cpu number (hash key shape.seed) state).turns state) (acquired shape cpu number (hash key shape.seed) state).got

    popped_answers : is_lru shape.kind ≡ false → flags ≢ 2 → (got : Option ℕ) → MayAnswerUpdate shape flags (reply_of_put (put_popped got))
    popped_answers plain other None = (omega (arith, few, other), plain)
    popped_answers plain other (Some e) = few

    plain_answers : is_lru shape.kind ≡ false → (side : Side) (key value : List ℕ) (state : State) (found : Option Stored) → MayAnswerUpdate shape flags (plain_does shape cpu side flags key value state found).reply
    plain_answers plain side key value state (Some old) = exists_or (eqb flags 1) (is_percpu shape.kind) old.element (unwrap_or (state.spares cpu) 0) refl
    plain_answers plain side key value state None = by (eqb flags 2) refl
      where
        by : (two : Bool) → eqb flags 2 ≡ two → MayAnswerUpdate shape flags (cond two (puts_in shape side flags key value puts.Absent) (first_does (popped shape state (ring cpu shape.cpus)).turns (puts_in shape side flags key value (put_popped (popped shape state (ring cpu shape.cpus)).got)))).reply
        by true is = eqb-true flags 2 is
        by false is = popped_answers plain (eqb-false flags 2 is) (popped shape state (ring cpu shape.cpus)).got

  update_answers : (side : Side) (flags : ℕ) (key value : List ℕ) (state : State) (many lru : Bool) → ltb 2 flags ≡ many → is_lru shape.kind ≡ lru
      → MayAnswerUpdate shape flags (cond many (record { turns = []; reply = Refused Einval }) (cond lru (evicting_does shape cpu number side flags key value state) (plain_does shape cpu side flags key value state (present_in shape state key)))).reply
  update_answers side flags key value state true lru more kind = ltb-true 2 flags more
  update_answers side flags key value state false true less lru = evicting_answers flags (ltb-false 2 flags less) lru side key value state
  update_answers side flags key value state false false less plain = plain_answers flags (ltb-false 2 flags less) plain side key value state (present_in shape state key)

  -- Next key
  key_fits : (bodies : List Stored) → All (λ (body : Stored). FitsMap shape body) bodies → (key : List ℕ) → first_key bodies ≡ Some key → length key ≡ shape.key_size
  key_fits [] fit key is = absurd (none-some key is)
  key_fits (body ∷ bodies) fit key is = ap (length {A = ℕ}) (sym (same_Some body.key key is)) ∙ (All-head Fit body bodies fit).0

  first_answers : (key : Option (List ℕ)) (later : Does) → ((k : List ℕ) → key ≡ Some k → length k ≡ shape.key_size) → MayGive shape.key_size later.reply → MayGive shape.key_size (first_or key later).reply
  first_answers None later fits rest = rest
  first_answers (Some key) later fits rest = fits key refl

  module _ (state : State) (fit : (bucket : ℕ) → All (λ (body : Stored). FitsMap shape body) (bucket_at shape state bucket)) where
    firsts_answer : (buckets : List ℕ) → MayGive shape.key_size (firsts shape state buckets).reply
    firsts_answer [] = refl
    firsts_answer (bucket ∷ buckets) = first_answers (first_key (bucket_at shape state bucket)) (firsts shape state buckets) (key_fits (bucket_at shape state bucket) (fit bucket)) (firsts_answer buckets)

    goes_answer : (key : List ℕ) (found : NextFound) → ((next : List ℕ) → found ≡ nexts.Key next → length next ≡ shape.key_size) → MayGive shape.key_size (goes_on shape state key found).reply
    goes_answer key nexts.Absent fits = firsts_answer (buckets_from shape 0)
    goes_answer key nexts.Last fits = firsts_answer (buckets_from shape (bucket_of_key shape key + 1))
    goes_answer key (nexts.Key next) fits = fits next refl

    next_fits : (key : List ℕ) (found : Option Stored) (bodies : List Stored) → All (λ (body : Stored). FitsMap shape body) bodies → (next : List ℕ) → found_next key bodies found ≡ nexts.Key next → length next ≡ shape.key_size
    next_fits key None bodies all next is = absurd cc
    next_fits key (Some stored) bodies all next is = by (next_key key bodies) refl is
      where
        by : (after : Option (List ℕ)) → next_key key bodies ≡ after → following after ≡ nexts.Key next → length next ≡ shape.key_size
        by None none now = absurd cc
        by (Some other) some now = let same : other ≡ next = cc in key_fits (after_first (has_key key) bodies) (after_fit Fit (has_key key) bodies all) next (some ∙ ap (λ (k : List ℕ). Some k) same)

    next_answers : (key : Option (List ℕ)) → MayGive shape.key_size (next_does shape state key).reply
    unfolding next_does
    next_answers None = firsts_answer (buckets_from shape 0)
    next_answers (Some key) =
        goes_answer key (found_next key (bucket_at shape state (bucket_of_key shape key)) (present_in shape state key)) (next_fits key (present_in shape state key) (bucket_at shape state (bucket_of_key shape key)) (fit (bucket_of_key shape key)))

  -- Batch reads
  abbrev IsRead : ℕ → Reply → Type 0
  IsRead limit Done = ⊥
  IsRead limit (Value bytes) = ⊥
  IsRead limit (Refused errno) = ⊥
  IsRead limit (Batch stop taken next) = (length taken ≤ limit) × (next ≤ shape.buckets)
  IsRead limit (Count stop done) = ⊥

  walked_few : (room : ℕ) (bodies all : List Stored) → walked shape cpu room bodies ≡ Taken all → length all ≤ room
  walked_few room bodies all is = by (ltb room (length bodies)) refl is
    where
      by : (over : Bool) → ltb room (length bodies) ≡ over → cond over (Over (length bodies)) (Taken (map (as_read shape cpu) bodies)) ≡ Taken all → length all ≤ room
      by true more now = absurd cc
      by false less now = let same : map (as_read shape cpu) bodies ≡ all = cc in omega (arith, ltb-false room (length bodies) less, length-map bodies (as_read shape cpu), ap (length {A = Stored}) same)

  walk_answers : (limit bucket : ℕ) (before : List (List ℕ × List ℕ)) (result : Walked) (later : List (List ℕ × List ℕ) → Does) → bucket < shape.buckets → length before ≤ limit
      → ((all : List Stored) → result ≡ Taken all → length all ≤ limit - length before) → ((now : List (List ℕ × List ℕ)) → length now ≤ limit → IsRead limit (later now).reply) → IsRead limit (after_walk bucket before result later).reply
  walk_answers limit bucket before (Over n) later below few room rest = (few, omega (arith, below))
  walk_answers limit bucket before (Taken all) later below few room rest = rest (before ++ map pair_of all) (omega (arith, room all refl, few, length-append before (map pair_of all), length-map all pair_of))

  walks_answer : (remove : Bool) (limit : ℕ) (state : State) (buckets : List ℕ) → AreWithin (λ bucket. bucket < shape.buckets) buckets → (before : List (List ℕ × List ℕ)) → length before ≤ limit
      → IsRead limit (walks shape cpu number remove limit state buckets before).reply
  walks_answer remove limit state [] below before few = (few, omega arith)
  walks_answer remove limit state (bucket ∷ buckets) below before few =
      let room : ℕ = limit - length before in
      let result : Walked = walked shape cpu room (bucket_at shape state bucket) in
      let next : State = all_turned shape cpu number (taken_out shape cpu number state (walked_out remove result) (on_lock (Bucket bucket) (parts.Bucket (Walk remove room result)))) state in
      walk_answers limit bucket before result (λ now. walks shape cpu number remove limit next buckets now) (first_within (λ b. b < shape.buckets) bucket buckets below) few
      (walked_few room (bucket_at shape state bucket))
      (λ now fewer. walks_answer remove limit next buckets (others_within (λ b. b < shape.buckets) bucket buckets below) now fewer)

  read_is : (limit count flags : ℕ) (reply : Reply) → flags ≡ 0 → limit ≤ count → IsRead limit reply → MayAnswerRead shape count flags reply
  read_is limit count flags Done none less is = absurd is
  read_is limit count flags (Value bytes) none less is = absurd is
  read_is limit count flags (Refused errno) none less is = absurd is
  read_is limit count flags (Batch stop taken next) none less is = (none, omega (arith, less, is.0), is.1)
  read_is limit count flags (Count stop done) none less is = absurd is

  read_answers : (state : State) (remove : Bool) (count : ℕ) (start : Option ℕ) (flags : ℕ) → MayAnswerRead shape count flags (read_does shape cpu number state remove count start flags).reply
  unfolding read_does
  read_answers state remove count start flags = by (eqb flags 0) (eqb count 0) (ltb (unwrap_or start 0) shape.buckets) refl refl
    where
      by : (plainly nothing there : Bool) → eqb flags 0 ≡ plainly → eqb count 0 ≡ nothing
          → MayAnswerRead shape count flags (cond plainly (cond nothing (record { turns = []; reply = Done }) (cond there (walks shape cpu number remove (min count shape.elements) state (buckets_from shape (unwrap_or start 0)) []) (record { turns = []; reply = Refused Enoent }))) (record { turns = []; reply = Refused Einval })).reply
      by true true there none empty = (eqb-true flags 0 none, eqb-true count 0 empty)
      by true false true none some =
          read_is (min count shape.elements) count flags _ (eqb-true flags 0 none) (omega arith) (walks_answer remove (min count shape.elements) state (buckets_from shape (unwrap_or start 0)) (buckets_within shape (unwrap_or start 0)) [] (omega arith))
      by true false false none some = eqb-true flags 0 none
      by false nothing there other empty = eqb-false flags 0 other

  -- Batch writes
  abbrev IsCount : ℕ → Reply → Type 0
  IsCount most Done = ⊥
  IsCount most (Value bytes) = ⊥
  IsCount most (Refused errno) = ⊥
  IsCount most (Batch stop taken next) = ⊥
  IsCount most (Count stop done) = done ≤ most

  counted_answers : (most done : ℕ) (told : Option Errno) (later : Does) → done ≤ most → IsCount most later.reply → IsCount most (counted_or told done later).reply
  counted_answers most done None later few rest = rest
  counted_answers most done (Some errno) later few rest = few

  writes_answer : (state : State) (entries : List Verb) (done most : ℕ) → done + length entries ≤ most → IsCount most (writes shape cpu number state entries done).reply
  writes_answer state [] done most few = omega (arith, few)
  writes_answer state (entry ∷ entries) done most few =
      counted_answers most done (refused_with (key_does shape cpu number state entry).reply) _ (omega (arith, few)) (writes_answer (all_turned shape cpu number (key_does shape cpu number state entry).turns state) entries (suc done) most (omega (arith, few)))

  write_is : (entries flags : ℕ) (reply : Reply) → flags ≡ 0 → IsCount entries reply → MayAnswerWrite entries flags reply
  write_is entries flags Done none is = absurd is
  write_is entries flags (Value bytes) none is = absurd is
  write_is entries flags (Refused errno) none is = absurd is
  write_is entries flags (Batch stop taken next) none is = absurd is
  write_is entries flags (Count stop done) none is = (none, is)

  write_answers : (state : State) (flags : ℕ) (entries : List Verb) (most : ℕ) → length entries ≡ most → MayAnswerWrite most flags (write_does shape cpu number state flags entries).reply
  write_answers state flags entries most long = by (eqb flags 0) refl
    where
      by : (plainly : Bool) → eqb flags 0 ≡ plainly → MayAnswerWrite most flags (cond plainly (writes shape cpu number state entries 0) (record { turns = []; reply = Refused Einval })).reply
      by true none = write_is most flags _ (eqb-true flags 0 none) (writes_answer state entries 0 most (omega (arith, long)))
      by false other = (refl, eqb-false flags 0 other)

  -- Walks over all elements
  abbrev IsHanded : Reply → Type 0
  IsHanded Done = ⊥
  IsHanded (Value bytes) = ⊥
  IsHanded (Refused errno) = ⊥
  IsHanded (Batch stop taken next) = (stop ≡ None) × (length taken ≤ shape.elements) × (next ≤ shape.buckets)
  IsHanded (Count stop done) = ⊥

  up_to_few : (stop : Option (List ℕ)) (pairs : List (List ℕ × List ℕ)) → length (up_to_stop stop pairs) ≤ length pairs
  up_to_few stop [] = omega arith
  up_to_few stop (pair ∷ pairs) = by (is_stop stop pair) (up_to_few stop pairs)
    where
      by : (stops : Bool) → length (up_to_stop stop pairs) ≤ length pairs → length (pair ∷ cond stops [] (up_to_stop stop pairs)) ≤ length (pair ∷ pairs)
      by true few = omega arith
      by false few = omega (arith, few)

  handing_answers : (stop : Option (List ℕ)) (bucket : ℕ) (before : List (List ℕ × List ℕ)) (result : Walked) (later : List (List ℕ × List ℕ) → Does) → bucket < shape.buckets → length before ≤ shape.elements
      → ((all : List Stored) → result ≡ Taken all → length all ≤ shape.elements - length before) → ((now : List (List ℕ × List ℕ)) → length now ≤ shape.elements → IsHanded (later now).reply) → IsHanded (after_handing shape cpu stop bucket before result later).reply
  handing_answers stop bucket before (Over n) later below few room rest = (refl, few, omega (arith, below))
  handing_answers stop bucket before (Taken all) later below few room rest = by (list_any (is_stop stop) pairs)
    where
      pairs : List (List ℕ × List ℕ)
      pairs = map (handed shape cpu) all

      now : List (List ℕ × List ℕ)
      now = before ++ up_to_stop stop pairs

      fewer : length now ≤ shape.elements
      fewer = omega (arith, room all refl, few, length-append before (up_to_stop stop pairs), up_to_few stop pairs, length-map all (handed shape cpu))

      by : (stopped : Bool) → IsHanded (cond stopped (record { turns = []; reply = Batch None now (suc bucket) }) (later now)).reply
      by true = (refl, fewer, omega (arith, below))
      by false = rest now fewer

  hands_answer : (state : State) (stop : Option (List ℕ)) (buckets : List ℕ) → AreWithin (λ bucket. bucket < shape.buckets) buckets → (before : List (List ℕ × List ℕ)) → length before ≤ shape.elements → IsHanded (hands shape cpu state stop buckets before).reply
  hands_answer state stop [] below before few = (refl, few, omega arith)
  hands_answer state stop (bucket ∷ buckets) below before few =
      let room : ℕ = shape.elements - length before in
      handing_answers stop bucket before (walked shape cpu room (bucket_at shape state bucket)) (λ now. hands shape cpu state stop buckets now) (first_within (λ b. b < shape.buckets) bucket buckets below) few
      (walked_few room (bucket_at shape state bucket)) (λ now fewer. hands_answer state stop buckets (others_within (λ b. b < shape.buckets) bucket buckets below) now fewer)

  each_is : (flags : ℕ) (reply : Reply) → flags ≡ 0 → IsHanded reply → MayAnswerEach shape flags reply
  each_is flags Done none is = absurd is
  each_is flags (Value bytes) none is = absurd is
  each_is flags (Refused errno) none is = absurd is
  each_is flags (Batch stop taken next) none is = (none, is.0, is.1, is.2)
  each_is flags (Count stop done) none is = absurd is

  each_answers : (state : State) (flags : ℕ) (stop : Option (List ℕ)) → MayAnswerEach shape flags (each_does shape cpu state flags stop).reply
  unfolding each_does
  each_answers state flags stop = by (eqb flags 0) refl
    where
      by : (plainly : Bool) → eqb flags 0 ≡ plainly → MayAnswerEach shape flags (cond plainly (hands shape cpu state stop (buckets_from shape 0) []) (record { turns = []; reply = Refused Einval })).reply
      by true none = each_is flags _ (eqb-true flags 0 none) (hands_answer state stop (buckets_from shape 0) (buckets_within shape 0) [] (omega arith))
      by false other = (refl, eqb-false flags 0 other)

  -- every call
  pub may_answer : (state : State) → ((bucket : ℕ) → All (λ (body : Stored). FitsMap shape body) (bucket_at shape state bucket)) → (verb : Verb) → MayAnswer shape verb (does shape cpu number state verb).reply
  unfolding does key_does
  may_answer state fit (verbs.Lookup side key) = given side (bucket_at shape state (bucket_of_key shape key)) key (fit (bucket_of_key shape key)) (present_in shape state key) refl
  may_answer state fit (verbs.Update side flags key value) = update_answers side flags key value state (ltb 2 flags) (is_lru shape.kind) refl refl
  may_answer state fit (verbs.Delete key) = removed (option_map (λ (stored : Stored). stored.element) (present_in shape state key))
  may_answer state fit (verbs.Take key) = given Sys (bucket_at shape state (bucket_of_key shape key)) key (fit (bucket_of_key shape key)) (present_in shape state key) refl
  may_answer state fit (verbs.Next key) = next_answers state fit key
  may_answer state fit (verbs.BatchRead remove count start flags) = read_answers state remove count start flags
  may_answer state fit (verbs.BatchUpdate flags pairs) = write_answers state flags (updates_of pairs) (length pairs) (length-map pairs (λ (pair : List ℕ × List ℕ). verbs.Update Sys 0 pair.0 pair.1))
  may_answer state fit (verbs.BatchDelete flags keys) = write_answers state flags (deletes_of keys) (length keys) (length-map keys (λ (key : List ℕ). verbs.Delete key))
  may_answer state fit (verbs.Each flags stop) = each_answers state flags stop

-- All calls of a run, where the buckets fit at each of its moments.
abbrev pub FitAlong : Shape → ℕ → List Call → State → Type 0
FitAlong shape number [] state = Unit {0}
FitAlong shape number (call ∷ calls) state = AllFit shape state × FitAlong shape (suc number) calls (after_one shape number call state)

pub each_answered : (shape : Shape) (number : ℕ) (calls : List Call) (state : State) → All (λ (call : Call). call.cpu < shape.cpus) calls → FitAlong shape number calls state → EachAnswered shape calls (answers shape number calls state)
each_answered shape number [] state served fit = tt
each_answered shape number (call ∷ calls) state served fit = (
  may_answer shape call.cpu number (All-head (λ (one : Call). one.cpu < shape.cpus) call calls served) state fit.0 call.verb,
  each_answered shape (suc number) calls (after_one shape number call state) (All-tail (λ (one : Call). one.cpu < shape.cpus) call calls served) fit.1,
)

-- Where what calls write gives bodies that fit, and writing over one leaves it so, each reply is one that its call may have.
module _ (shape : Shape) (Passes : Side → List ℕ → List ℕ → Type 0) (P : Stored → Type 0)
    (new : (side : Side) (cpu e : ℕ) (key value : List ℕ) → cpu < shape.cpus → Passes side key value → P (new_stored shape side cpu e key value))
    (written : (side : Side) (cpu : ℕ) (key value : List ℕ) (body : Stored) → cpu < shape.cpus → Passes side key value → P body → P (record body { values = values_written shape side cpu body.values value }))
    (fits : (body : Stored) → P body → FitsMap shape body) where
  along_fits : (number : ℕ) (calls : List Call) (state : State) → BucketsAlong shape Passes P new written number calls state → FitAlong shape number calls state
  along_fits number [] state along = tt
  along_fits number (call ∷ calls) state along =
      (λ bucket. All-weaker (λ (body : Stored). P body) (λ (body : Stored). FitsMap shape body) fits (bucket_at shape state bucket) (along.0 bucket), along_fits (suc number) calls (after_one shape number call state) along.1)

  pub all_answered : (calls : List Call) → All (λ (call : Call). call.cpu < shape.cpus) calls → All (λ (call : Call). VerbPasses Passes call.verb) calls → EachAnswered shape calls (answers shape 1 calls (new_state shape))
  all_answered calls served pass =
      each_answered shape 1 calls (new_state shape) served
      (along_fits 1 calls (new_state shape) (buckets_along shape Passes P new written 1 calls (new_state shape) served pass (first_are shape Passes P new written)))
