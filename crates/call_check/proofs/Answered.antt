-- Which reply a call may have follows from its turns, where each of them was allowed, and from the sizes of replies.
use Rattle.std.proofs.Common.{◌≡◌, ◌≢◌, ◌⊎◌, inl, inr, ℕ, suc, ◌+◌, ◌-◌, ◌<◌, ◌≤◌, Bool, true, false, ◌&&◌, eqb, ltb, List, [], ◌∷◌, ◌++◌, length, map, Option, None, Some, refl, ap, sym, ◌∙◌, subst, arith}
use Rattle.std.specs.Prelude.{IsFalse, MatchBool, MatchOption, min, unwrap_or}
use Rattle.std.proofs.lemmas.Bool.{eqb-true, eqb-false}
use Rattle.std.proofs.lemmas.List.{length-append, length-map}
use Rattle.map_types.specs.Kind.{is_lru, is_percpu}
use Rattle.map_types.specs.Stored.{Stored}
use Rattle.map_types.specs.declared.attr.Shape.{Shape}
use Rattle.map_types.specs.declared.call.Verb.{Verb}
use Rattle.map_types.specs.declared.call.Verb.TheVariants as verbs
use Rattle.map_types.specs.declared.kind.DomainId.TheVariants.{Bucket}
use Rattle.map_types.specs.declared.kind.Side.{Side}
use Rattle.map_types.specs.declared.kind.Side.TheVariants.{Sys}
use Rattle.map_types.specs.declared.refusal.Errno.{Errno}
use Rattle.map_types.specs.declared.refusal.Errno.TheVariants.{Enoent, Einval, Enomem}
use Rattle.map_types.specs.declared.reply.Reply.{Reply}
use Rattle.map_types.specs.declared.reply.Reply.TheVariants.{Done, Value, Refused, Batch, Count}
use Rattle.map_types.specs.ValueLen.{value_len_of}
use Rattle.place_words.specs.Buckets.{AllowsInBucket, AllowsPut, as_read}
use Rattle.place_words.specs.Bodies.{present}
use Rattle.place_words.specs.Evicting.{IsEvictingDelete, IsEvictingTake, IsEvictingUpdate, IsWriteTrace, IsOfferTrace, OffersOne}
use Rattle.place_words.specs.Handing.{AfterHanding, HandsOver, HandsOverBuckets, IsHandingTrace, StopsAt, handed}
use Rattle.place_words.specs.Histories.{Allows, Content, bucket_in}
use Rattle.place_words.specs.PlainTraces.{IsDeleteTrace, IsLookupTrace, IsTakeTrace, IsUpdateTrace, IsPutTrace, reply_of_got, reply_of_gone, reply_of_put}
use Rattle.place_words.specs.Traces.{IsTrace}
use Rattle.place_words.specs.Turns.{Turn, TurnAt, on_bucket_of, on_freelist_of, on_lock, turns_of}
use Rattle.place_words.specs.Walks.{AfterWalk, Firsts, GoesOn, IsFreedAfter, IsKeyTrace, IsNextTrace, IsReadTrace, IsWriteBatch, TakesOut, Walks, Writes, buckets_from, deletes_of, pair_of, refused_with, spare_left, stopped_at, updates_of, walked_out}
use Rattle.place_words.specs.declared.bucket_part.BucketPart.TheVariants.{Update, Walk}
use Rattle.place_words.specs.declared.bucket_part.NextFound.{NextFound}
use Rattle.place_words.specs.declared.bucket_part.NextFound.TheVariants as nexts
use Rattle.place_words.specs.declared.bucket_part.Put.{Put}
use Rattle.place_words.specs.declared.bucket_part.Put.TheVariants as puts
use Rattle.place_words.specs.declared.bucket_part.Walked.{Walked}
use Rattle.place_words.specs.declared.bucket_part.Walked.TheVariants.{Over, Taken}
use Rattle.place_words.specs.declared.free_part.FreePart.TheVariants.{Pushed}
use Rattle.place_words.specs.declared.history.Part.{Part}
use Rattle.place_words.specs.declared.history.Part.TheVariants as parts
use Rattle.map_report.specs.Record.{MayAnswer, MayAnswerEach, MayAnswerRead, MayAnswerUpdate, MayAnswerWrite, MayDelete, MayGive}
use Rattle.record_shape.specs.ShapedParts.{AreBytes, IsAnswerOf, IsValue, ReplyFits, pair_side}
use Rattle.turn_order.proofs.Members.{IsAmong, among_back, among_front}
use Rattle.call_check.proofs.BelowTicket.{range_among}
use Rattle.call_check.proofs.CarriedSpares.{turns_joined}

-- a part that was allowed by what lay there
abbrev pub IsAllowed : Shape → ℕ → Part → Type 0
IsAllowed shape cpu part = (content : Content) × Allows shape cpu part content

abbrev pub AreAllowedThere : Shape → ℕ → List Turn → Type 0
AreAllowedThere shape cpu turns = (turn : Turn) → IsAmong turn turns → IsAllowed shape cpu turn.part

-- what an update's flags are by what it put
abbrev FlagsOf : Shape → ℕ → Put → Type 0
FlagsOf shape flags (puts.Added e) = Unit {0}
FlagsOf shape flags (puts.Replaced new old) = Unit {0}
FlagsOf shape flags (puts.Written e) = Unit {0}
FlagsOf shape flags puts.Exists = flags ≡ 1
FlagsOf shape flags puts.Absent = flags ≡ 2
FlagsOf shape flags puts.Full = (flags ≢ 2) × IsFalse (is_lru shape.kind)

-- a bucket's part was allowed in a bucket
module _ (shape : Shape) (cpu : ℕ) where
  put_flags : (flags : ℕ) (key : List ℕ) (put : Put) (bucket : List Stored) → AllowsPut shape flags key put bucket → FlagsOf shape flags put
  put_flags flags key (puts.Added e) bucket allows = tt
  put_flags flags key (puts.Replaced new old) bucket allows = tt
  put_flags flags key (puts.Written e) bucket allows = tt
  put_flags flags key puts.Exists bucket allows = by (present key bucket) allows
    where
      by : (o : Option Stored) → MatchOption o ⊥ (λ (body : Stored). flags ≡ 1) → flags ≡ 1
      by None is = absurd is
      by (Some body) is = is
  put_flags flags key puts.Absent bucket allows = allows.1
  put_flags flags key puts.Full bucket allows = (allows.1, allows.2)

  flags_of : (side : Side) (flags : ℕ) (key value : List ℕ) (offer : Option ℕ) (put : Put) → IsAllowed shape cpu (parts.Bucket (Update side flags key value offer put)) → FlagsOf shape flags put
  unfolding AllowsInBucket
  flags_of side flags key value offer put allowed = by (bucket_in allowed.0) allowed.1
    where
      by : (o : Option (List Stored)) → MatchOption o ⊥ (AllowsInBucket shape cpu (Update side flags key value offer put)) → FlagsOf shape flags put
      by None is = absurd is
      by (Some bucket) is = put_flags flags key put bucket is

  room_of : (remove : Bool) (room : ℕ) (all : List Stored) → IsAllowed shape cpu (parts.Bucket (Walk remove room (Taken all))) → length all ≤ room
  unfolding AllowsInBucket
  room_of remove room all allowed = by (bucket_in allowed.0) allowed.1
    where
      by : (o : Option (List Stored)) → MatchOption o ⊥ (AllowsInBucket shape cpu (Walk remove room (Taken all))) → length all ≤ room
      by None is = absurd is
      by (Some bucket) is = let few = is.0 in omega (arith, few, ap (length {A = Stored}) is.1, length-map bucket (as_read shape cpu))

  -- Updates

  put_answers : (flags : ℕ) → flags ≤ 2 → (put : Put) → FlagsOf shape flags put → MayAnswerUpdate shape flags (reply_of_put put)
  put_answers flags few (puts.Added e) is = few
  put_answers flags few (puts.Replaced new old) is = few
  put_answers flags few (puts.Written e) is = few
  put_answers flags few puts.Exists is = is
  put_answers flags few puts.Absent is = is
  put_answers flags few puts.Full is = (let other = is.0 in omega (arith, few, other), is.1)

  module _ (side : Side) (flags : ℕ) (key value : List ℕ) (reply : Reply) where
    refused_answer : 2 < flags → reply ≡ Refused Einval → MayAnswerUpdate shape flags reply
    refused_answer more is = subst (MayAnswerUpdate shape flags) (sym is) more

    told_answer : flags ≤ 2 → (offer : Option ℕ) (put : Put) (turns : List Turn) → AreAllowedThere shape cpu turns → IsAmong {A = Turn} (on_bucket_of shape key (Update side flags key value offer put)) turns
        → reply ≡ reply_of_put put → MayAnswerUpdate shape flags reply
    told_answer few offer put turns legal there is =
        subst (MayAnswerUpdate shape flags) (sym is)
        (put_answers flags few put (flags_of side flags key value offer put (legal (on_bucket_of shape key (Update side flags key value offer put)) there)))

    plain_update : (spare : Option ℕ) (turns : List Turn) → AreAllowedThere shape cpu turns → IsUpdateTrace shape cpu spare side flags key value turns reply → MayAnswerUpdate shape flags reply
    plain_update spare turns legal (inl refused) = refused_answer refused.0 refused.2
    plain_update spare turns legal (inr put) = by put.0 put.1
      where
        by : flags ≤ 2 → IsPutTrace shape cpu spare side flags key value turns reply → MayAnswerUpdate shape flags reply
        by few trace =
            told_answer few None trace.put turns legal
            (subst (λ (l : List Turn). IsAmong {A = Turn} (on_bucket_of shape key (Update side flags key value None trace.put)) l) (sym trace.turns_are)
            (among_back (on_bucket_of shape key (Update side flags key value None trace.put)) trace.looks (on_bucket_of shape key (Update side flags key value None trace.put) ∷ []) (inl refl)))
            trace.reply_is

    offered : (few : flags ≤ 2) (e : ℕ) (taking rest turns : List TurnAt) → turns ≡ taking ++ rest → AreAllowedThere shape cpu (turns_of turns) → OffersOne shape side flags key value e rest reply → MayAnswerUpdate shape flags reply
    offered few e taking rest turns are legal offers =
        let here : Turn = on_bucket_of shape key (Update side flags key value (Some e) offers.put) in
        told_answer few (Some e) offers.put (turns_of turns) legal
        (subst (λ (l : List Turn). IsAmong here l) (sym (ap turns_of are ∙ turns_joined taking rest))
        (among_back here (turns_of taking) (turns_of rest) (subst (λ (l : List Turn). IsAmong here l) (sym (ap turns_of offers.turns_are)) (inl offers.bucket_is))))
        offers.reply_is

    evicting_update : is_lru shape.kind ≡ true → (turns : List TurnAt) → AreAllowedThere shape cpu (turns_of turns) → IsEvictingUpdate shape cpu side flags key value turns reply → MayAnswerUpdate shape flags reply
    evicting_update lru turns legal (inl refused) = refused_answer refused.0 refused.2
    evicting_update lru turns legal (inr known) = by (is_percpu shape.kind && eqb flags 2) known.1
      where
        alone : IsWriteTrace shape side flags key value turns reply → MayAnswerUpdate shape flags reply
        alone trace =
            told_answer known.0 None trace.put (turns_of turns) legal
            (subst (λ (l : List Turn). IsAmong {A = Turn} (on_bucket_of shape key (Update side flags key value None trace.put)) l) (sym trace.turns_are) (inl refl)) trace.reply_is

        taken : (got : Option ℕ) (taking rest : List TurnAt) → turns ≡ taking ++ rest → MatchOption got ((rest ≡ []) × (reply ≡ Refused Enomem)) (λ e. OffersOne shape side flags key value e rest reply) → MayAnswerUpdate shape flags reply
        taken None taking rest are offers = subst (MayAnswerUpdate shape flags) (sym offers.1) (known.0, lru)
        taken (Some e) taking rest are offers = offered known.0 e taking rest turns are legal offers

        by : (b : Bool) → MatchBool b (IsWriteTrace shape side flags key value turns reply) (IsOfferTrace shape cpu side flags key value turns reply) → MayAnswerUpdate shape flags reply
        by true trace = alone trace
        by false trace = taken trace.got trace.taking trace.rest trace.turns_are trace.offers

  -- What gives a value, or nothing

  abbrev IsGiven : Reply → Type 0
  IsGiven reply = (reply ≡ Refused Enoent) ⊎ ((bytes : List ℕ) × (reply ≡ Value bytes))

  may_give : (side : Side) (IsAnswer : List ℕ → Type 0) (size : ℕ) (reply : Reply) → ((bytes : List ℕ) → IsAnswer bytes → length bytes ≡ size) → ReplyFits shape side IsAnswer reply → IsGiven reply → MayGive size reply
  may_give side IsAnswer size reply sized fit (inl none) = subst (MayGive size) (sym none) refl
  may_give side IsAnswer size reply sized fit (inr found) = subst (MayGive size) (sym found.1) (sized found.0 (subst (ReplyFits shape side IsAnswer) found.1 fit))

  got_given : (got : Option (ℕ × List ℕ)) (reply : Reply) → reply ≡ reply_of_got got → IsGiven reply
  got_given None reply is = inl is
  got_given (Some got) reply is = inr (got.1, is)

  gone_answers : (gone : Option ℕ) (reply : Reply) → reply ≡ reply_of_gone gone → MayDelete reply
  gone_answers None reply is = subst MayDelete (sym is) refl
  gone_answers (Some e) reply is = subst MayDelete (sym is) tt

  firsts_given : (buckets : List ℕ) (turns : List Turn) (reply : Reply) → Firsts buckets turns reply → IsGiven reply
  firsts_given [] turns reply firsts = inl firsts.1
  firsts_given (bucket ∷ buckets) turns reply firsts = by firsts.0 firsts.1 firsts.3 (firsts_given buckets)
    where
      by : (key : Option (List ℕ)) (rest : List Turn) → MatchOption key (Firsts buckets rest reply) (λ first. (rest ≡ []) × (reply ≡ Value first)) → ((ts : List Turn) (r : Reply) → Firsts buckets ts r → IsGiven r) → IsGiven reply
      by None rest later each = each rest reply later
      by (Some key) rest found each = inr (key, found.1)

  goes_given : (key : List ℕ) (found : NextFound) (turns : List Turn) (reply : Reply) → GoesOn shape key found turns reply → IsGiven reply
  goes_given key nexts.Absent turns reply goes = firsts_given _ turns reply goes
  goes_given key nexts.Last turns reply goes = firsts_given _ turns reply goes
  goes_given key (nexts.Key next) turns reply goes = inr (next, goes.1)

  next_given : (key : Option (List ℕ)) (turns : List Turn) (reply : Reply) → IsNextTrace shape key turns reply → IsGiven reply
  next_given None turns reply trace = firsts_given _ turns reply trace
  next_given (Some key) turns reply trace = goes_given key trace.found trace.rest reply trace.goes_on

  -- Batch reads

  abbrev IsRead : ℕ → Reply → Type 0
  IsRead limit reply = (stop : Option Errno) × (taken : List (List ℕ × List ℕ)) × (next : ℕ) × (reply ≡ Batch stop taken next) × (length taken ≤ limit) × (next ≤ shape.buckets)

  walk_there : (turn : Turn) (gone : List ℕ) (one : List TurnAt) → TakesOut shape cpu turn gone one → IsAmong turn (turns_of one)
  walk_there turn gone one takes = by (is_lru shape.kind) takes
    where
      by : (lru : Bool) → MatchBool lru (IsFreedAfter shape turn gone one) (turns_of one ≡ map (λ e. on_freelist_of cpu (Pushed e)) gone ++ turn ∷ []) → IsAmong turn (turns_of one)
      by true freed = subst (λ (l : List TurnAt). IsAmong turn (turns_of l)) (sym freed.turns_are) (inl freed.bucket_is)
      by false are = subst (λ (l : List Turn). IsAmong turn l) (sym are) (among_back turn (map (λ e. on_freelist_of cpu (Pushed e)) gone) (turn ∷ []) (inl refl))

  walks_read : (remove : Bool) (limit : ℕ) (buckets : List ℕ) → ((b : ℕ) → IsAmong b buckets → b < shape.buckets) → (taken : List (List ℕ × List ℕ)) → length taken ≤ limit
      → (turns : List TurnAt) (reply : Reply) → AreAllowedThere shape cpu (turns_of turns) → Walks shape cpu remove limit buckets taken turns reply → IsRead limit reply
  walks_read remove limit [] within taken few turns reply legal walks = (Some Enoent, taken, shape.buckets, walks.1, few, omega arith)
  walks_read remove limit (bucket ∷ buckets) within taken few turns reply legal walks =
      by walks.0 walks.1 walks.2 walks.3.0 walks.3.1 walks.3.2 (λ now fewer rest allowed later. walks_read remove limit buckets (λ b there. within b (inr there)) now fewer rest reply allowed later)
    where
      by : (result : Walked) (one rest : List TurnAt) → turns ≡ one ++ rest
          → TakesOut shape cpu (on_lock (Bucket bucket) (parts.Bucket (Walk remove (limit - length taken) result))) (walked_out remove result) one
          → AfterWalk bucket taken rest reply result (λ now. Walks shape cpu remove limit buckets now rest reply)
          → ((now : List (List ℕ × List ℕ)) → length now ≤ limit → (ts : List TurnAt) → AreAllowedThere shape cpu (turns_of ts) → Walks shape cpu remove limit buckets now ts reply → IsRead limit reply)
          → IsRead limit reply
      by (Over n) one rest are takes after each = (stopped_at taken, taken, bucket, after.1, few, let below = within bucket (inl refl) in omega (arith, below))
      by (Taken all) one rest are takes after each =
          let turn : Turn = on_lock (Bucket bucket) (parts.Bucket (Walk remove (limit - length taken) (Taken all))) in
          let parted : turns_of turns ≡ turns_of one ++ turns_of rest = ap turns_of are ∙ turns_joined one rest in
          let room = room_of remove (limit - length taken) all
          (legal turn (subst (λ (l : List Turn). IsAmong turn l) (sym parted) (among_front turn (turns_of one) (turns_of rest) (walk_there turn (walked_out remove (Taken all)) one takes)))) in
          each (taken ++ map pair_of all) (omega (arith, room, few, length-append taken (map pair_of all), length-map all pair_of)) rest
          (λ t there. legal t (subst (λ (l : List Turn). IsAmong t l) (sym parted) (among_back t (turns_of one) (turns_of rest) there))) after

  buckets_below : (first b : ℕ) → IsAmong b (buckets_from shape first) → b < shape.buckets
  buckets_below first b there = let within = range_among first (shape.buckets - first) b there in omega (arith, within.0, within.1)

  read_answers : (remove : Bool) (count : ℕ) (begin : Option ℕ) (flags : ℕ) (turns : List TurnAt) (reply : Reply) → AreAllowedThere shape cpu (turns_of turns) → IsReadTrace shape cpu remove count begin flags turns reply → MayAnswerRead shape count flags reply
  read_answers remove count begin flags turns reply legal trace = by (eqb flags 0) (eqb count 0) (ltb (unwrap_or begin 0) shape.buckets) refl refl trace
    where
      by : (plainly nothing there : Bool) → eqb flags 0 ≡ plainly → eqb count 0 ≡ nothing
          → MatchBool plainly
          (MatchBool nothing ((turns ≡ []) × (reply ≡ Done))
          (MatchBool there (Walks shape cpu remove (min count shape.elements) (buckets_from shape (unwrap_or begin 0)) [] turns reply) ((turns ≡ []) × (reply ≡ Refused Enoent))))
          ((turns ≡ []) × (reply ≡ Refused Einval))
          → MayAnswerRead shape count flags reply
      by true true there none empty is = subst (MayAnswerRead shape count flags) (sym is.1) (eqb-true flags 0 none, eqb-true count 0 empty)
      by true false true none some walks =
          let read = walks_read remove (min count shape.elements) (buckets_from shape (unwrap_or begin 0)) (buckets_below (unwrap_or begin 0)) [] (omega arith) turns reply legal walks in
          subst (MayAnswerRead shape count flags) (sym read.3) (eqb-true flags 0 none, let few = read.4 in omega (arith, few), read.5)
      by true false false none some is = subst (MayAnswerRead shape count flags) (sym is.1) (eqb-true flags 0 none)
      by false nothing there other empty is = subst (MayAnswerRead shape count flags) (sym is.1) (eqb-false flags 0 other)

  -- Batch writes

  abbrev IsCounted : ℕ → Reply → Type 0
  IsCounted most reply = (stop : Option Errno) × (done : ℕ) × (reply ≡ Count stop done) × (done ≤ most)

  writes_count : (spare : Option ℕ) (entries : List Verb) (done most : ℕ) → done + length entries ≤ most → (turns : List TurnAt) (reply : Reply) → Writes shape cpu spare entries done turns reply → IsCounted most reply
  writes_count spare [] done most few turns reply writes = (None, done, writes.1, omega (arith, few))
  writes_count spare (entry ∷ entries) done most few turns reply writes =
      by (refused_with writes.0) writes.3.2 (writes_count (spare_left shape spare writes.1) entries (suc done) most (omega (arith, few)) writes.2 reply)
    where
      by : (o : Option Errno) → MatchOption o (Writes shape cpu (spare_left shape spare writes.1) entries (suc done) writes.2 reply) (λ errno. (writes.2 ≡ []) × (reply ≡ Count (Some errno) done))
          → (Writes shape cpu (spare_left shape spare writes.1) entries (suc done) writes.2 reply → IsCounted most reply) → IsCounted most reply
      by None later each = each later
      by (Some errno) stopped each = (Some errno, done, stopped.1, omega (arith, few))

  write_answers : (spare : Option ℕ) (flags most : ℕ) (entries : List Verb) (turns : List TurnAt) (reply : Reply) → length entries ≤ most → IsWriteBatch shape cpu spare flags entries turns reply → MayAnswerWrite most flags reply
  write_answers spare flags most entries turns reply few trace = by (eqb flags 0) refl trace
    where
      by : (b : Bool) → eqb flags 0 ≡ b → MatchBool b (Writes shape cpu spare entries 0 turns reply) ((turns ≡ []) × (reply ≡ Refused Einval)) → MayAnswerWrite most flags reply
      by true none writes = let counted = writes_count spare entries 0 most (omega (arith, few)) turns reply writes in subst (MayAnswerWrite most flags) (sym counted.2) (eqb-true flags 0 none, counted.3)
      by false other is = subst (MayAnswerWrite most flags) (sym is.1) (refl, eqb-false flags 0 other)

  -- Walks over all elements

  abbrev IsHanded : Reply → Type 0
  IsHanded reply = (taken : List (List ℕ × List ℕ)) × (next : ℕ) × (reply ≡ Batch None taken next) × (length taken ≤ shape.elements) × (next ≤ shape.buckets)

  few_over : (stop : Option (List ℕ)) (pairs over : List (List ℕ × List ℕ)) (stopped : Bool) → HandsOver (StopsAt stop) pairs over stopped → length over ≤ length pairs
  few_over stop [] over stopped hands = omega (arith, ap (length {A = List ℕ × List ℕ}) hands.0)
  few_over stop (pair ∷ pairs) over stopped hands = by hands.0 hands.1 hands.2.0 hands.2.2 (few_over stop pairs)
    where
      by : (stops : Bool) (rest : List (List ℕ × List ℕ)) → over ≡ pair ∷ rest → MatchBool stops ((rest ≡ []) × (stopped ≡ true)) (HandsOver (StopsAt stop) pairs rest stopped)
          → ((o : List (List ℕ × List ℕ)) (s : Bool) → HandsOver (StopsAt stop) pairs o s → length o ≤ length pairs) → length over ≤ suc (length pairs)
      by true rest are ends each = omega (arith, ap (length {A = List ℕ × List ℕ}) are, ap (length {A = List ℕ × List ℕ}) ends.0)
      by false rest are goes each = let few = each rest stopped goes in omega (arith, ap (length {A = List ℕ × List ℕ}) are, few)

  hands_over : (stop : Option (List ℕ)) (buckets : List ℕ) → ((b : ℕ) → IsAmong b buckets → b < shape.buckets) → (before : List (List ℕ × List ℕ)) → length before ≤ shape.elements
      → (turns : List Turn) (reply : Reply) → AreAllowedThere shape cpu turns → HandsOverBuckets shape cpu (StopsAt stop) buckets before turns reply → IsHanded reply
  hands_over stop [] within before few turns reply legal hands = (before, shape.buckets, hands.1, few, omega arith)
  hands_over stop (bucket ∷ buckets) within before few turns reply legal hands =
      by hands.0 hands.1 hands.2.0 hands.2.1 (λ now fewer rest allowed later. hands_over stop buckets (λ b there. within b (inr there)) now fewer rest reply allowed later)
    where
      below : bucket < shape.buckets
      below = within bucket (inl refl)

      by : (result : Walked) (rest : List Turn) → turns ≡ on_lock (Bucket bucket) (parts.Bucket (Walk false (shape.elements - length before) result)) ∷ rest
          → AfterHanding shape cpu (StopsAt stop) bucket before rest reply result (λ now. HandsOverBuckets shape cpu (StopsAt stop) buckets now rest reply)
          → ((now : List (List ℕ × List ℕ)) → length now ≤ shape.elements → (ts : List Turn) → AreAllowedThere shape cpu ts → HandsOverBuckets shape cpu (StopsAt stop) buckets now ts reply → IsHanded reply)
          → IsHanded reply
      by (Over n) rest are after each = (before, bucket, after.1, few, omega (arith, below))
      by (Taken all) rest are after each =
          let turn : Turn = on_lock (Bucket bucket) (parts.Bucket (Walk false (shape.elements - length before) (Taken all))) in
          let room = room_of false (shape.elements - length before) all (legal turn (subst (λ (l : List Turn). IsAmong turn l) (sym are) (inl refl))) in
          let over = few_over stop (map (handed shape cpu) all) after.0 after.1 after.2.0 in
          ends after.1 after.2.1 (omega (arith, over, room, few, length-append before after.0, length-map all (handed shape cpu)))
        where
          ends : (stopped : Bool) → MatchBool stopped ((rest ≡ []) × (reply ≡ Batch None (before ++ after.0) (suc bucket))) (HandsOverBuckets shape cpu (StopsAt stop) buckets (before ++ after.0) rest reply)
              → length (before ++ after.0) ≤ shape.elements → IsHanded reply
          ends true is fewer = (before ++ after.0, suc bucket, is.1, fewer, omega (arith, below))
          ends false goes fewer = each (before ++ after.0) fewer rest (λ t there. legal t (subst (λ (l : List Turn). IsAmong t l) (sym are) (inr there))) goes

  each_answers : (stop : Option (List ℕ)) (flags : ℕ) (turns : List Turn) (reply : Reply) → AreAllowedThere shape cpu turns → IsHandingTrace shape cpu (StopsAt stop) flags turns reply → MayAnswerEach shape flags reply
  each_answers stop flags turns reply legal trace = by (eqb flags 0) refl trace
    where
      by : (b : Bool) → eqb flags 0 ≡ b → MatchBool b (HandsOverBuckets shape cpu (StopsAt stop) (buckets_from shape 0) [] turns reply) ((turns ≡ []) × (reply ≡ Refused Einval)) → MayAnswerEach shape flags reply
      by true none hands =
          let handed_is = hands_over stop (buckets_from shape 0) (buckets_below 0) [] (omega arith) turns reply legal hands in
          subst (MayAnswerEach shape flags) (sym handed_is.2) (eqb-true flags 0 none, refl, handed_is.3, handed_is.4)
      by false other is = subst (MayAnswerEach shape flags) (sym is.1) (refl, eqb-false flags 0 other)

  -- Every call

  abbrev IsKeyAnswer : Option ℕ → Verb → List TurnAt → Reply → Type 0
  IsKeyAnswer spare verb turns reply =
      IsKeyTrace shape cpu spare verb turns reply → AreAllowedThere shape cpu (turns_of turns) → ReplyFits shape (pair_side verb) (IsAnswerOf shape verb) reply → MayAnswer shape verb reply

  lookup_answers : (spare : Option ℕ) (side : Side) (key : List ℕ) (turns : List TurnAt) (reply : Reply) → IsKeyAnswer spare (verbs.Lookup side key) turns reply
  lookup_answers spare side key turns reply trace legal fit = by (is_lru shape.kind) trace
    where
      by : (lru : Bool) → MatchBool lru (IsLookupTrace shape side key (turns_of turns) reply) (IsLookupTrace shape side key (turns_of turns) reply) → MayGive (value_len_of shape side) reply
      by true told = may_give Sys (IsValue shape side) (value_len_of shape side) reply (λ bytes is. is.0.sized) fit (got_given told.got reply told.reply_is)
      by false told = may_give Sys (IsValue shape side) (value_len_of shape side) reply (λ bytes is. is.0.sized) fit (got_given told.got reply told.reply_is)

  update_answers : (spare : Option ℕ) (side : Side) (flags : ℕ) (key value : List ℕ) (turns : List TurnAt) (reply : Reply) → IsKeyAnswer spare (verbs.Update side flags key value) turns reply
  update_answers spare side flags key value turns reply trace legal fit = by (is_lru shape.kind) refl trace
    where
      by : (lru : Bool) → is_lru shape.kind ≡ lru → MatchBool lru (IsEvictingUpdate shape cpu side flags key value turns reply) (IsUpdateTrace shape cpu spare side flags key value (turns_of turns) reply) → MayAnswerUpdate shape flags reply
      by true lru told = evicting_update side flags key value reply lru turns legal told
      by false plain told = plain_update side flags key value reply spare (turns_of turns) legal told

  delete_answers : (spare : Option ℕ) (key : List ℕ) (turns : List TurnAt) (reply : Reply) → IsKeyAnswer spare (verbs.Delete key) turns reply
  delete_answers spare key turns reply trace legal fit = by (is_lru shape.kind) trace
    where
      by : (lru : Bool) → MatchBool lru (IsEvictingDelete shape key turns reply) (IsDeleteTrace shape cpu key (turns_of turns) reply) → MayDelete reply
      by true told = gone_answers told.gone reply told.reply_is
      by false told = gone_answers told.gone reply told.reply_is

  take_answers : (spare : Option ℕ) (key : List ℕ) (turns : List TurnAt) (reply : Reply) → IsKeyAnswer spare (verbs.Take key) turns reply
  take_answers spare key turns reply trace legal fit = by (is_lru shape.kind) trace
    where
      by : (lru : Bool) → MatchBool lru (IsEvictingTake shape key turns reply) (IsTakeTrace shape cpu key (turns_of turns) reply) → MayGive (value_len_of shape Sys) reply
      by true told = may_give Sys (IsValue shape Sys) (value_len_of shape Sys) reply (λ bytes is. is.0.sized) fit (got_given told.gone reply told.reply_is)
      by false told = may_give Sys (IsValue shape Sys) (value_len_of shape Sys) reply (λ bytes is. is.0.sized) fit (got_given told.gone reply told.reply_is)

  pub may_answer : (spare : Option ℕ) (verb : Verb) (turns : List TurnAt) (reply : Reply) → IsTrace shape cpu spare verb turns reply → AreAllowedThere shape cpu (turns_of turns)
      → ReplyFits shape (pair_side verb) (IsAnswerOf shape verb) reply → MayAnswer shape verb reply
  may_answer spare (verbs.Lookup side key) turns reply trace legal fit = lookup_answers spare side key turns reply trace legal fit
  may_answer spare (verbs.Update side flags key value) turns reply trace legal fit = update_answers spare side flags key value turns reply trace legal fit
  may_answer spare (verbs.Delete key) turns reply trace legal fit = delete_answers spare key turns reply trace legal fit
  may_answer spare (verbs.Take key) turns reply trace legal fit = take_answers spare key turns reply trace legal fit
  may_answer spare (verbs.Next key) turns reply trace legal fit = may_give Sys (AreBytes shape.key_size) shape.key_size reply (λ bytes is. is.sized) fit (next_given key (turns_of turns) reply trace)
  may_answer spare (verbs.BatchRead remove count begin flags) turns reply trace legal fit = read_answers remove count begin flags turns reply legal trace
  may_answer spare (verbs.BatchUpdate flags pairs) turns reply trace legal fit =
      write_answers spare flags (length pairs) (updates_of pairs) turns reply (omega (arith, length-map pairs (λ (pair : List ℕ × List ℕ). verbs.Update Sys 0 pair.0 pair.1))) trace
  may_answer spare (verbs.BatchDelete flags keys) turns reply trace legal fit =
      write_answers spare flags (length keys) (deletes_of keys) turns reply (omega (arith, length-map keys (λ (key : List ℕ). verbs.Delete key))) trace
  may_answer spare (verbs.Each flags stop) turns reply trace legal fit = each_answers stop flags (turns_of turns) reply legal trace
