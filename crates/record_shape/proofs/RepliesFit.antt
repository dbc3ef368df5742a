-- The reply of a call fits, since its turns do: what it answers was read in them, and they had room for no more than the map has.
use Rattle.std.proofs.Common.{◌≡◌, ℕ, suc, ◌+◌, ◌-◌, ◌<◌, ◌≤◌, ◌^◌, Bool, true, false, ◌&&◌, eqb, ltb, List, [], ◌∷◌, ◌++◌, length, map, refl, ap, ◌∙◌, sym, subst, arith, inl, inr}
use Rattle.std.specs.Prelude.{Option, None, Some, MatchBool, MatchOption, min, slice_get, unwrap_or}
use Rattle.std.proofs.Math.ListN.{length-map}
use Rattle.std.proofs.lemmas.List.{length-append}
use Rattle.map_types.specs.Kind.{is_lru, is_percpu}
use Rattle.map_types.specs.Stored.{Stored}
use Rattle.map_types.specs.declared.attr.Shape.{Shape}
use Rattle.map_types.specs.declared.call.Verb.{Verb}
use Rattle.map_types.specs.declared.call.Verb.TheVariants as verbs
use Rattle.map_types.specs.declared.kind.DomainId.TheVariants.{Bucket}
use Rattle.map_types.specs.declared.kind.Side.{Side}
use Rattle.map_types.specs.declared.kind.Side.TheVariants.{Prog, Sys}
use Rattle.map_types.specs.declared.refusal.Errno.TheVariants.{Einval, Enoent, Enomem}
use Rattle.map_types.specs.declared.reply.Reply.{Reply}
use Rattle.map_types.specs.declared.reply.Reply.TheVariants.{Batch, Count, Done, Refused, Value}
use Rattle.place_words.specs.Buckets.{AllowsInBucket, as_read}
use Rattle.place_words.specs.Evicting.{IsEvictingTrace, IsEvictingUpdate, IsOfferTrace, IsWriteTrace, OffersOne}
use Rattle.place_words.specs.Handing.{Callback, HandsOver, HandsOverBuckets, IsHandingTrace, StopsAt, handed}
use Rattle.place_words.specs.Histories.{Content, in_bucket, on_freelist, in_locals, in_global, in_own}
use Rattle.place_words.specs.PlainTraces.{IsLookupTrace, IsPlainTrace, IsUpdateTrace, element_gone, pushes, reply_of_gone, reply_of_got, reply_of_put}
use Rattle.place_words.specs.Traces.{IsTrace}
use Rattle.place_words.specs.Turns.{Turn, TurnAt, bucket_of_key, found, on_bucket_of, on_freelist_of, on_lock, turns_of}
use Rattle.place_words.specs.Walks.{Firsts, GoesOn, IsFreedAfter, IsKeyTrace, IsNextTrace, IsReadTrace, IsWriteBatch, TakesOut, Walks, Writes, buckets_from, deletes_of, pair_of, refused_with, spare_left, updates_of, walked_out}
use Rattle.place_words.specs.declared.bucket_part.BucketPart.{BucketPart}
use Rattle.place_words.specs.declared.bucket_part.BucketPart.TheVariants.{Delete, Evict, First, Lookup, Next, Take, Update, Walk}
use Rattle.place_words.specs.declared.bucket_part.NextFound.{NextFound}
use Rattle.place_words.specs.declared.bucket_part.NextFound.TheVariants as nexts
use Rattle.place_words.specs.declared.bucket_part.Put.{Put}
use Rattle.place_words.specs.declared.bucket_part.Put.TheVariants as puts
use Rattle.place_words.specs.declared.bucket_part.Walked.TheVariants.{Over, Taken}
use Rattle.place_words.specs.declared.free_part.FreePart.TheVariants.{Pushed}
use Rattle.place_words.specs.declared.history.Part.{Part}
use Rattle.place_words.specs.declared.history.Part.TheVariants as parts
use Rattle.place_words.proofs.EachTurn.{AreWithin, buckets_within, first_within, others_within}
use Rattle.record_shape.specs.Fits.{AllFit}
use Rattle.record_shape.proofs.Premises.{Gives}
use Rattle.record_shape.specs.ShapedParts.{CountedFit, IsAnswerOf, IsU32, IsValue, PairFits, ReadFits, ReplyFits, TakenFits, pair_side}
use Rattle.record_shape.proofs.SaysLaws.{both_fit}
use Rattle.record_shape.proofs.ValueLemmas.{handed_is_value}
use Rattle.record_shape.proofs.BucketsFit.{AreRight, Fitting, Known, Lies, TurnsFit, all_map, all_split, lies_there}
use Rattle.record_shape.proofs.TakingsFit.{by_cases, by_option}

-- ---- turns that fit, and had room for what they took

abbrev BucketRoom : BucketPart → Type 0
BucketRoom (Lookup side key got) = Unit {0}
BucketRoom (Update side flags key value offer put) = Unit {0}
BucketRoom (Delete key removed) = Unit {0}
BucketRoom (Take key removed) = Unit {0}
BucketRoom (Next key found) = Unit {0}
BucketRoom (First key) = Unit {0}
BucketRoom (Walk remove room (Over n)) = Unit {0}
BucketRoom (Walk remove room (Taken all)) = length all ≤ room
BucketRoom (Evict e probed) = Unit {0}

abbrev HasRoom : Part → Type 0
HasRoom (parts.Bucket part) = BucketRoom part
HasRoom (parts.Free part) = Unit {0}
HasRoom (parts.Local part) = Unit {0}
HasRoom (parts.Global part) = Unit {0}
HasRoom (parts.Own part) = Unit {0}

bucket_room : (shape : Shape) (cpu : ℕ) (part : BucketPart) (bodies : List Stored) → AllowsInBucket shape cpu part bodies → BucketRoom part
unfolding AllowsInBucket
bucket_room shape cpu (Lookup side key got) bodies allowed = tt
bucket_room shape cpu (Update side flags key value offer put) bodies allowed = tt
bucket_room shape cpu (Delete key removed) bodies allowed = tt
bucket_room shape cpu (Take key removed) bodies allowed = tt
bucket_room shape cpu (Next key found) bodies allowed = tt
bucket_room shape cpu (First key) bodies allowed = tt
bucket_room shape cpu (Walk remove room (Over n)) bodies allowed = tt
bucket_room shape cpu (Walk remove room (Taken all)) bodies allowed =
    let long : length all ≡ length bodies = ap length allowed.1 ∙ length-map bodies (as_read shape cpu) in
    omega (arith, allowed.0, long)
bucket_room shape cpu (Evict e probed) bodies allowed = tt

room_lies : (shape : Shape) (cpu : ℕ) (part : Part) (content : Content) → Lies shape cpu part content → HasRoom part
room_lies shape cpu (parts.Bucket part) (in_bucket bodies) lies = bucket_room shape cpu part bodies lies.allowed
room_lies shape cpu (parts.Bucket part) (on_freelist stack) lies = absurd lies.allowed
room_lies shape cpu (parts.Bucket part) (in_locals lists) lies = absurd lies.allowed
room_lies shape cpu (parts.Bucket part) (in_global set) lies = absurd lies.allowed
room_lies shape cpu (parts.Bucket part) (in_own set) lies = absurd lies.allowed
room_lies shape cpu (parts.Free part) content lies = tt
room_lies shape cpu (parts.Local part) content lies = tt
room_lies shape cpu (parts.Global part) content lies = tt
room_lies shape cpu (parts.Own part) content lies = tt

abbrev IsTold : Shape → Turn → Type 0
IsTold shape turn = Fitting shape turn × HasRoom turn.part

abbrev AreTold : Shape → List Turn → Type 0
AreTold shape turns = AllFit (IsTold shape) turns

abbrev ToldAt : Shape → List TurnAt → Type 0
ToldAt shape turns = AllFit (λ (at : TurnAt). IsTold shape at.turn) turns

told_at : (shape : Shape) (cpu : ℕ) (turns : List TurnAt) → AreRight shape cpu turns → TurnsFit shape turns → ToldAt shape turns
told_at shape cpu [] right fits = tt
told_at shape cpu (at ∷ turns) right fits =
    ((fits.0, room_lies shape cpu at.turn.part (found shape at) (lies_there shape cpu at at.turn refl right.0)), told_at shape cpu turns right.1 fits.1)

are_told : (shape : Shape) (turns : List TurnAt) (told : List Turn) → turns_of turns ≡ told → ToldAt shape turns → AreTold shape told
are_told shape turns told is fits = subst (AreTold shape) is (all_map (IsTold shape) (λ (at : TurnAt). at.turn) turns fits)

told_split : (shape : Shape) (turns one rest : List TurnAt) → turns ≡ one ++ rest → ToldAt shape turns → ToldAt shape one × ToldAt shape rest
told_split shape turns one rest is told = all_split (λ (at : TurnAt). IsTold shape at.turn) one rest (subst (ToldAt shape) is told)

-- ---- replies of calls on one key

got_reply : (shape : Shape) (of side : Side) (got : Option (ℕ × List ℕ)) → ReadFits shape side got → ReplyFits shape of (IsValue shape side) (reply_of_got got)
got_reply shape of side None fits = tt
got_reply shape of side (Some got) fits = fits.1

put_reply : (shape : Shape) (of : Side) (IsAnswer : List ℕ → Type 0) (put : Put) → ReplyFits shape of IsAnswer (reply_of_put put)
put_reply shape of IsAnswer (puts.Added e) = tt
put_reply shape of IsAnswer (puts.Replaced new old) = tt
put_reply shape of IsAnswer (puts.Written e) = tt
put_reply shape of IsAnswer puts.Exists = tt
put_reply shape of IsAnswer puts.Absent = tt
put_reply shape of IsAnswer puts.Full = tt

gone_reply : (shape : Shape) (of : Side) (IsAnswer : List ℕ → Type 0) (gone : Option ℕ) → ReplyFits shape of IsAnswer (reply_of_gone gone)
gone_reply shape of IsAnswer None = tt
gone_reply shape of IsAnswer (Some e) = tt

module _ (shape : Shape) where
  abbrev Answers : Verb → Reply → Type 0
  Answers verb reply = ReplyFits shape (pair_side verb) (IsAnswerOf shape verb) reply

  answered : (verb : Verb) (reply other : Reply) → reply ≡ other → Answers verb other → Answers verb reply
  answered verb reply other is fits = subst (Answers verb) (sym is) fits

  lookup_reply : (side : Side) (key : List ℕ) (turns : List Turn) (reply : Reply) → IsLookupTrace shape side key turns reply → AreTold shape turns
      → Answers (verbs.Lookup side key) reply
  lookup_reply side key turns reply trace told =
      let fits = subst (AreTold shape) trace.turns_are told in
      answered (verbs.Lookup side key) reply (reply_of_got trace.got) trace.reply_is (got_reply shape Sys side trace.got fits.0.0.1)

  update_reply : (spare : Option ℕ) (cpu : ℕ) (side : Side) (flags : ℕ) (key value : List ℕ) (turns : List Turn) (reply : Reply)
      → IsUpdateTrace shape cpu spare side flags key value turns reply
      → Answers (verbs.Update side flags key value) reply
  update_reply spare cpu side flags key value turns reply (inl refused) = answered (verbs.Update side flags key value) reply (Refused Einval) refused.2 tt
  update_reply spare cpu side flags key value turns reply (inr made) =
      let verb : Verb = verbs.Update side flags key value in
      answered verb reply (reply_of_put made.1.put) made.1.reply_is (put_reply shape Sys (IsAnswerOf shape verb) made.1.put)

  plain_reply : (cpu : ℕ) (spare : Option ℕ) (verb : Verb) (turns : List Turn) (reply : Reply) → IsPlainTrace shape cpu spare verb turns reply
      → AreTold shape turns → Answers verb reply
  plain_reply cpu spare (verbs.Lookup side key) turns reply trace told = lookup_reply side key turns reply trace told
  plain_reply cpu spare (verbs.Update side flags key value) turns reply trace told = update_reply spare cpu side flags key value turns reply trace
  plain_reply cpu spare (verbs.Delete key) turns reply trace told =
      answered (verbs.Delete key) reply (reply_of_gone trace.gone) trace.reply_is (gone_reply shape Sys (IsAnswerOf shape (verbs.Delete key)) trace.gone)
  plain_reply cpu spare (verbs.Take key) turns reply trace told =
      let fits =
      all_split (IsTold shape) (pushes cpu (element_gone trace.gone)) (on_bucket_of shape key (Take key trace.gone) ∷ [])
      (subst (AreTold shape) trace.turns_are told) in
      answered (verbs.Take key) reply (reply_of_got trace.gone) trace.reply_is (got_reply shape Sys Sys trace.gone fits.1.0.0.1)
  plain_reply cpu spare (verbs.Next key) turns reply trace told = absurd trace
  plain_reply cpu spare (verbs.BatchRead remove count start flags) turns reply trace told = absurd trace
  plain_reply cpu spare (verbs.BatchUpdate flags pairs) turns reply trace told = absurd trace
  plain_reply cpu spare (verbs.BatchDelete flags keys) turns reply trace told = absurd trace
  plain_reply cpu spare (verbs.Each flags stop) turns reply trace told = absurd trace

  evicting_update_reply : (cpu : ℕ) (side : Side) (flags : ℕ) (key value : List ℕ) (turns : List TurnAt) (reply : Reply)
      → IsEvictingUpdate shape cpu side flags key value turns reply
      → Answers (verbs.Update side flags key value) reply
  evicting_update_reply cpu side flags key value turns reply (inl refused) = answered (verbs.Update side flags key value) reply (Refused Einval) refused.2 tt
  evicting_update_reply cpu side flags key value turns reply (inr made) =
      let verb : Verb = verbs.Update side flags key value in
      by_cases (is_percpu shape.kind && eqb flags 2) (IsWriteTrace shape side flags key value turns reply)
      (IsOfferTrace shape cpu side flags key value turns reply) (Answers verb reply)
      (λ writes. answered verb reply (reply_of_put writes.put) writes.reply_is (put_reply shape Sys (IsAnswerOf shape verb) writes.put))
      (λ trace. by_option trace.got ((trace.rest ≡ []) × (reply ≡ Refused Enomem)) (Answers verb reply) (λ e. OffersOne shape side flags key value e trace.rest reply)
      (λ none. answered verb reply (Refused Enomem) none.1 tt)
      (λ e is offered. answered verb reply (reply_of_put offered.put) offered.reply_is (put_reply shape Sys (IsAnswerOf shape verb) offered.put))
      trace.offers)
      made.1

  evicting_reply : (cpu : ℕ) (verb : Verb) (turns : List TurnAt) (reply : Reply) → IsEvictingTrace shape cpu verb turns reply → ToldAt shape turns
      → Answers verb reply
  evicting_reply cpu (verbs.Lookup side key) turns reply trace told =
      lookup_reply side key (turns_of turns) reply trace (are_told shape turns (turns_of turns) refl told)
  evicting_reply cpu (verbs.Update side flags key value) turns reply trace told = evicting_update_reply cpu side flags key value turns reply trace
  evicting_reply cpu (verbs.Delete key) turns reply trace told =
      answered (verbs.Delete key) reply (reply_of_gone trace.gone) trace.reply_is (gone_reply shape Sys (IsAnswerOf shape (verbs.Delete key)) trace.gone)
  evicting_reply cpu (verbs.Take key) turns reply trace told =
      let fits = subst (IsTold shape) trace.bucket_is (subst (ToldAt shape) trace.turns_are told).0 in
      answered (verbs.Take key) reply (reply_of_got trace.gone) trace.reply_is (got_reply shape Sys Sys trace.gone fits.0.1)
  evicting_reply cpu (verbs.Next key) turns reply trace told = absurd trace
  evicting_reply cpu (verbs.BatchRead remove count start flags) turns reply trace told = absurd trace
  evicting_reply cpu (verbs.BatchUpdate flags pairs) turns reply trace told = absurd trace
  evicting_reply cpu (verbs.BatchDelete flags keys) turns reply trace told = absurd trace
  evicting_reply cpu (verbs.Each flags stop) turns reply trace told = absurd trace

  key_reply : (cpu : ℕ) (spare : Option ℕ) (verb : Verb) (turns : List TurnAt) (reply : Reply) → IsKeyTrace shape cpu spare verb turns reply
      → ToldAt shape turns → Answers verb reply
  key_reply cpu spare verb turns reply trace told =
      by_cases (is_lru shape.kind) (IsEvictingTrace shape cpu verb turns reply) (IsPlainTrace shape cpu spare verb (turns_of turns) reply) (Answers verb reply)
      (λ evicting. evicting_reply cpu verb turns reply evicting told)
      (λ plain. plain_reply cpu spare verb (turns_of turns) reply plain (are_told shape turns (turns_of turns) refl told))
      trace

  -- ---- next key

  firsts_reply : (key : Option (List ℕ)) (buckets : List ℕ) (turns : List Turn) (reply : Reply) → Firsts buckets turns reply → AreTold shape turns
      → Answers (verbs.Next key) reply
  firsts_reply key [] turns reply firsts told = answered (verbs.Next key) reply (Refused Enoent) firsts.1 tt
  firsts_reply key (bucket ∷ buckets) turns reply (first, rest, is, goes_on) told =
      by first (subst (AreTold shape) is told) (λ more fits. firsts_reply key buckets rest reply more fits) goes_on
    where
      by : (head : Option (List ℕ)) → AreTold shape (on_lock (Bucket bucket) (parts.Bucket (First head)) ∷ rest)
          → (Firsts buckets rest reply → AreTold shape rest → Answers (verbs.Next key) reply)
          → MatchOption head (Firsts buckets rest reply) (λ found. (rest ≡ []) × (reply ≡ Value found)) → Answers (verbs.Next key) reply
      by None fits later more = later more fits.1
      by (Some found) fits later ends = answered (verbs.Next key) reply (Value found) ends.1 fits.0.0

  goes_on_reply : (of : Option (List ℕ)) (key : List ℕ) (next : NextFound) (turns : List Turn) (reply : Reply) → GoesOn shape key next turns reply
      → AreTold shape (on_bucket_of shape key (Next key next) ∷ turns) → Answers (verbs.Next of) reply
  goes_on_reply of key nexts.Absent turns reply goes told = firsts_reply of (buckets_from shape 0) turns reply goes told.1
  goes_on_reply of key nexts.Last turns reply goes told = firsts_reply of (buckets_from shape (bucket_of_key shape key + 1)) turns reply goes told.1
  goes_on_reply of key (nexts.Key next) turns reply goes told = answered (verbs.Next of) reply (Value next) goes.1 told.0.0.1

  next_reply : (key : Option (List ℕ)) (turns : List Turn) (reply : Reply) → IsNextTrace shape key turns reply → AreTold shape turns → Answers (verbs.Next key) reply
  next_reply None turns reply trace told = firsts_reply None (buckets_from shape 0) turns reply trace told
  next_reply (Some key) turns reply trace told = goes_on_reply (Some key) key trace.found trace.rest reply trace.goes_on (subst (AreTold shape) trace.turns_are told)

  -- ---- batch writes

  writes_reply : (verb : Verb) (cpu : ℕ) (spare : Option ℕ) (entries : List Verb) (done : ℕ) (turns : List TurnAt) (reply : Reply)
      → Writes shape cpu spare entries done turns reply
      → done + length entries < 2 ^ 32 → Answers verb reply
  writes_reply verb cpu spare [] done turns reply writes few = answered verb reply (Count None done) writes.1 (omega (arith, few))
  writes_reply verb cpu spare (entry ∷ entries) done turns reply (answer, one, rest, (is, trace, goes_on)) few =
      by_option (refused_with answer) (Writes shape cpu (spare_left shape spare one) entries (suc done) rest reply) (Answers verb reply)
      (λ errno. (rest ≡ []) × (reply ≡ Count (Some errno) done))
      (λ more. writes_reply verb cpu (spare_left shape spare one) entries (suc done) rest reply more (omega (arith, few)))
      (λ errno found ends. answered verb reply (Count (Some errno) done) ends.1 (omega (arith, few)))
      goes_on

  write_batch_reply : (verb : Verb) (cpu : ℕ) (spare : Option ℕ) (flags : ℕ) (entries : List Verb) (turns : List TurnAt) (reply : Reply)
      → IsWriteBatch shape cpu spare flags entries turns reply
      → length entries < 2 ^ 32 → Answers verb reply
  write_batch_reply verb cpu spare flags entries turns reply trace few =
      by_cases (eqb flags 0) (Writes shape cpu spare entries 0 turns reply) ((turns ≡ []) × (reply ≡ Refused Einval)) (Answers verb reply)
      (λ writes. writes_reply verb cpu spare entries 0 turns reply writes (omega (arith, few)))
      (λ refused. answered verb reply (Refused Einval) refused.1 tt)
      trace

  -- ---- batch reads, and walks over all elements

  -- the value of a pair is the one of its element
  pair_value : (stored : Stored) → TakenFits shape stored → IsValue shape Sys (pair_of stored).1
  pair_value stored fits = subst (λ (values : List (List ℕ)). IsValue shape Sys (unwrap_or (slice_get values 0) [])) (sym fits.is) fits.fits

  pairs_taken : (all : List Stored) → AllFit (TakenFits shape) all → AllFit (PairFits shape Sys) (map pair_of all)
  pairs_taken [] fits = tt
  pairs_taken (stored ∷ all) fits = ((fits.0.key, pair_value stored fits.0), pairs_taken all fits.1)

  -- so many pairs are told, and a bucket or the number of buckets
  batch_fits : (side : Side) (next : ℕ) (pairs : List (List ℕ × List ℕ)) → next ≤ 131072 → length pairs ≤ 65566 → AllFit (PairFits shape side) pairs
      → IsU32 next × CountedFit (PairFits shape side) pairs
  batch_fits side next pairs below few fits = (omega (arith, below), (omega (arith, few), fits))

  module _ (cpu : ℕ) (known : Known shape cpu) where
    -- the bucket's turn of a batch
    taken_told : (turn : Turn) (gone : List ℕ) (turns : List TurnAt) → TakesOut shape cpu turn gone turns → ToldAt shape turns → IsTold shape turn
    taken_told turn gone turns takes told =
        let pushed : List Turn = map (λ e. on_freelist_of cpu (Pushed e)) gone in
        by_cases (is_lru shape.kind) (IsFreedAfter shape turn gone turns) (turns_of turns ≡ pushed ++ turn ∷ []) (IsTold shape turn)
        (λ freed. subst (IsTold shape) freed.bucket_is (subst (ToldAt shape) freed.turns_are told).0)
        (λ is. (all_split (IsTold shape) pushed (turn ∷ []) (are_told shape turns (pushed ++ turn ∷ []) is told)).1.0)
        takes

    -- buckets one after another, with room for what the batch may take
    walks_reply : (remove : Bool) (limit : ℕ) (verb : Verb) → pair_side verb ≡ Sys → limit ≤ shape.elements → (buckets : List ℕ)
        → AreWithin (λ bucket. bucket < shape.buckets) buckets
        → (taken : List (List ℕ × List ℕ)) → AllFit (PairFits shape Sys) taken → length taken ≤ limit → (turns : List TurnAt) (reply : Reply)
        → Walks shape cpu remove limit buckets taken turns reply → ToldAt shape turns → ReplyFits shape Sys (IsAnswerOf shape verb) reply
    walks_reply remove limit verb side most [] within taken fits few turns reply walks told =
        subst (ReplyFits shape Sys (IsAnswerOf shape verb)) (sym walks.1)
        (batch_fits Sys shape.buckets taken known.bounds.buckets_bounded (omega (arith, few, most, known.bounds.elements_bounded)) fits)
    walks_reply remove limit verb side most (bucket ∷ buckets) within taken fits few turns reply (Over n, one, rest, (is, takes, ends)) told =
        let below : bucket < shape.buckets = first_within (λ b. b < shape.buckets) bucket buckets within in
        subst (ReplyFits shape Sys (IsAnswerOf shape verb)) (sym ends.1)
        (batch_fits Sys bucket taken (omega (arith, below, known.bounds.buckets_bounded)) (omega (arith, few, most, known.bounds.elements_bounded)) fits)
    walks_reply remove limit verb side most (bucket ∷ buckets) within taken fits few turns reply (Taken all, one, rest, (is, takes, more)) told =
        let split = told_split shape turns one rest is told in
        let part : BucketPart = Walk remove (limit - length taken) (Taken all) in
        let walked : IsTold shape (on_lock (Bucket bucket) (parts.Bucket part)) =
        taken_told (on_lock (Bucket bucket) (parts.Bucket part)) (walked_out remove (Taken all)) one takes split.0 in
        let pairs : AllFit (PairFits shape Sys) (map pair_of all) = pairs_taken all walked.0.1.1 in
        let room : length all ≤ limit - length taken = walked.1 in
        let long : length (taken ++ map pair_of all) ≡ length taken + length all =
        length-append taken (map pair_of all) ∙ ap (λ n. length taken + n) (length-map all pair_of) in
        walks_reply remove limit verb side most buckets (others_within (λ b. b < shape.buckets) bucket buckets within) (taken ++ map pair_of all)
        (both_fit (PairFits shape Sys) taken (map pair_of all) fits pairs) (omega (arith, long, room, few)) rest reply more split.1

    read_reply : (remove : Bool) (count : ℕ) (start : Option ℕ) (flags : ℕ) (turns : List TurnAt) (reply : Reply)
        → IsReadTrace shape cpu remove count start flags turns reply → ToldAt shape turns
        → Answers (verbs.BatchRead remove count start flags) reply
    read_reply remove count start flags turns reply trace told = by (eqb flags 0) (eqb count 0) (ltb (unwrap_or start 0) shape.buckets) trace
      where
        by : (b c d : Bool) → MatchBool b (MatchBool c ((turns ≡ []) × (reply ≡ Done))
            (MatchBool d (Walks shape cpu remove (min count shape.elements) (buckets_from shape (unwrap_or start 0)) [] turns reply) ((turns ≡ []) × (reply ≡ Refused Enoent))))
            ((turns ≡ []) × (reply ≡ Refused Einval)) → Answers (verbs.BatchRead remove count start flags) reply
        by true true d it = answered (verbs.BatchRead remove count start flags) reply Done it.1 tt
        by true false true it =
            walks_reply remove (min count shape.elements) (verbs.BatchRead remove count start flags) refl (omega arith)
            (buckets_from shape (unwrap_or start 0)) (buckets_within shape (unwrap_or start 0))
            [] tt (omega arith) turns reply it told
        by true false false it = answered (verbs.BatchRead remove count start flags) reply (Refused Enoent) it.1 tt
        by false c d it = answered (verbs.BatchRead remove count start flags) reply (Refused Einval) it.1 tt

    -- what a walk over all elements hands over
    pairs_handed : (all : List Stored) → AllFit (TakenFits shape) all → AllFit (PairFits shape Prog) (map (handed shape cpu) all)
    pairs_handed [] fits = tt
    pairs_handed (stored ∷ all) fits = ((fits.0.key, handed_is_value shape cpu (pair_of stored).1 known.below (pair_value stored fits.0)), pairs_handed all fits.1)

    -- what was handed over of some pairs fits where these do, and is no more than they are
    hands_over : (Says : Callback) (pairs over : List (List ℕ × List ℕ)) (stopped : Bool) → HandsOver Says pairs over stopped → AllFit (PairFits shape Prog) pairs
        → AllFit (PairFits shape Prog) over × (length over ≤ length pairs)
    hands_over Says [] over stopped hands fits =
        subst (λ (l : List (List ℕ × List ℕ)). AllFit (PairFits shape Prog) l × (length l ≤ 0)) (sym hands.0) (tt, omega arith)
    hands_over Says (pair ∷ pairs) over stopped (stops, rest, (is, says, goes_on)) fits =
        let after : AllFit (PairFits shape Prog) rest × (length rest ≤ length pairs) =
        by_cases stops ((rest ≡ []) × (stopped ≡ true)) (HandsOver Says pairs rest stopped) (AllFit (PairFits shape Prog) rest × (length rest ≤ length pairs))
        (λ ends. subst (λ (l : List (List ℕ × List ℕ)). AllFit (PairFits shape Prog) l × (length l ≤ length pairs)) (sym ends.0) (tt, omega arith))
        (λ more. hands_over Says pairs rest stopped more fits.1)
        goes_on in
        let long : length rest ≤ length pairs = after.1 in
        subst (λ (l : List (List ℕ × List ℕ)). AllFit (PairFits shape Prog) l × (length l ≤ suc (length pairs))) (sym is) ((fits.0, after.0), omega (arith, long))

    -- buckets one after another, with room for what the map has
    hands_reply : (Says : Callback) (IsAnswer : List ℕ → Type 0) (buckets : List ℕ) → AreWithin (λ bucket. bucket < shape.buckets) buckets
        → (before : List (List ℕ × List ℕ))
        → AllFit (PairFits shape Prog) before → length before ≤ shape.elements → (turns : List Turn) (reply : Reply)
        → HandsOverBuckets shape cpu Says buckets before turns reply → AreTold shape turns → ReplyFits shape Prog IsAnswer reply
    hands_reply Says IsAnswer [] within before fits few turns reply hands told =
        subst (ReplyFits shape Prog IsAnswer) (sym hands.1)
        (batch_fits Prog shape.buckets before known.bounds.buckets_bounded (omega (arith, few, known.bounds.elements_bounded)) fits)
    hands_reply Says IsAnswer (bucket ∷ buckets) within before fits few turns reply (Over n, rest, (is, ends)) told =
        let below : bucket < shape.buckets = first_within (λ b. b < shape.buckets) bucket buckets within in
        subst (ReplyFits shape Prog IsAnswer) (sym ends.1)
        (batch_fits Prog bucket before (omega (arith, below, known.bounds.buckets_bounded)) (omega (arith, few, known.bounds.elements_bounded)) fits)
    hands_reply Says IsAnswer (bucket ∷ buckets) within before fits few turns reply (Taken all, rest, (is, (over, stopped, (gives, goes_on)))) told =
        let below : bucket < shape.buckets = first_within (λ b. b < shape.buckets) bucket buckets within in
        let here = subst (AreTold shape) is told in
        let given = hands_over Says (map (handed shape cpu) all) over stopped gives (pairs_handed all here.0.0.1.1) in
        let room : length all ≤ shape.elements - length before = here.0.1 in
        let most : length over ≤ length (map (handed shape cpu) all) = given.1 in
        let long : length (before ++ over) ≤ shape.elements =
        omega (arith, length-append before over, most, length-map all (handed shape cpu), room, few) in
        let both : AllFit (PairFits shape Prog) (before ++ over) = both_fit (PairFits shape Prog) before over fits given.0 in
        by_cases stopped ((rest ≡ []) × (reply ≡ Batch None (before ++ over) (suc bucket)))
        (HandsOverBuckets shape cpu Says buckets (before ++ over) rest reply) (ReplyFits shape Prog IsAnswer reply)
        (λ ends. subst (ReplyFits shape Prog IsAnswer) (sym ends.1)
        (batch_fits Prog (suc bucket) (before ++ over) (omega (arith, below, known.bounds.buckets_bounded)) (omega (arith, long, known.bounds.elements_bounded)) both))
        (λ more. hands_reply Says IsAnswer buckets (others_within (λ b. b < shape.buckets) bucket buckets within) (before ++ over) both long rest reply more here.1)
        goes_on

    handing_reply : (Says : Callback) (IsAnswer : List ℕ → Type 0) (flags : ℕ) (turns : List Turn) (reply : Reply)
        → IsHandingTrace shape cpu Says flags turns reply → AreTold shape turns → ReplyFits shape Prog IsAnswer reply
    handing_reply Says IsAnswer flags turns reply trace told =
        by_cases (eqb flags 0) (HandsOverBuckets shape cpu Says (buckets_from shape 0) [] turns reply) ((turns ≡ []) × (reply ≡ Refused Einval))
        (ReplyFits shape Prog IsAnswer reply)
        (λ hands. hands_reply Says IsAnswer (buckets_from shape 0) (buckets_within shape 0) [] tt (omega arith) turns reply hands told)
        (λ refused. subst (ReplyFits shape Prog IsAnswer) (sym refused.1) tt)
        trace

    -- ---- any call

    -- by the verb
    answer_told : (spare : Option ℕ) (verb : Verb) → Gives verb → (turns : List TurnAt) (reply : Reply)
        → IsTrace shape cpu spare verb turns reply → ToldAt shape turns → Answers verb reply
    answer_told spare (verbs.Lookup side key) bytes turns reply trace told = key_reply cpu spare (verbs.Lookup side key) turns reply trace told
    answer_told spare (verbs.Update side flags key value) bytes turns reply trace told =
        key_reply cpu spare (verbs.Update side flags key value) turns reply trace told
    answer_told spare (verbs.Delete key) bytes turns reply trace told = key_reply cpu spare (verbs.Delete key) turns reply trace told
    answer_told spare (verbs.Take key) bytes turns reply trace told = key_reply cpu spare (verbs.Take key) turns reply trace told
    answer_told spare (verbs.Next key) bytes turns reply trace told = next_reply key (turns_of turns) reply trace (are_told shape turns (turns_of turns) refl told)
    answer_told spare (verbs.BatchRead remove count start flags) bytes turns reply trace told = read_reply remove count start flags turns reply trace told
    answer_told spare (verbs.BatchUpdate flags pairs) bytes turns reply trace told =
        let as_many : length (updates_of pairs) ≡ length pairs = length-map pairs (λ (pair : List ℕ × List ℕ). verbs.Update Sys 0 pair.0 pair.1) in
        let few : length pairs < 2 ^ 32 = bytes.1 in
        write_batch_reply (verbs.BatchUpdate flags pairs) cpu spare flags (updates_of pairs) turns reply trace (omega (arith, as_many, few))
    answer_told spare (verbs.BatchDelete flags keys) bytes turns reply trace told =
        let as_many : length (deletes_of keys) ≡ length keys = length-map keys (λ (key : List ℕ). verbs.Delete key) in
        let few : length keys < 2 ^ 32 = bytes.1 in
        write_batch_reply (verbs.BatchDelete flags keys) cpu spare flags (deletes_of keys) turns reply trace (omega (arith, as_many, few))
    answer_told spare (verbs.Each flags stop) bytes turns reply trace told =
        handing_reply (StopsAt stop) (IsAnswerOf shape (verbs.Each flags stop)) flags (turns_of turns) reply trace (are_told shape turns (turns_of turns) refl told)

    -- the reply of a call whose turns fit where they stand
    pub reply_fits : (spare : Option ℕ) (verb : Verb) → Gives verb → (turns : List TurnAt) (reply : Reply)
        → IsTrace shape cpu spare verb turns reply → AreRight shape cpu turns → TurnsFit shape turns
        → ReplyFits shape (pair_side verb) (IsAnswerOf shape verb) reply
    reply_fits spare verb bytes turns reply trace right fits = answer_told spare verb bytes turns reply trace (told_at shape cpu turns right fits)
