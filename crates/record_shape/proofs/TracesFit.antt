-- The turns of a call fit, and so does its reply.
use Rattle.std.proofs.Common.{◌≡◌, ℕ, suc, ◌+◌, ◌-◌, ◌<◌, Bool, true, false, ◌&&◌, eqb, ltb, List, [], ◌∷◌, ◌++◌, length, map, reverse, refl, sym, subst, inl, inr}
use Rattle.std.specs.Prelude.{Option, None, Some, MatchBool, min, unwrap_or}
use Rattle.map_types.specs.Kind.{is_lru, is_percpu}
use Rattle.map_types.specs.Shape.{HasBounds}
use Rattle.map_types.specs.Stored.{Stored}
use Rattle.map_types.specs.declared.attr.Shape.{Shape}
use Rattle.map_types.specs.declared.call.Verb.{Verb}
use Rattle.map_types.specs.declared.call.Verb.TheVariants as verbs
use Rattle.map_types.specs.declared.kind.DomainId.TheVariants.{Bucket}
use Rattle.map_types.specs.declared.kind.Side.{Side}
use Rattle.map_types.specs.declared.kind.Side.TheVariants.{Sys}
use Rattle.map_types.specs.declared.refusal.Errno.TheVariants.{Einval, Enoent, Enomem}
use Rattle.map_types.specs.declared.reply.Reply.{Reply}
use Rattle.map_types.specs.declared.reply.Reply.TheVariants.{Batch, Count, Done, Refused, Value}
use Rattle.key_hash.specs.Jhash.{hash}
use Rattle.map_script.specs.WellFormed.{HasSizes}
use Rattle.place_words.specs.Bodies.{numbers}
use Rattle.place_words.specs.Evicting.{IsEvictingTrace, IsEvictingUpdate, IsOfferTrace, IsWriteTrace, OffersOne, left_over}
use Rattle.place_words.specs.Handing.{Callback, HandsOverBuckets, IsHandingTrace, StopsAt}
use Rattle.place_words.specs.PlainTraces.{IsPlainTrace, IsUpdateTrace, LooksFor, Pops, element_gone, found_empty, pushes}
use Rattle.place_words.specs.Traces.{IsTrace}
use Rattle.place_words.specs.Turns.{Turn, TurnAt, bucket_of_key, on_bucket_of, on_freelist_of, on_lock, ring, turns_of}
use Rattle.place_words.specs.Walks.{Firsts, GoesOn, IsFreedAfter, IsKeyTrace, IsNextTrace, IsReadTrace, IsWriteBatch, TakesOut, Walks, Writes, buckets_from, deletes_of, pair_of, refused_with, spare_left, updates_of, walked_out}
use Rattle.place_words.specs.declared.bucket_part.BucketPart.{BucketPart}
use Rattle.place_words.specs.declared.bucket_part.BucketPart.TheVariants.{Delete, First, Lookup, Next, Take, Update, Walk}
use Rattle.place_words.specs.declared.bucket_part.NextFound.{NextFound}
use Rattle.place_words.specs.declared.bucket_part.NextFound.TheVariants as nexts
use Rattle.place_words.specs.declared.bucket_part.Put.{Put}
use Rattle.place_words.specs.declared.bucket_part.Put.TheVariants as puts
use Rattle.place_words.specs.declared.bucket_part.Walked.{Walked}
use Rattle.place_words.specs.declared.bucket_part.Walked.TheVariants.{Over, Taken}
use Rattle.place_words.specs.declared.free_part.FreePart.TheVariants.{FoundEmpty, Popped, Pushed}
use Rattle.place_words.specs.declared.history.Part.TheVariants as parts
use Rattle.record_shape.specs.Fits.{AllFit}
use Rattle.record_shape.specs.ShapedParts.{AreElements, BucketFits, IsAnswerOf, IsElement, OptionFits, PartFits, PutFits, ReadFits, ReplyFits, TakenFits, WalkedFits, pair_side}
use Rattle.record_shape.proofs.Premises.{Gives, Says, Stands}
use Rattle.record_shape.proofs.RepliesFit.{reply_fits}
use Rattle.record_shape.proofs.SaysLaws.{both_fit}
use Rattle.record_shape.proofs.BucketsFit.{AreRight, Fitting, FitsAnywhere, Known, Offers, TurnsFit, all_both, all_reverse, bucket_anywhere, fit_where, free_anywhere}
use Rattle.record_shape.proofs.TakingsFit.{acquires_fit, by_cases, by_option, fit_joined, frees_all, frees_one, none_fit, right_split}

-- ---- turns that fit anywhere: those of calls on one key of a map that doesn't evict

module _ (shape : Shape) (cpu : ℕ) (known : Known shape cpu) where
  abbrev AllAnywhere : List Turn → Type 0
  AllAnywhere turns = AllFit (FitsAnywhere shape cpu) turns

  none_anywhere : (turns : List Turn) → turns ≡ [] → AllAnywhere turns
  none_anywhere turns is = subst AllAnywhere (sym is) tt

  empty_anywhere : (cpus : List ℕ) → AllAnywhere (found_empty cpus)
  empty_anywhere [] = tt
  empty_anywhere (list ∷ lists) = (free_anywhere shape cpu list FoundEmpty, empty_anywhere lists)

  pops_anywhere : (e : ℕ) (turns : List Turn) → Pops shape cpu e turns → AllAnywhere turns
  pops_anywhere e turns pops =
      subst AllAnywhere (sym pops.turns_are)
      (both_fit (FitsAnywhere shape cpu) (found_empty pops.passed) (on_freelist_of pops.giver (Popped e) ∷ [])
      (empty_anywhere pops.passed) (free_anywhere shape cpu pops.giver (Popped e), tt))

  pushes_anywhere : (gone : Option ℕ) → AllAnywhere (pushes cpu gone)
  pushes_anywhere None = tt
  pushes_anywhere (Some e) = (free_anywhere shape cpu cpu (Pushed e), tt)

  looks_anywhere : (spare : Option ℕ) (put : Put) (turns : List Turn) → LooksFor shape cpu spare put turns → AllAnywhere turns
  looks_anywhere spare (puts.Added e) turns looks = pops_anywhere e turns looks
  looks_anywhere spare (puts.Replaced new old) turns looks = none_anywhere turns looks.0
  looks_anywhere spare (puts.Written e) turns looks = none_anywhere turns looks
  looks_anywhere spare puts.Exists turns looks = none_anywhere turns looks
  looks_anywhere spare puts.Absent turns looks = none_anywhere turns looks
  looks_anywhere spare puts.Full turns looks = subst AllAnywhere (sym looks) (empty_anywhere (ring cpu shape.cpus))

  -- some turns and then one of a key's bucket
  then_bucket : (turns before : List Turn) (key : List ℕ) (part : BucketPart) → turns ≡ before ++ on_bucket_of shape key part ∷ []
      → AllAnywhere before → Offers shape part → AllAnywhere turns
  then_bucket turns before key part is first offers =
      subst AllAnywhere (sym is)
      (both_fit (FitsAnywhere shape cpu) before (on_bucket_of shape key part ∷ []) first (bucket_anywhere shape cpu known (bucket_of_key shape key) part offers, tt))

  update_anywhere : (spare : Option ℕ) (side : Side) (flags : ℕ) (key value : List ℕ) (turns : List Turn) (reply : Reply)
      → IsUpdateTrace shape cpu spare side flags key value turns reply → AllAnywhere turns
  update_anywhere spare side flags key value turns reply (inl refused) = none_anywhere turns refused.1
  update_anywhere spare side flags key value turns reply (inr made) =
      let puts = made.1 in
      then_bucket turns puts.looks key (Update side flags key value None puts.put) puts.turns_are (looks_anywhere spare puts.put puts.looks puts.looks_are) tt

  plain_anywhere : (spare : Option ℕ) (verb : Verb) (turns : List Turn) (reply : Reply) → IsPlainTrace shape cpu spare verb turns reply → AllAnywhere turns
  plain_anywhere spare (verbs.Lookup side key) turns reply trace = then_bucket turns [] key (Lookup side key trace.got) trace.turns_are tt tt
  plain_anywhere spare (verbs.Update side flags key value) turns reply trace = update_anywhere spare side flags key value turns reply trace
  plain_anywhere spare (verbs.Delete key) turns reply trace =
      then_bucket turns (pushes cpu trace.gone) key (Delete key trace.gone) trace.turns_are (pushes_anywhere trace.gone) tt
  plain_anywhere spare (verbs.Take key) turns reply trace =
      then_bucket turns (pushes cpu (element_gone trace.gone)) key (Take key trace.gone) trace.turns_are (pushes_anywhere (element_gone trace.gone)) tt
  plain_anywhere spare (verbs.Next key) turns reply trace = absurd trace
  plain_anywhere spare (verbs.BatchRead remove count start flags) turns reply trace = absurd trace
  plain_anywhere spare (verbs.BatchUpdate flags pairs) turns reply trace = absurd trace
  plain_anywhere spare (verbs.BatchDelete flags keys) turns reply trace = absurd trace
  plain_anywhere spare (verbs.Each flags stop) turns reply trace = absurd trace

  -- next key
  firsts_anywhere : (buckets : List ℕ) (turns : List Turn) (reply : Reply) → Firsts buckets turns reply → AllAnywhere turns
  firsts_anywhere [] turns reply firsts = none_anywhere turns firsts.0
  firsts_anywhere (bucket ∷ buckets) turns reply (key, rest, is, goes_on) =
      let after : AllAnywhere rest = by_option key (Firsts buckets rest reply) (AllAnywhere rest) (λ first. (rest ≡ []) × (reply ≡ Value first))
      (λ more. firsts_anywhere buckets rest reply more) (λ first found ends. none_anywhere rest ends.0) goes_on in
      subst AllAnywhere (sym is) (bucket_anywhere shape cpu known bucket (First key) tt, after)

  goes_on_anywhere : (key : List ℕ) (next : NextFound) (turns : List Turn) (reply : Reply) → GoesOn shape key next turns reply → AllAnywhere turns
  goes_on_anywhere key nexts.Absent turns reply goes = firsts_anywhere (buckets_from shape 0) turns reply goes
  goes_on_anywhere key nexts.Last turns reply goes = firsts_anywhere (buckets_from shape (bucket_of_key shape key + 1)) turns reply goes
  goes_on_anywhere key (nexts.Key next) turns reply goes = none_anywhere turns goes.0

  next_anywhere : (key : Option (List ℕ)) (turns : List Turn) (reply : Reply) → IsNextTrace shape key turns reply → AllAnywhere turns
  next_anywhere None turns reply trace = firsts_anywhere (buckets_from shape 0) turns reply trace
  next_anywhere (Some key) turns reply trace =
      subst AllAnywhere (sym trace.turns_are)
      (bucket_anywhere shape cpu known (bucket_of_key shape key) (Next key trace.found) tt, goes_on_anywhere key trace.found trace.rest reply trace.goes_on)

  -- a walk over all elements
  hands_anywhere : (Says : Callback) (buckets : List ℕ) (before : List (List ℕ × List ℕ)) (turns : List Turn) (reply : Reply)
      → HandsOverBuckets shape cpu Says buckets before turns reply → AllAnywhere turns
  hands_anywhere Says [] before turns reply hands = none_anywhere turns hands.0
  hands_anywhere Says (bucket ∷ buckets) before turns reply (Over n, rest, (is, ends)) =
      subst AllAnywhere (sym is) (bucket_anywhere shape cpu known bucket (Walk false (shape.elements - length before) (Over n)) tt, none_anywhere rest ends.0)
  hands_anywhere Says (bucket ∷ buckets) before turns reply (Taken all, rest, (is, (over, stopped, handing))) =
      let after : AllAnywhere rest = by_cases stopped ((rest ≡ []) × (reply ≡ Batch None (before ++ over) (suc bucket)))
      (HandsOverBuckets shape cpu Says buckets (before ++ over) rest reply) (AllAnywhere rest)
      (λ ends. none_anywhere rest ends.0) (λ more. hands_anywhere Says buckets (before ++ over) rest reply more) handing.1 in
      subst AllAnywhere (sym is) (bucket_anywhere shape cpu known bucket (Walk false (shape.elements - length before) (Taken all)) tt, after)

  handing_anywhere : (Says : Callback) (flags : ℕ) (turns : List Turn) (reply : Reply) → IsHandingTrace shape cpu Says flags turns reply → AllAnywhere turns
  handing_anywhere Says flags turns reply trace =
      by_cases (eqb flags 0) (HandsOverBuckets shape cpu Says (buckets_from shape 0) [] turns reply) ((turns ≡ []) × (reply ≡ Refused Einval)) (AllAnywhere turns)
      (λ hands. hands_anywhere Says (buckets_from shape 0) [] turns reply hands) (λ refused. none_anywhere turns refused.0) trace

-- ---- turns that free what was in a bucket's turn before, or was offered to it

-- what a take took out is an element
gone_real : (shape : Shape) (gone : Option (ℕ × List ℕ)) → ReadFits shape Sys gone → OptionFits shape.elements (element_gone gone)
gone_real shape None fits = tt
gone_real shape (Some gone) fits = fits.0

-- what an update left over is an element
left_real : (shape : Shape) (e : ℕ) (put : Put) → IsElement shape e → PutFits shape put → OptionFits shape.elements (left_over e put)
left_real shape e (puts.Added added) real fits = tt
left_real shape e (puts.Replaced new old) real fits = fits.1
left_real shape e (puts.Written written) real fits = real
left_real shape e puts.Exists real fits = real
left_real shape e puts.Absent real fits = real
left_real shape e puts.Full real fits = real

taken_real : (shape : Shape) (all : List Stored) → AllFit (TakenFits shape) all → AreElements shape (numbers all)
taken_real shape [] fits = tt
taken_real shape (body ∷ bodies) fits = (fits.0.element, taken_real shape bodies fits.1)

-- what a walk took out are elements
walked_real : (shape : Shape) (remove : Bool) (result : Walked) → WalkedFits shape result → AreElements shape (walked_out remove result)
walked_real shape remove (Over n) fits = tt
walked_real shape true (Taken all) fits = taken_real shape all fits.1
walked_real shape false (Taken all) fits = tt

module _ (shape : Shape) (cpu : ℕ) (known : Known shape cpu) where
  -- a bucket's turn, and what is freed after it
  bucket_then : (bucket : ℕ) (part : BucketPart) (turns : List TurnAt) (at_bucket : TurnAt) (freeing : List TurnAt) → turns ≡ at_bucket ∷ freeing
      → at_bucket.turn ≡ on_lock (Bucket bucket) (parts.Bucket part) → Offers shape part → AreRight shape cpu turns
      → (BucketFits shape part → AreRight shape cpu freeing → TurnsFit shape freeing) → TurnsFit shape turns
  bucket_then bucket part turns at_bucket freeing turns_are bucket_is offers right frees =
      let stand = subst (AreRight shape cpu) turns_are right in
      let fits : BucketFits shape part = bucket_anywhere shape cpu known bucket part offers at_bucket bucket_is stand.0 in
      subst (TurnsFit shape) (sym turns_are) (subst (Fitting shape) (sym bucket_is) fits, frees fits stand.1)

  -- an element is offered, and what is left over is freed
  offers_fit : (side : Side) (flags : ℕ) (key value : List ℕ) (e : ℕ) (turns : List TurnAt) (reply : Reply) → IsElement shape e
      → OffersOne shape side flags key value e turns reply → AreRight shape cpu turns → TurnsFit shape turns
  offers_fit side flags key value e turns reply real trace right =
      let part : BucketPart = Update side flags key value (Some e) trace.put in
      bucket_then (bucket_of_key shape key) part turns trace.at_bucket trace.freeing trace.turns_are trace.bucket_is real right
      (λ fits freeing. frees_one shape cpu known (left_over e trace.put) trace.freeing (left_real shape e trace.put real fits.4) trace.frees freeing)

  -- an update that takes an element first
  offer_trace_fits : (side : Side) (flags : ℕ) (key value : List ℕ) (turns : List TurnAt) (reply : Reply)
      → IsOfferTrace shape cpu side flags key value turns reply → AreRight shape cpu turns → TurnsFit shape turns
  offer_trace_fits side flags key value turns reply trace right =
      let split = right_split shape cpu turns trace.taking trace.rest trace.turns_are right in
      let taken = acquires_fit shape cpu known (hash key shape.seed) trace.got trace.taking trace.takes split.0 in
      let after : TurnsFit shape trace.rest = by_option trace.got ((trace.rest ≡ []) × (reply ≡ Refused Enomem)) (TurnsFit shape trace.rest)
      (λ e. OffersOne shape side flags key value e trace.rest reply)
      (λ none. none_fit shape trace.rest none.0)
      (λ e is offered. offers_fit side flags key value e trace.rest reply (subst (OptionFits shape.elements) is taken.1) offered split.1)
      trace.offers in
      fit_joined shape turns trace.taking trace.rest trace.turns_are taken.0 after

  evicting_update : (side : Side) (flags : ℕ) (key value : List ℕ) (turns : List TurnAt) (reply : Reply)
      → IsEvictingUpdate shape cpu side flags key value turns reply → AreRight shape cpu turns → TurnsFit shape turns
  evicting_update side flags key value turns reply (inl refused) right = none_fit shape turns refused.1
  evicting_update side flags key value turns reply (inr made) right =
      by_cases (is_percpu shape.kind && eqb flags 2) (IsWriteTrace shape side flags key value turns reply)
      (IsOfferTrace shape cpu side flags key value turns reply) (TurnsFit shape turns)
      (λ writes. let part : BucketPart = Update side flags key value None writes.put in
      fit_where shape cpu turns (on_bucket_of shape key part ∷ []) writes.turns_are (bucket_anywhere shape cpu known (bucket_of_key shape key) part tt, tt) right)
      (λ offers. offer_trace_fits side flags key value turns reply offers right)
      made.1

  -- a call on one key of a map that evicts
  evicting_fit : (verb : Verb) (turns : List TurnAt) (reply : Reply) → IsEvictingTrace shape cpu verb turns reply → AreRight shape cpu turns → TurnsFit shape turns
  evicting_fit (verbs.Lookup side key) turns reply trace right =
      fit_where shape cpu turns (on_bucket_of shape key (Lookup side key trace.got) ∷ []) trace.turns_are
      (bucket_anywhere shape cpu known (bucket_of_key shape key) (Lookup side key trace.got) tt, tt) right
  evicting_fit (verbs.Update side flags key value) turns reply trace right = evicting_update side flags key value turns reply trace right
  evicting_fit (verbs.Delete key) turns reply trace right =
      bucket_then (bucket_of_key shape key) (Delete key trace.gone) turns trace.at_bucket trace.freeing trace.turns_are trace.bucket_is tt right
      (λ fits freeing. frees_one shape cpu known trace.gone trace.freeing fits.1 trace.frees freeing)
  evicting_fit (verbs.Take key) turns reply trace right =
      bucket_then (bucket_of_key shape key) (Take key trace.gone) turns trace.at_bucket trace.freeing trace.turns_are trace.bucket_is tt right
      (λ fits freeing. frees_one shape cpu known (element_gone trace.gone) trace.freeing (gone_real shape trace.gone fits.1) trace.frees freeing)
  evicting_fit (verbs.Next key) turns reply trace right = absurd trace
  evicting_fit (verbs.BatchRead remove count start flags) turns reply trace right = absurd trace
  evicting_fit (verbs.BatchUpdate flags pairs) turns reply trace right = absurd trace
  evicting_fit (verbs.BatchDelete flags keys) turns reply trace right = absurd trace
  evicting_fit (verbs.Each flags stop) turns reply trace right = absurd trace

  -- a call on one key
  key_fits : (spare : Option ℕ) (verb : Verb) (turns : List TurnAt) (reply : Reply) → IsKeyTrace shape cpu spare verb turns reply
      → AreRight shape cpu turns → TurnsFit shape turns
  key_fits spare verb turns reply trace right =
      by_cases (is_lru shape.kind) (IsEvictingTrace shape cpu verb turns reply) (IsPlainTrace shape cpu spare verb (turns_of turns) reply) (TurnsFit shape turns)
      (λ evicting. evicting_fit verb turns reply evicting right)
      (λ plain. fit_where shape cpu turns (turns_of turns) refl (plain_anywhere shape cpu known spare verb (turns_of turns) reply plain) right)
      trace

  -- a batch write
  writes_fit : (spare : Option ℕ) (entries : List Verb) (done : ℕ) (turns : List TurnAt) (reply : Reply)
      → Writes shape cpu spare entries done turns reply → AreRight shape cpu turns → TurnsFit shape turns
  writes_fit spare [] done turns reply writes right = none_fit shape turns writes.0
  writes_fit spare (entry ∷ entries) done turns reply (answer, one, rest, (is, trace, goes_on)) right =
      let split = right_split shape cpu turns one rest is right in
      let after : TurnsFit shape rest =
      by_option (refused_with answer) (Writes shape cpu (spare_left shape spare one) entries (suc done) rest reply) (TurnsFit shape rest)
      (λ errno. (rest ≡ []) × (reply ≡ Count (Some errno) done))
      (λ more. writes_fit (spare_left shape spare one) entries (suc done) rest reply more split.1)
      (λ errno found ends. none_fit shape rest ends.0) goes_on in
      fit_joined shape turns one rest is (key_fits spare entry one answer trace split.0) after

  write_batch_fits : (spare : Option ℕ) (flags : ℕ) (entries : List Verb) (turns : List TurnAt) (reply : Reply)
      → IsWriteBatch shape cpu spare flags entries turns reply → AreRight shape cpu turns → TurnsFit shape turns
  write_batch_fits spare flags entries turns reply trace right =
      by_cases (eqb flags 0) (Writes shape cpu spare entries 0 turns reply) ((turns ≡ []) × (reply ≡ Refused Einval)) (TurnsFit shape turns)
      (λ writes. writes_fit spare entries 0 turns reply writes right) (λ refused. none_fit shape turns refused.0) trace

  -- a batch read
  pushed_anywhere : (gone : List ℕ) → AllFit (FitsAnywhere shape cpu) (map (λ e. on_freelist_of cpu (Pushed e)) gone)
  pushed_anywhere [] = tt
  pushed_anywhere (e ∷ gone) = (free_anywhere shape cpu cpu (Pushed e), pushed_anywhere gone)

  abbrev walking : ℕ → Bool → ℕ → Walked → Turn
  walking bucket remove room result = on_lock (Bucket bucket) (parts.Bucket (Walk remove room result))

  -- a bucket's turn of a batch, with what it frees
  takes_out_fit : (bucket : ℕ) (remove : Bool) (room : ℕ) (result : Walked) (turns : List TurnAt)
      → TakesOut shape cpu (walking bucket remove room result) (walked_out remove result) turns → AreRight shape cpu turns → TurnsFit shape turns
  takes_out_fit bucket remove room result turns takes right =
      let gone : List ℕ = walked_out remove result in
      let part : BucketPart = Walk remove room result in
      let pushed : List Turn = map (λ e. on_freelist_of cpu (Pushed e)) gone in
      by_cases (is_lru shape.kind) (IsFreedAfter shape (walking bucket remove room result) gone turns)
      (turns_of turns ≡ pushed ++ walking bucket remove room result ∷ []) (TurnsFit shape turns)
      (λ freed. bucket_then bucket part turns freed.at_bucket freed.freeing freed.turns_are freed.bucket_is tt right
      (λ fits freeing. frees_all shape cpu known (reverse gone) freed.freeing
      (all_reverse (IsElement shape) gone (walked_real shape remove result fits.1)) freed.frees freeing))
      (λ is. fit_where shape cpu turns (pushed ++ walking bucket remove room result ∷ []) is
      (both_fit (FitsAnywhere shape cpu) pushed (walking bucket remove room result ∷ []) (pushed_anywhere gone) (bucket_anywhere shape cpu known bucket part tt, tt)) right)
      takes

  walks_fit : (remove : Bool) (limit : ℕ) (buckets : List ℕ) (taken : List (List ℕ × List ℕ)) (turns : List TurnAt) (reply : Reply)
      → Walks shape cpu remove limit buckets taken turns reply → AreRight shape cpu turns → TurnsFit shape turns
  walks_fit remove limit [] taken turns reply walks right = none_fit shape turns walks.0
  walks_fit remove limit (bucket ∷ buckets) taken turns reply (Over n, one, rest, (is, takes, ends)) right =
      let split = right_split shape cpu turns one rest is right in
      fit_joined shape turns one rest is (takes_out_fit bucket remove (limit - length taken) (Over n) one takes split.0) (none_fit shape rest ends.0)
  walks_fit remove limit (bucket ∷ buckets) taken turns reply (Taken all, one, rest, (is, takes, more)) right =
      let split = right_split shape cpu turns one rest is right in
      fit_joined shape turns one rest is (takes_out_fit bucket remove (limit - length taken) (Taken all) one takes split.0)
      (walks_fit remove limit buckets (taken ++ map pair_of all) rest reply more split.1)

  read_trace_fits : (remove : Bool) (count : ℕ) (start : Option ℕ) (flags : ℕ) (turns : List TurnAt) (reply : Reply)
      → IsReadTrace shape cpu remove count start flags turns reply → AreRight shape cpu turns → TurnsFit shape turns
  read_trace_fits remove count start flags turns reply trace right = by (eqb flags 0) (eqb count 0) (ltb (unwrap_or start 0) shape.buckets) trace
    where
      by : (b c d : Bool) → MatchBool b (MatchBool c ((turns ≡ []) × (reply ≡ Done))
          (MatchBool d (Walks shape cpu remove (min count shape.elements) (buckets_from shape (unwrap_or start 0)) [] turns reply) ((turns ≡ []) × (reply ≡ Refused Enoent))))
          ((turns ≡ []) × (reply ≡ Refused Einval)) → TurnsFit shape turns
      by true true d it = none_fit shape turns it.0
      by true false true it = walks_fit remove (min count shape.elements) (buckets_from shape (unwrap_or start 0)) [] turns reply it right
      by true false false it = none_fit shape turns it.0
      by false c d it = none_fit shape turns it.0

  -- all turns of a call fit
  pub turns_fit : (spare : Option ℕ) (verb : Verb) (turns : List TurnAt) (reply : Reply) → IsTrace shape cpu spare verb turns reply
      → AreRight shape cpu turns → TurnsFit shape turns
  turns_fit spare (verbs.Lookup side key) turns reply trace right = key_fits spare (verbs.Lookup side key) turns reply trace right
  turns_fit spare (verbs.Update side flags key value) turns reply trace right = key_fits spare (verbs.Update side flags key value) turns reply trace right
  turns_fit spare (verbs.Delete key) turns reply trace right = key_fits spare (verbs.Delete key) turns reply trace right
  turns_fit spare (verbs.Take key) turns reply trace right = key_fits spare (verbs.Take key) turns reply trace right
  turns_fit spare (verbs.Next key) turns reply trace right =
      fit_where shape cpu turns (turns_of turns) refl (next_anywhere shape cpu known key (turns_of turns) reply trace) right
  turns_fit spare (verbs.BatchRead remove count start flags) turns reply trace right = read_trace_fits remove count start flags turns reply trace right
  turns_fit spare (verbs.BatchUpdate flags pairs) turns reply trace right = write_batch_fits spare flags (updates_of pairs) turns reply trace right
  turns_fit spare (verbs.BatchDelete flags keys) turns reply trace right = write_batch_fits spare flags (deletes_of keys) turns reply trace right
  turns_fit spare (verbs.Each flags stop) turns reply trace right =
      fit_where shape cpu turns (turns_of turns) refl (handing_anywhere shape cpu known (StopsAt stop) flags (turns_of turns) reply trace) right

-- what is due of the turns of a call and of its reply
pub trace_fits : (shape : Shape) → HasBounds shape → (cpu : ℕ) → cpu < shape.cpus → (spare : Option ℕ) (verb : Verb) → HasSizes shape verb
    → Gives verb → (turns : List TurnAt) (reply : Reply)
    → IsTrace shape cpu spare verb turns reply → AllFit (Stands shape cpu) turns → AllFit (λ (at : TurnAt). Says shape at.turn.part) turns
    → AllFit (λ (at : TurnAt). PartFits shape at.turn.lock at.turn.part) turns × ReplyFits shape (pair_side verb) (IsAnswerOf shape verb) reply
trace_fits shape bounds cpu below spare verb sizes bytes turns reply trace stand says =
    let known : Known shape cpu = record { bounds = bounds; below = below } in
    let right : AreRight shape cpu turns = all_both (Stands shape cpu) (λ (at : TurnAt). Says shape at.turn.part) turns stand says in
    let fits : TurnsFit shape turns = turns_fit shape cpu known spare verb turns reply trace right in
    (fits, reply_fits shape cpu known spare verb bytes turns reply trace right fits)
