-- What a call says of its turns: its key and its value are bytes of the map's sizes, and its hashes, its flags and its room have 32 bits.
use Rattle.std.proofs.Common.{◌≡◌, ◌⊎◌, inl, inr, ℕ, suc, ◌<◌, ◌^◌, Bool, true, false, ◌&&◌, eqb, List, [], ◌∷◌, ◌++◌, length, reverse, map, sym, subst, arith}
use Rattle.std.specs.Prelude.{All, Option, None, Some, MatchBool, MatchOption, nat_lt, min, unwrap_or, option_map}
use Rattle.std.proofs.lemmas.List.Elements.{All-head, All-tail}
use Rattle.hex.specs.Hex.{IsBytes}
use Rattle.map_types.specs.declared.attr.Shape.{Shape}
use Rattle.map_types.specs.declared.call.Verb.{Verb}
use Rattle.map_types.specs.declared.call.Verb.TheVariants as verbs
use Rattle.map_types.specs.declared.kind.DomainId.{DomainId}
use Rattle.map_types.specs.declared.kind.DomainId.TheVariants.{CpuLru}
use Rattle.map_types.specs.declared.kind.Side.{Side}
use Rattle.map_types.specs.declared.kind.Side.TheVariants.{Sys}
use Rattle.map_types.specs.declared.refusal.Errno.{Errno}
use Rattle.map_types.specs.declared.refusal.Errno.TheVariants.{Einval, Enoent, Enomem}
use Rattle.map_types.specs.declared.reply.Reply.{Reply}
use Rattle.map_types.specs.declared.reply.Reply.TheVariants.{Count, Done, Refused}
use Rattle.map_types.specs.declared.row.Row.{Row}
use Rattle.map_types.specs.Kind.{is_lru, is_percpu}
use Rattle.map_types.specs.Pairs.{HaveSizes}
use Rattle.map_types.specs.Shape.{HasBounds}
use Rattle.map_types.specs.ValueLen.{value_len_of}
use Rattle.key_hash.specs.Jhash.{Words, add_block, absorb, finish, finish_c, hash, mix, start}
use Rattle.map_script.specs.WellFormed.{HasSizes, IsKey}
use Rattle.place_words.specs.declared.bucket_part.BucketPart.TheVariants.{Delete, Take, Update}
use Rattle.place_words.specs.declared.bucket_part.NextFound.{NextFound}
use Rattle.place_words.specs.declared.bucket_part.NextFound.TheVariants as nexts
use Rattle.place_words.specs.declared.bucket_part.Put.{Put}
use Rattle.place_words.specs.declared.bucket_part.Put.TheVariants as puts
use Rattle.place_words.specs.declared.bucket_part.Walked.TheVariants.{Over, Taken}
use Rattle.place_words.specs.declared.free_part.FreePart.TheVariants.{Popped, Pushed}
use Rattle.place_words.specs.declared.history.Part.{Part}
use Rattle.place_words.specs.declared.history.Part.TheVariants as parts
use Rattle.place_words.specs.declared.list_part.OwnPart.TheVariants as own
use Rattle.place_words.specs.declared.visits.Try.{Try}
use Rattle.place_words.specs.Evicting.{FreesOne, IsEvictingDelete, IsEvictingTake, IsEvictingTrace, IsEvictingUpdate, IsOfferTrace, IsWriteTrace, OffersOne, left_over}
use Rattle.place_words.specs.Handing.{Callback, HandsOverBuckets, IsHandingTrace, StopsAt}
use Rattle.place_words.specs.Locals.{LocalLists}
use Rattle.place_words.specs.PlainTraces.{IsDeleteTrace, IsLookupTrace, IsPlainTrace, IsTakeTrace, IsUpdateTrace, LooksFor, Pops, element_gone, found_empty, pushes}
use Rattle.place_words.specs.Takings.{Acquires, Chase, Frees, FreesFlushed, FreesPending, IsChased, Refills, Steals, TakesByRefill, TakesFree, TakesOwn, brings_home, evicts, freed_globally, set_of, stolen_element, stored_hash}
use Rattle.place_words.specs.Traces.{IsTrace}
use Rattle.place_words.specs.Turns.{Turn, TurnAt, on_bucket_of, on_freelist_of, on_lock, ring, turns_of}
use Rattle.place_words.specs.Walks.{Firsts, FreesAll, GoesOn, IsFreedAfter, IsKeyTrace, IsNextTrace, IsReadTrace, IsWriteBatch, TakesOut, Walks, Writes, buckets_from, deletes_of, refused_with, spare_left, updates_of}
use Rattle.record_shape.specs.Fits.{AllFit}
use Rattle.record_shape.specs.ShapedParts.{AreBytes, IsU32}
use Rattle.record_shape.proofs.Premises.{ArePairs, Gives, Says}

-- ---- a hash is a number of 32 bits

finish_c_small : (places : ℕ) (w : Words) → (finish_c places w).c < 2 ^ 32
unfolding finish_c
finish_c_small places w = omega arith

finish_small : (w : Words) → (finish w).c < 2 ^ 32
unfolding finish
finish_small w = finish_c_small 24 _

absorb_small : (w : Words) (b : ℕ) (rest : List ℕ) → (absorb w (b ∷ rest)).c < 2 ^ 32
unfolding absorb
absorb_small w b0 (b1 ∷ b2 ∷ b3 ∷ b4 ∷ b5 ∷ b6 ∷ b7 ∷ b8 ∷ b9 ∷ b10 ∷ b11 ∷ next ∷ rest) =
    absorb_small (mix (add_block w (b0 ∷ b1 ∷ b2 ∷ b3 ∷ b4 ∷ b5 ∷ b6 ∷ b7 ∷ b8 ∷ b9 ∷ b10 ∷ b11 ∷ []))) next rest
absorb_small w b few = finish_small _

pub hash_small : (key : List ℕ) (seed : ℕ) → IsU32 (hash key seed)
unfolding hash start absorb
hash_small [] seed = omega arith
hash_small (b ∷ key) seed = absorb_small _ b key

-- ---- turns that say what fits

pub both_fit : {A : Type 0} (Fits : A → Type 0) (xs ys : List A) → AllFit Fits xs → AllFit Fits ys → AllFit Fits (xs ++ ys)
both_fit Fits [] ys one other = other
both_fit Fits (x ∷ xs) ys one other = (one.0, both_fit Fits xs ys one.1 other)

-- a key and a value that a call gives
pub given : (size : ℕ) (bytes : List ℕ) → length bytes ≡ size → IsBytes bytes → AreBytes size bytes
given size bytes sized small = record { sized = sized; small = small }

module _ (shape : Shape) where
  abbrev TurnSays : Turn → Type 0
  TurnSays turn = Says shape turn.part

  abbrev AllSay : List Turn → Type 0
  AllSay turns = AllFit TurnSays turns

  abbrev AtSays : TurnAt → Type 0
  AtSays at = Says shape at.turn.part

  abbrev AllAtSay : List TurnAt → Type 0
  AllAtSay turns = AllFit AtSays turns

  -- what turns say, wherever they stand
  at_their_places : (ats : List TurnAt) → AllSay (turns_of ats) → AllAtSay ats
  at_their_places [] say = tt
  at_their_places (at ∷ ats) say = (say.0, at_their_places ats say.1)

  as_turns : (ats : List TurnAt) (turns : List Turn) → turns_of ats ≡ turns → AllSay turns → AllAtSay ats
  as_turns ats turns are say = at_their_places ats (subst AllSay (sym are) say)

  -- turns of two parts of a call
  joined_say : (ats one other : List TurnAt) → ats ≡ one ++ other → AllAtSay one → AllAtSay other → AllAtSay ats
  joined_say ats one other are first second = subst AllAtSay (sym are) (both_fit AtSays one other first second)

  one_says : (at : TurnAt) (turn : Turn) → at.turn ≡ turn → TurnSays turn → AtSays at
  one_says at turn is says = subst TurnSays (sym is) says

  first_says : (ats : List TurnAt) (at : TurnAt) (turn : Turn) (others : List TurnAt) → ats ≡ at ∷ others → at.turn ≡ turn → TurnSays turn
      → AllAtSay others → AllAtSay ats
  first_says ats at turn others are is says rest = subst AllAtSay (sym are) (one_says at turn is says, rest)

  -- where a call makes no turns
  none_say : (ats : List TurnAt) → ats ≡ [] → AllAtSay ats
  none_say ats none = subst AllAtSay (sym none) tt

  no_turns_say : (turns : List Turn) → turns ≡ [] → AllSay turns
  no_turns_say turns none = subst AllSay (sym none) tt

  -- ---- calls on a key of a map that doesn't evict

  empty_say : (cpus : List ℕ) → AllSay (found_empty cpus)
  empty_say [] = tt
  empty_say (cpu ∷ cpus) = (tt, empty_say cpus)

  pops_say : (cpu e : ℕ) (turns : List Turn) → Pops shape cpu e turns → AllSay turns
  pops_say cpu e turns pops =
      subst AllSay (sym pops.turns_are) (both_fit TurnSays (found_empty pops.passed) (on_freelist_of pops.giver (Popped e) ∷ []) (empty_say pops.passed) (tt, tt))

  looks_say : (cpu : ℕ) (spare : Option ℕ) (put : Put) (turns : List Turn) → LooksFor shape cpu spare put turns → AllSay turns
  looks_say cpu spare (puts.Added e) turns looks = pops_say cpu e turns looks
  looks_say cpu spare (puts.Replaced new old) turns looks = no_turns_say turns looks.0
  looks_say cpu spare (puts.Written e) turns looks = no_turns_say turns looks
  looks_say cpu spare puts.Exists turns looks = no_turns_say turns looks
  looks_say cpu spare puts.Absent turns looks = no_turns_say turns looks
  looks_say cpu spare puts.Full turns looks = subst AllSay (sym looks) (empty_say (ring cpu shape.cpus))

  pushes_say : (cpu : ℕ) (gone : Option ℕ) → AllSay (pushes cpu gone)
  pushes_say cpu None = tt
  pushes_say cpu (Some e) = (tt, tt)

  lookup_says : (side : Side) (key : List ℕ) (turns : List Turn) (reply : Reply) → AreBytes shape.key_size key
      → IsLookupTrace shape side key turns reply → AllSay turns
  lookup_says side key turns reply bytes trace = subst AllSay (sym trace.turns_are) (bytes, tt)

  update_says : (cpu : ℕ) (spare : Option ℕ) (side : Side) (flags : ℕ) (key value : List ℕ) (turns : List Turn) (reply : Reply)
      → AreBytes shape.key_size key → AreBytes (value_len_of shape side) value
      → IsUpdateTrace shape cpu spare side flags key value turns reply → AllSay turns
  update_says cpu spare side flags key value turns reply bytes written (inl (above, none, refused)) = no_turns_say turns none
  update_says cpu spare side flags key value turns reply bytes written (inr (few, trace)) =
      let small : IsU32 flags = omega (arith, few) in
      subst AllSay (sym trace.turns_are) (both_fit TurnSays trace.looks (on_bucket_of shape key (Update side flags key value None trace.put) ∷ [])
      (looks_say cpu spare trace.put trace.looks trace.looks_are) ((small, bytes, written), tt))

  delete_says : (cpu : ℕ) (key : List ℕ) (turns : List Turn) (reply : Reply) → AreBytes shape.key_size key
      → IsDeleteTrace shape cpu key turns reply → AllSay turns
  delete_says cpu key turns reply bytes trace =
      subst AllSay (sym trace.turns_are) (both_fit TurnSays (pushes cpu trace.gone) (on_bucket_of shape key (Delete key trace.gone) ∷ []) (pushes_say cpu trace.gone) (bytes, tt))

  take_says : (cpu : ℕ) (key : List ℕ) (turns : List Turn) (reply : Reply) → AreBytes shape.key_size key
      → IsTakeTrace shape cpu key turns reply → AllSay turns
  take_says cpu key turns reply bytes trace =
      subst AllSay (sym trace.turns_are) (both_fit TurnSays (pushes cpu (element_gone trace.gone)) (on_bucket_of shape key (Take key trace.gone) ∷ []) (pushes_say cpu (element_gone trace.gone)) (bytes, tt))

  plain_says : (cpu : ℕ) (spare : Option ℕ) (verb : Verb) → HasSizes shape verb → Gives verb → (turns : List Turn) (reply : Reply)
      → IsPlainTrace shape cpu spare verb turns reply → AllSay turns
  plain_says cpu spare (verbs.Lookup side key) sizes gives turns reply trace = lookup_says side key turns reply (given shape.key_size key sizes gives) trace
  plain_says cpu spare (verbs.Update side flags key value) sizes gives turns reply trace =
      update_says cpu spare side flags key value turns reply (given shape.key_size key sizes.0 gives.0) (given (value_len_of shape side) value sizes.1 gives.1) trace
  plain_says cpu spare (verbs.Delete key) sizes gives turns reply trace = delete_says cpu key turns reply (given shape.key_size key sizes gives) trace
  plain_says cpu spare (verbs.Take key) sizes gives turns reply trace = take_says cpu key turns reply (given shape.key_size key sizes gives) trace
  plain_says cpu spare (verbs.Next key) sizes gives turns reply trace = absurd trace
  plain_says cpu spare (verbs.BatchRead remove count first flags) sizes gives turns reply trace = absurd trace
  plain_says cpu spare (verbs.BatchUpdate flags pairs) sizes gives turns reply trace = absurd trace
  plain_says cpu spare (verbs.BatchDelete flags keys) sizes gives turns reply trace = absurd trace
  plain_says cpu spare (verbs.Each flags stop) sizes gives turns reply trace = absurd trace

  -- ---- how an element is taken and freed

  evicts_says : (probe : Try) (found : Option ℕ) (turn : Turn) → option_map (evicts shape probe) found ≡ Some turn → TurnSays turn
  evicts_says probe None turn is = cc is
  evicts_says probe (Some stored) turn is = let same : evicts shape probe stored ≡ turn = cc is in subst TurnSays same tt

  -- the probes of a walk are evictions, and say nothing
  chase_says : (rows : List Row) (probes : List Try) (turns : List Turn) → Chase shape rows probes turns → AllSay turns
  chase_says rows [] [] chase = tt
  chase_says rows [] (turn ∷ turns) chase = absurd chase
  chase_says rows (probe ∷ probes) [] chase = absurd chase
  chase_says rows (probe ∷ probes) (turn ∷ turns) chase = (evicts_says probe (stored_hash probe.element rows) turn chase.0, chase_says rows probes turns chase.1)

  chased_says : (lock : DomainId) (part : Part) (ats : List TurnAt) → Says shape part → IsChased shape lock part ats → AllAtSay ats
  chased_says lock part ats says chased =
      joined_say ats chased.probing (chased.last ∷ []) chased.turns_are (at_their_places chased.probing (chase_says _ _ (turns_of chased.probing) chased.chase))
      (one_says chased.last (on_lock lock part) chased.last_is says, tt)

  module _ (cpu key_hash : ℕ) (small : IsU32 key_hash) where
    takes_own : (got : Option ℕ) (ats : List TurnAt) → TakesOwn shape cpu key_hash got ats → AllAtSay ats
    takes_own got ats takes = chased_says _ _ ats small takes.chased

    takes_free : (got : Option ℕ) (ats : List TurnAt) → TakesFree cpu key_hash got ats → AllAtSay ats
    takes_free None ats takes = absurd takes
    takes_free (Some e) ats takes = as_turns ats _ takes (small, tt)

    refills_say : {lists : LocalLists} {got : Option ℕ} (ats : List TurnAt) → Refills shape cpu key_hash lists got ats → AllAtSay ats
    refills_say ats refills =
        joined_say ats refills.inner (refills.last ∷ []) refills.turns_are (chased_says _ _ refills.inner tt refills.chased) (one_says refills.last _ refills.last_is small, tt)

    brought_say : (from : ℕ) (found got : Option ℕ) (others : List ℕ) (rest : List TurnAt)
        → (Steals shape cpu key_hash others got rest → AllAtSay rest)
        → MatchOption found (Steals shape cpu key_hash others got rest) (λ e. (got ≡ Some e) × (turns_of rest ≡ brings_home shape cpu key_hash from e ∷ []))
        → AllAtSay rest
    brought_say from None got others rest later steals = later steals
    brought_say from (Some e) got others rest later home = as_turns rest _ home.1 (small, tt)

    steals_say : (others : List ℕ) (got : Option ℕ) (ats : List TurnAt) → Steals shape cpu key_hash others got ats → AllAtSay ats
    steals_say [] got ats steals = none_say ats steals.0
    steals_say (from ∷ others) got ats (tried, rest, stolen, first, second, are, chased, home) =
        joined_say ats tried rest are (chased_says _ _ tried tt chased) (brought_say from (stolen_element stolen) got others rest (λ later. steals_say others got rest later) home)

    after_refill : (gave got : Option ℕ) (cpus : List ℕ) (ats : List TurnAt)
        → MatchOption gave (Steals shape cpu key_hash cpus got ats) (λ e. (ats ≡ []) × (got ≡ Some e)) → AllAtSay ats
    after_refill None got cpus ats steals = steals_say cpus got ats steals
    after_refill (Some e) got cpus ats none = none_say ats none.0

    acquires_say : (got : Option ℕ) (ats : List TurnAt) → Acquires shape cpu key_hash got ats → AllAtSay ats
    acquires_say got ats = by shape.common
      where
        shared : TakesFree cpu key_hash got ats ⊎ TakesByRefill shape cpu key_hash got ats → AllAtSay ats
        shared (inl free) = takes_free got ats free
        shared (inr refill) =
            joined_say ats refill.refilling refill.stealing refill.turns_are (refills_say refill.refilling refill.refills)
            (after_refill refill.gave got (ring refill.lists.steal shape.cpus) refill.stealing refill.steals)

        by : (b : Bool)
            → MatchBool b (TakesFree cpu key_hash got ats ⊎ TakesByRefill shape cpu key_hash got ats) (TakesOwn shape cpu key_hash got ats)
            → AllAtSay ats
        by true takes = shared takes
        by false takes = takes_own got ats takes

  frees_say : (e : ℕ) (ats : List TurnAt) → Frees shape e ats → AllAtSay ats
  frees_say e ats = by shape.common
    where
      shared : FreesPending e ats ⊎ (FreesFlushed e ats ⊎ (turns_of ats ≡ freed_globally e ∷ [])) → AllAtSay ats
      shared (inl pending) = as_turns ats _ pending.turns_are (tt, tt)
      shared (inr (inl flushed)) =
          first_says ats flushed.first _ (flushed.second ∷ []) flushed.turns_are flushed.first_is tt (one_says flushed.second _ flushed.second_is tt, tt)
      shared (inr (inr global)) = as_turns ats _ global (tt, tt)

      by : (b : Bool)
          → MatchBool b (FreesPending e ats ⊎ (FreesFlushed e ats ⊎ (turns_of ats ≡ freed_globally e ∷ []))) (turns_of ats ≡ on_lock (CpuLru (set_of shape e)) (parts.Own (own.Push e)) ∷ [])
          → AllAtSay ats
      by true frees = shared frees
      by false push = as_turns ats _ push (tt, tt)

  -- ---- calls on a key of a map that evicts

  frees_one_says : (gone : Option ℕ) (ats : List TurnAt) → FreesOne shape gone ats → AllAtSay ats
  frees_one_says None ats none = none_say ats none
  frees_one_says (Some e) ats frees = frees_say e ats frees

  offer_says : (cpu : ℕ) (side : Side) (flags : ℕ) (key value : List ℕ) (ats : List TurnAt) (reply : Reply) → IsU32 flags
      → AreBytes shape.key_size key → AreBytes (value_len_of shape side) value → IsOfferTrace shape cpu side flags key value ats reply
      → AllAtSay ats
  offer_says cpu side flags key value ats reply small bytes written trace =
      joined_say ats trace.taking trace.rest trace.turns_are
      (acquires_say cpu (hash key shape.seed) (hash_small key shape.seed) trace.got trace.taking trace.takes) (by trace.got trace.rest trace.offers)
    where
      by : (got : Option ℕ) (rest : List TurnAt)
          → MatchOption got ((rest ≡ []) × (reply ≡ Refused Enomem)) (λ e. OffersOne shape side flags key value e rest reply)
          → AllAtSay rest
      by None rest none = none_say rest none.0
      by (Some e) rest offers =
          first_says rest offers.at_bucket _ offers.freeing offers.turns_are offers.bucket_is (small, bytes, written) (frees_one_says (left_over e offers.put) offers.freeing offers.frees)

  evicting_update_says : (cpu : ℕ) (side : Side) (flags : ℕ) (key value : List ℕ) (ats : List TurnAt) (reply : Reply)
      → AreBytes shape.key_size key → AreBytes (value_len_of shape side) value → IsEvictingUpdate shape cpu side flags key value ats reply
      → AllAtSay ats
  evicting_update_says cpu side flags key value ats reply bytes written (inl (above, none, refused)) = none_say ats none
  evicting_update_says cpu side flags key value ats reply bytes written (inr (few, trace)) = by (is_percpu shape.kind && eqb flags 2) trace
    where
      small : IsU32 flags
      small = omega (arith, few)

      by : (alone : Bool)
          → MatchBool alone (IsWriteTrace shape side flags key value ats reply) (IsOfferTrace shape cpu side flags key value ats reply)
          → AllAtSay ats
      by true writes = as_turns ats _ writes.turns_are ((small, bytes, written), tt)
      by false offers = offer_says cpu side flags key value ats reply small bytes written offers

  evicting_delete_says : (key : List ℕ) (ats : List TurnAt) (reply : Reply) → AreBytes shape.key_size key
      → IsEvictingDelete shape key ats reply → AllAtSay ats
  evicting_delete_says key ats reply bytes trace =
      first_says ats trace.at_bucket _ trace.freeing trace.turns_are trace.bucket_is bytes (frees_one_says trace.gone trace.freeing trace.frees)

  evicting_take_says : (key : List ℕ) (ats : List TurnAt) (reply : Reply) → AreBytes shape.key_size key → IsEvictingTake shape key ats reply
      → AllAtSay ats
  evicting_take_says key ats reply bytes trace =
      first_says ats trace.at_bucket _ trace.freeing trace.turns_are trace.bucket_is bytes (frees_one_says (element_gone trace.gone) trace.freeing trace.frees)

  evicting_says : (cpu : ℕ) (verb : Verb) → HasSizes shape verb → Gives verb → (ats : List TurnAt) (reply : Reply)
      → IsEvictingTrace shape cpu verb ats reply → AllAtSay ats
  evicting_says cpu (verbs.Lookup side key) sizes gives ats reply trace =
      at_their_places ats (lookup_says side key (turns_of ats) reply (given shape.key_size key sizes gives) trace)
  evicting_says cpu (verbs.Update side flags key value) sizes gives ats reply trace =
      evicting_update_says cpu side flags key value ats reply (given shape.key_size key sizes.0 gives.0) (given (value_len_of shape side) value sizes.1 gives.1) trace
  evicting_says cpu (verbs.Delete key) sizes gives ats reply trace = evicting_delete_says key ats reply (given shape.key_size key sizes gives) trace
  evicting_says cpu (verbs.Take key) sizes gives ats reply trace = evicting_take_says key ats reply (given shape.key_size key sizes gives) trace
  evicting_says cpu (verbs.Next key) sizes gives ats reply trace = absurd trace
  evicting_says cpu (verbs.BatchRead remove count first flags) sizes gives ats reply trace = absurd trace
  evicting_says cpu (verbs.BatchUpdate flags pairs) sizes gives ats reply trace = absurd trace
  evicting_says cpu (verbs.BatchDelete flags keys) sizes gives ats reply trace = absurd trace
  evicting_says cpu (verbs.Each flags stop) sizes gives ats reply trace = absurd trace

  pub key_says : (cpu : ℕ) (spare : Option ℕ) (verb : Verb) → HasSizes shape verb → Gives verb → (ats : List TurnAt) (reply : Reply)
      → IsKeyTrace shape cpu spare verb ats reply → AllAtSay ats
  key_says cpu spare verb sizes gives ats reply = by (is_lru shape.kind)
    where
      by : (lru : Bool) → MatchBool lru (IsEvictingTrace shape cpu verb ats reply) (IsPlainTrace shape cpu spare verb (turns_of ats) reply)
          → AllAtSay ats
      by true trace = evicting_says cpu verb sizes gives ats reply trace
      by false trace = at_their_places ats (plain_says cpu spare verb sizes gives (turns_of ats) reply trace)

  -- ---- next key

  firsts_say : (buckets : List ℕ) (turns : List Turn) (reply : Reply) → Firsts buckets turns reply → AllSay turns
  firsts_say [] turns reply none = no_turns_say turns none.0
  firsts_say (bucket ∷ buckets) turns reply (None, rest, are, later) = subst AllSay (sym are) (tt, firsts_say buckets rest reply later)
  firsts_say (bucket ∷ buckets) turns reply (Some key, rest, are, ends) = subst AllSay (sym are) (tt, no_turns_say rest ends.0)

  goes_on_says : (key : List ℕ) (found : NextFound) (turns : List Turn) (reply : Reply) → GoesOn shape key found turns reply → AllSay turns
  goes_on_says key nexts.Absent turns reply goes = firsts_say _ turns reply goes
  goes_on_says key nexts.Last turns reply goes = firsts_say _ turns reply goes
  goes_on_says key (nexts.Key next) turns reply goes = no_turns_say turns goes.0

  next_says : (key : Option (List ℕ)) → HasSizes shape (verbs.Next key) → Gives (verbs.Next key) → (turns : List Turn) (reply : Reply)
      → IsNextTrace shape key turns reply → AllSay turns
  next_says None sizes gives turns reply firsts = firsts_say _ turns reply firsts
  next_says (Some key) sizes gives turns reply trace =
      subst AllSay (sym trace.turns_are) (given shape.key_size key sizes gives, goes_on_says key trace.found trace.rest reply trace.goes_on)

  -- ---- batches, and walks over all elements

  frees_all_say : (es : List ℕ) (ats : List TurnAt) → FreesAll shape es ats → AllAtSay ats
  frees_all_say [] ats none = none_say ats none
  frees_all_say (e ∷ es) ats (one, others, (are, frees, rest)) = joined_say ats one others are (frees_say e one frees) (frees_all_say es others rest)

  all_pushed_say : (cpu : ℕ) (es : List ℕ) → AllSay (map (λ e. on_freelist_of cpu (Pushed e)) es)
  all_pushed_say cpu [] = tt
  all_pushed_say cpu (e ∷ es) = (tt, all_pushed_say cpu es)

  takes_out_says : (cpu : ℕ) (turn : Turn) (gone : List ℕ) (ats : List TurnAt) → TurnSays turn → TakesOut shape cpu turn gone ats → AllAtSay ats
  takes_out_says cpu turn gone ats says = by (is_lru shape.kind)
    where
      by : (lru : Bool)
          → MatchBool lru (IsFreedAfter shape turn gone ats) (turns_of ats ≡ map (λ e. on_freelist_of cpu (Pushed e)) gone ++ turn ∷ [])
          → AllAtSay ats
      by true after = first_says ats after.at_bucket turn after.freeing after.turns_are after.bucket_is says (frees_all_say (reverse gone) after.freeing after.frees)
      by false are = as_turns ats _ are (both_fit TurnSays (map (λ e. on_freelist_of cpu (Pushed e)) gone) (turn ∷ []) (all_pushed_say cpu gone) (says, tt))

  walks_say : (cpu : ℕ) (remove : Bool) (limit : ℕ) → IsU32 limit
      → (buckets : List ℕ) (taken : List (List ℕ × List ℕ)) (ats : List TurnAt) (reply : Reply)
      → Walks shape cpu remove limit buckets taken ats reply → AllAtSay ats
  walks_say cpu remove limit small [] taken ats reply none = none_say ats none.0
  walks_say cpu remove limit small (bucket ∷ buckets) taken ats reply (Over n, one, rest, (are, takes, ends)) =
      joined_say ats one rest are (takes_out_says cpu _ _ one (omega (arith, small)) takes) (none_say rest ends.0)
  walks_say cpu remove limit small (bucket ∷ buckets) taken ats reply (Taken all, one, rest, (are, takes, later)) =
      joined_say ats one rest are (takes_out_says cpu _ _ one (omega (arith, small)) takes) (walks_say cpu remove limit small buckets _ rest reply later)

  -- a batch read that is made: within the buckets, with some count
  abbrev Reads : ℕ → Bool → ℕ → Option ℕ → List TurnAt → Reply → Type 0
  Reads cpu remove count first ats reply = Walks shape cpu remove (min count shape.elements) (buckets_from shape (unwrap_or first 0)) [] ats reply

  abbrev ReadsWithin : ℕ → Bool → ℕ → Option ℕ → List TurnAt → Reply → Type 0
  ReadsWithin cpu remove count first ats reply =
      MatchBool (nat_lt (unwrap_or first 0) shape.buckets) (Reads cpu remove count first ats reply) ((ats ≡ []) × (reply ≡ Refused Enoent))

  read_says : (cpu : ℕ) (remove : Bool) (count : ℕ) (first : Option ℕ) (flags : ℕ) → IsU32 shape.elements
      → (ats : List TurnAt) (reply : Reply) → IsReadTrace shape cpu remove count first flags ats reply → AllAtSay ats
  read_says cpu remove count first flags small ats reply = by_flags (eqb flags 0)
    where
      limit : IsU32 (min count shape.elements)
      limit = omega (arith, small)

      by_start : (within : Bool) → MatchBool within (Reads cpu remove count first ats reply) ((ats ≡ []) × (reply ≡ Refused Enoent)) → AllAtSay ats
      by_start true walks = walks_say cpu remove (min count shape.elements) limit _ [] ats reply walks
      by_start false none = none_say ats none.0

      by_count : (zero_count : Bool) → MatchBool zero_count ((ats ≡ []) × (reply ≡ Done)) (ReadsWithin cpu remove count first ats reply)
          → AllAtSay ats
      by_count true none = none_say ats none.0
      by_count false within = by_start (nat_lt (unwrap_or first 0) shape.buckets) within

      by_flags : (no_flags : Bool)
          → MatchBool no_flags (MatchBool (eqb count 0) ((ats ≡ []) × (reply ≡ Done)) (ReadsWithin cpu remove count first ats reply)) ((ats ≡ []) × (reply ≡ Refused Einval))
          → AllAtSay ats
      by_flags true reads = by_count (eqb count 0) reads
      by_flags false none = none_say ats none.0

  -- the entries of a batch write
  abbrev IsGiven : Verb → Type 0
  IsGiven verb = HasSizes shape verb × Gives verb

  more_written : (cpu : ℕ) (spare : Option ℕ) (entries : List Verb) (done : ℕ) (refused : Option Errno) (rest : List TurnAt) (reply : Reply)
      → (Writes shape cpu spare entries (suc done) rest reply → AllAtSay rest)
      → MatchOption refused (Writes shape cpu spare entries (suc done) rest reply) (λ errno. (rest ≡ []) × (reply ≡ Count (Some errno) done))
      → AllAtSay rest
  more_written cpu spare entries done None rest reply later writes = later writes
  more_written cpu spare entries done (Some errno) rest reply later none = none_say rest none.0

  writes_say : (cpu : ℕ) (spare : Option ℕ) (entries : List Verb) → AllFit IsGiven entries → (done : ℕ) (ats : List TurnAt) (reply : Reply)
      → Writes shape cpu spare entries done ats reply → AllAtSay ats
  writes_say cpu spare [] gives done ats reply none = none_say ats none.0
  writes_say cpu spare (entry ∷ entries) gives done ats reply (answer, one, rest, (are, trace, later)) =
      joined_say ats one rest are (key_says cpu spare entry gives.0.0 gives.0.1 one answer trace)
      (more_written cpu (spare_left shape spare one) entries done (refused_with answer) rest reply
      (λ writes. writes_say cpu (spare_left shape spare one) entries gives.1 (suc done) rest reply writes) later)

  batch_says : (cpu : ℕ) (spare : Option ℕ) (flags : ℕ) (entries : List Verb) → AllFit IsGiven entries → (ats : List TurnAt) (reply : Reply)
      → IsWriteBatch shape cpu spare flags entries ats reply → AllAtSay ats
  batch_says cpu spare flags entries gives ats reply = by (eqb flags 0)
    where
      by : (no_flags : Bool) → MatchBool no_flags (Writes shape cpu spare entries 0 ats reply) ((ats ≡ []) × (reply ≡ Refused Einval)) → AllAtSay ats
      by true writes = writes_say cpu spare entries gives 0 ats reply writes
      by false none = none_say ats none.0

  abbrev IsPair : List ℕ × List ℕ → Type 0
  IsPair pair = IsBytes pair.0 × IsBytes pair.1

  updates_given : (pairs : List (List ℕ × List ℕ)) → HaveSizes shape.key_size (value_len_of shape Sys) pairs → ArePairs pairs
      → AllFit IsGiven (updates_of pairs)
  updates_given [] sizes bytes = tt
  updates_given (pair ∷ pairs) sizes bytes =
      (((sizes.0, sizes.1), All-head IsPair pair pairs bytes), updates_given pairs sizes.2 (All-tail IsPair pair pairs bytes))

  deletes_given : (keys : List (List ℕ)) → All (IsKey shape) keys → All IsBytes keys → AllFit IsGiven (deletes_of keys)
  deletes_given [] sizes bytes = tt
  deletes_given (key ∷ keys) sizes bytes =
      ((All-head (IsKey shape) key keys sizes, All-head IsBytes key keys bytes), deletes_given keys (All-tail (IsKey shape) key keys sizes) (All-tail IsBytes key keys bytes))

  module _ (cpu : ℕ) (Answers : Callback) (small : IsU32 shape.elements) where
    hands_say : (buckets : List ℕ) (before : List (List ℕ × List ℕ)) (turns : List Turn) (reply : Reply)
        → HandsOverBuckets shape cpu Answers buckets before turns reply → AllSay turns
    hands_say [] before turns reply none = no_turns_say turns none.0
    hands_say (bucket ∷ buckets) before turns reply (Over n, rest, (are, ends)) = subst AllSay (sym are) (omega (arith, small), no_turns_say rest ends.0)
    hands_say (bucket ∷ buckets) before turns reply (Taken all, rest, (are, (over, true, (hands, ends)))) =
        subst AllSay (sym are) (omega (arith, small), no_turns_say rest ends.0)
    hands_say (bucket ∷ buckets) before turns reply (Taken all, rest, (are, (over, false, (hands, later)))) =
        subst AllSay (sym are) (omega (arith, small), hands_say buckets (before ++ over) rest reply later)

    handing_says : (flags : ℕ) (turns : List Turn) (reply : Reply) → IsHandingTrace shape cpu Answers flags turns reply → AllSay turns
    handing_says flags turns reply = by (eqb flags 0)
      where
        by : (no_flags : Bool)
            → MatchBool no_flags (HandsOverBuckets shape cpu Answers (buckets_from shape 0) [] turns reply) ((turns ≡ []) × (reply ≡ Refused Einval))
            → AllSay turns
        by true hands = hands_say (buckets_from shape 0) [] turns reply hands
        by false none = no_turns_say turns none.0

-- what a call says of its turns, whatever lies under their locks
pub says : (shape : Shape) → HasBounds shape → (cpu : ℕ) (spare : Option ℕ) (verb : Verb) → HasSizes shape verb → Gives verb
    → (turns : List TurnAt) (reply : Reply) → IsTrace shape cpu spare verb turns reply → AllFit (λ at. Says shape at.turn.part) turns
says shape bounds cpu spare (verbs.Lookup side key) sizes gives turns reply trace = key_says shape cpu spare (verbs.Lookup side key) sizes gives turns reply trace
says shape bounds cpu spare (verbs.Update side flags key value) sizes gives turns reply trace =
    key_says shape cpu spare (verbs.Update side flags key value) sizes gives turns reply trace
says shape bounds cpu spare (verbs.Delete key) sizes gives turns reply trace = key_says shape cpu spare (verbs.Delete key) sizes gives turns reply trace
says shape bounds cpu spare (verbs.Take key) sizes gives turns reply trace = key_says shape cpu spare (verbs.Take key) sizes gives turns reply trace
says shape bounds cpu spare (verbs.Next key) sizes gives turns reply trace = at_their_places shape turns (next_says shape key sizes gives (turns_of turns) reply trace)
says shape bounds cpu spare (verbs.BatchRead remove count first flags) sizes gives turns reply trace =
    let small : IsU32 shape.elements = omega (arith, bounds.elements_bounded) in
    read_says shape cpu remove count first flags small turns reply trace
says shape bounds cpu spare (verbs.BatchUpdate flags pairs) sizes gives turns reply trace =
    batch_says shape cpu spare flags (updates_of pairs) (updates_given shape pairs sizes gives.0) turns reply trace
says shape bounds cpu spare (verbs.BatchDelete flags keys) sizes gives turns reply trace =
    batch_says shape cpu spare flags (deletes_of keys) (deletes_given shape keys sizes gives.0) turns reply trace
says shape bounds cpu spare (verbs.Each flags stop) sizes gives turns reply trace =
    let small : IsU32 shape.elements = omega (arith, bounds.elements_bounded) in
    at_their_places shape turns (handing_says shape cpu (StopsAt stop) small flags (turns_of turns) reply trace)
