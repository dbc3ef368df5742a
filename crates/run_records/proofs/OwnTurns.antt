-- Each turn of a call that writes a key is one of that key's bucket, whatever lies under the locks.
use Rattle.std.proofs.Common.{◌≡◌, ◌⊎◌, inl, inr, ℕ, suc, Bool, true, false, ◌&&◌, eqb, List, [], ◌∷◌, ◌++◌, reverse, map, refl, sym, subst}
use Rattle.std.specs.Prelude.{Option, None, Some, MatchBool, MatchOption, nat_lt, min, unwrap_or, option_map}
use Rattle.map_types.specs.declared.attr.Shape.{Shape}
use Rattle.map_types.specs.declared.call.Verb.{Verb}
use Rattle.map_types.specs.declared.call.Verb.TheVariants as verbs
use Rattle.map_types.specs.declared.kind.DomainId.{DomainId}
use Rattle.map_types.specs.declared.kind.DomainId.TheVariants.{CpuLru}
use Rattle.map_types.specs.declared.kind.Side.{Side}
use Rattle.map_types.specs.declared.refusal.Errno.{Errno}
use Rattle.map_types.specs.declared.refusal.Errno.TheVariants.{Einval, Enoent, Enomem}
use Rattle.map_types.specs.declared.reply.Reply.{Reply}
use Rattle.map_types.specs.declared.reply.Reply.TheVariants.{Count, Done, Refused}
use Rattle.map_types.specs.declared.row.Row.{Row}
use Rattle.map_types.specs.Kind.{is_lru, is_percpu}
use Rattle.place_words.specs.declared.bucket_part.BucketPart.TheVariants.{Delete, Take, Update}
use Rattle.place_words.specs.declared.bucket_part.NextFound.{NextFound}
use Rattle.place_words.specs.declared.bucket_part.NextFound.TheVariants as nexts
use Rattle.place_words.specs.declared.bucket_part.Put.{Put}
use Rattle.place_words.specs.declared.bucket_part.Put.TheVariants as puts
use Rattle.place_words.specs.declared.bucket_part.Walked.TheVariants.{Over, Taken}
use Rattle.place_words.specs.declared.free_part.FreePart.TheVariants.{Popped, Pushed}
use Rattle.place_words.specs.declared.history.Part.{Part}
use Rattle.place_words.specs.declared.history.Part.TheVariants as parts
use Rattle.place_words.specs.declared.list_part.OwnPart.TheVariants as own
use Rattle.place_words.specs.declared.visits.Try.{Try}
use Rattle.place_words.specs.Evicting.{FreesOne, IsEvictingTrace, IsEvictingUpdate, IsOfferTrace, IsWriteTrace, OffersOne, left_over}
use Rattle.place_words.specs.Handing.{Callback, HandsOverBuckets, IsHandingTrace, StopsAt}
use Rattle.place_words.specs.Locals.{LocalLists}
use Rattle.place_words.specs.PlainTraces.{IsDeleteTrace, IsLookupTrace, IsPlainTrace, IsTakeTrace, IsUpdateTrace, LooksFor, Pops, element_gone, found_empty, pushes}
use Rattle.place_words.specs.Takings.{Acquires, Chase, Frees, FreesFlushed, FreesPending, IsChased, Refills, Steals, TakesByRefill, TakesFree, TakesOwn, brings_home, evicts, freed_globally, set_of, stolen_element, stored_hash}
use Rattle.place_words.specs.Traces.{IsTrace}
use Rattle.place_words.specs.Turns.{Turn, TurnAt, on_bucket_of, on_freelist_of, on_lock, ring, turns_of}
use Rattle.place_words.specs.Walks.{Firsts, FreesAll, GoesOn, IsFreedAfter, IsKeyTrace, IsNextTrace, IsReadTrace, IsWriteBatch, TakesOut, Walks, Writes, buckets_from, deletes_of, refused_with, spare_left, updates_of}
use Rattle.record_shape.specs.Fits.{AllFit}
use Rattle.record_shape.proofs.SaysLaws.{both_fit}
use Rattle.serial_laws.proofs.OwnKeys.{IsOwn}

module _ (shape : Shape) where
  abbrev TurnOwn : Turn → Type 0
  TurnOwn turn = IsOwn shape turn.lock turn.part

  abbrev AllTurns : List Turn → Type 0
  AllTurns turns = AllFit TurnOwn turns

  abbrev AtOwn : TurnAt → Type 0
  AtOwn at = IsOwn shape at.turn.lock at.turn.part

  abbrev AllAt : List TurnAt → Type 0
  AllAt turns = AllFit AtOwn turns

  -- of turns, wherever they stand
  at_their_places : (ats : List TurnAt) → AllTurns (turns_of ats) → AllAt ats
  at_their_places [] own = tt
  at_their_places (at ∷ ats) own = (own.0, at_their_places ats own.1)

  as_turns : (ats : List TurnAt) (turns : List Turn) → turns_of ats ≡ turns → AllTurns turns → AllAt ats
  as_turns ats turns are own = at_their_places ats (subst AllTurns (sym are) own)

  -- turns of two parts of a call
  joined : (ats one other : List TurnAt) → ats ≡ one ++ other → AllAt one → AllAt other → AllAt ats
  joined ats one other are first second = subst AllAt (sym are) (both_fit AtOwn one other first second)

  one_own : (at : TurnAt) (turn : Turn) → at.turn ≡ turn → TurnOwn turn → AtOwn at
  one_own at turn is own = subst TurnOwn (sym is) own

  first_own : (ats : List TurnAt) (at : TurnAt) (turn : Turn) (others : List TurnAt) → ats ≡ at ∷ others → at.turn ≡ turn → TurnOwn turn → AllAt others → AllAt ats
  first_own ats at turn others are is own rest = subst AllAt (sym are) (one_own at turn is own, rest)

  -- where a call makes no turns
  none_at : (ats : List TurnAt) → ats ≡ [] → AllAt ats
  none_at ats none = subst AllAt (sym none) tt

  no_turns : (turns : List Turn) → turns ≡ [] → AllTurns turns
  no_turns turns none = subst AllTurns (sym none) tt

  -- Calls on a key of a map that doesn't evict

  empty_own : (cpus : List ℕ) → AllTurns (found_empty cpus)
  empty_own [] = tt
  empty_own (cpu ∷ cpus) = (tt, empty_own cpus)

  pops_own : (cpu e : ℕ) (turns : List Turn) → Pops shape cpu e turns → AllTurns turns
  pops_own cpu e turns pops =
      subst AllTurns (sym pops.turns_are) (both_fit TurnOwn (found_empty pops.passed) (on_freelist_of pops.giver (Popped e) ∷ []) (empty_own pops.passed) (tt, tt))

  looks_own : (cpu : ℕ) (spare : Option ℕ) (put : Put) (turns : List Turn) → LooksFor shape cpu spare put turns → AllTurns turns
  looks_own cpu spare (puts.Added e) turns looks = pops_own cpu e turns looks
  looks_own cpu spare (puts.Replaced new old) turns looks = no_turns turns looks.0
  looks_own cpu spare (puts.Written e) turns looks = no_turns turns looks
  looks_own cpu spare puts.Exists turns looks = no_turns turns looks
  looks_own cpu spare puts.Absent turns looks = no_turns turns looks
  looks_own cpu spare puts.Full turns looks = subst AllTurns (sym looks) (empty_own (ring cpu shape.cpus))

  pushes_own : (cpu : ℕ) (gone : Option ℕ) → AllTurns (pushes cpu gone)
  pushes_own cpu None = tt
  pushes_own cpu (Some e) = (tt, tt)

  lookup_own : (side : Side) (key : List ℕ) (turns : List Turn) (reply : Reply) → IsLookupTrace shape side key turns reply → AllTurns turns
  lookup_own side key turns reply trace = subst AllTurns (sym trace.turns_are) (tt, tt)

  update_own : (cpu : ℕ) (spare : Option ℕ) (side : Side) (flags : ℕ) (key value : List ℕ) (turns : List Turn) (reply : Reply) → IsUpdateTrace shape cpu spare side flags key value turns reply → AllTurns turns
  update_own cpu spare side flags key value turns reply (inl (above, none, refused)) = no_turns turns none
  update_own cpu spare side flags key value turns reply (inr (few, trace)) =
      subst AllTurns (sym trace.turns_are) (both_fit TurnOwn trace.looks (on_bucket_of shape key (Update side flags key value None trace.put) ∷ [])
      (looks_own cpu spare trace.put trace.looks trace.looks_are) (refl, tt))

  delete_own : (cpu : ℕ) (key : List ℕ) (turns : List Turn) (reply : Reply) → IsDeleteTrace shape cpu key turns reply → AllTurns turns
  delete_own cpu key turns reply trace =
      subst AllTurns (sym trace.turns_are) (both_fit TurnOwn (pushes cpu trace.gone) (on_bucket_of shape key (Delete key trace.gone) ∷ []) (pushes_own cpu trace.gone) (tt, tt))

  take_own : (cpu : ℕ) (key : List ℕ) (turns : List Turn) (reply : Reply) → IsTakeTrace shape cpu key turns reply → AllTurns turns
  take_own cpu key turns reply trace =
      subst AllTurns (sym trace.turns_are) (both_fit TurnOwn (pushes cpu (element_gone trace.gone)) (on_bucket_of shape key (Take key trace.gone) ∷ []) (pushes_own cpu (element_gone trace.gone)) (tt, tt))

  plain_own : (cpu : ℕ) (spare : Option ℕ) (verb : Verb) (turns : List Turn) (reply : Reply) → IsPlainTrace shape cpu spare verb turns reply → AllTurns turns
  plain_own cpu spare (verbs.Lookup side key) turns reply trace = lookup_own side key turns reply trace
  plain_own cpu spare (verbs.Update side flags key value) turns reply trace = update_own cpu spare side flags key value turns reply trace
  plain_own cpu spare (verbs.Delete key) turns reply trace = delete_own cpu key turns reply trace
  plain_own cpu spare (verbs.Take key) turns reply trace = take_own cpu key turns reply trace
  plain_own cpu spare (verbs.Next key) turns reply trace = absurd trace
  plain_own cpu spare (verbs.BatchRead remove count first flags) turns reply trace = absurd trace
  plain_own cpu spare (verbs.BatchUpdate flags pairs) turns reply trace = absurd trace
  plain_own cpu spare (verbs.BatchDelete flags keys) turns reply trace = absurd trace
  plain_own cpu spare (verbs.Each flags stop) turns reply trace = absurd trace

  -- How an element is taken and freed

  evicts_own : (probe : Try) (found : Option ℕ) (turn : Turn) → option_map (evicts shape probe) found ≡ Some turn → TurnOwn turn
  evicts_own probe None turn is = cc is
  evicts_own probe (Some stored) turn is = let same : evicts shape probe stored ≡ turn = cc is in subst TurnOwn same tt

  -- the probes of a walk are evictions, and write nothing
  chase_own : (rows : List Row) (probes : List Try) (turns : List Turn) → Chase shape rows probes turns → AllTurns turns
  chase_own rows [] [] chase = tt
  chase_own rows [] (turn ∷ turns) chase = absurd chase
  chase_own rows (probe ∷ probes) [] chase = absurd chase
  chase_own rows (probe ∷ probes) (turn ∷ turns) chase = (evicts_own probe (stored_hash probe.element rows) turn chase.0, chase_own rows probes turns chase.1)

  chased_own : (lock : DomainId) (part : Part) (ats : List TurnAt) → IsOwn shape lock part → IsChased shape lock part ats → AllAt ats
  chased_own lock part ats own chased =
      joined ats chased.probing (chased.last ∷ []) chased.turns_are (at_their_places chased.probing (chase_own _ _ (turns_of chased.probing) chased.chase))
      (one_own chased.last (on_lock lock part) chased.last_is own, tt)

  module _ (cpu key_hash : ℕ) where
    takes_own : (got : Option ℕ) (ats : List TurnAt) → TakesOwn shape cpu key_hash got ats → AllAt ats
    takes_own got ats takes = chased_own _ _ ats tt takes.chased

    takes_free : (got : Option ℕ) (ats : List TurnAt) → TakesFree cpu key_hash got ats → AllAt ats
    takes_free None ats takes = absurd takes
    takes_free (Some e) ats takes = as_turns ats _ takes (tt, tt)

    refills_own : {lists : LocalLists} {got : Option ℕ} (ats : List TurnAt) → Refills shape cpu key_hash lists got ats → AllAt ats
    refills_own ats refills =
        joined ats refills.inner (refills.last ∷ []) refills.turns_are (chased_own _ _ refills.inner tt refills.chased) (one_own refills.last _ refills.last_is tt, tt)

    brought_own : (from : ℕ) (found got : Option ℕ) (others : List ℕ) (rest : List TurnAt) → (Steals shape cpu key_hash others got rest → AllAt rest)
        → MatchOption found (Steals shape cpu key_hash others got rest) (λ e. (got ≡ Some e) × (turns_of rest ≡ brings_home shape cpu key_hash from e ∷ [])) → AllAt rest
    brought_own from None got others rest later steals = later steals
    brought_own from (Some e) got others rest later home = as_turns rest _ home.1 (tt, tt)

    steals_own : (others : List ℕ) (got : Option ℕ) (ats : List TurnAt) → Steals shape cpu key_hash others got ats → AllAt ats
    steals_own [] got ats steals = none_at ats steals.0
    steals_own (from ∷ others) got ats (tried, rest, stolen, first, second, are, chased, home) =
        joined ats tried rest are (chased_own _ _ tried tt chased) (brought_own from (stolen_element stolen) got others rest (λ later. steals_own others got rest later) home)

    after_refill : (gave got : Option ℕ) (cpus : List ℕ) (ats : List TurnAt) → MatchOption gave (Steals shape cpu key_hash cpus got ats) (λ e. (ats ≡ []) × (got ≡ Some e)) → AllAt ats
    after_refill None got cpus ats steals = steals_own cpus got ats steals
    after_refill (Some e) got cpus ats none = none_at ats none.0

    acquires_own : (got : Option ℕ) (ats : List TurnAt) → Acquires shape cpu key_hash got ats → AllAt ats
    acquires_own got ats = by shape.common
      where
        shared : TakesFree cpu key_hash got ats ⊎ TakesByRefill shape cpu key_hash got ats → AllAt ats
        shared (inl free) = takes_free got ats free
        shared (inr refill) =
            joined ats refill.refilling refill.stealing refill.turns_are (refills_own refill.refilling refill.refills)
            (after_refill refill.gave got (ring refill.lists.steal shape.cpus) refill.stealing refill.steals)

        by : (b : Bool) → MatchBool b (TakesFree cpu key_hash got ats ⊎ TakesByRefill shape cpu key_hash got ats) (TakesOwn shape cpu key_hash got ats) → AllAt ats
        by true takes = shared takes
        by false takes = takes_own got ats takes

  frees_own : (e : ℕ) (ats : List TurnAt) → Frees shape e ats → AllAt ats
  frees_own e ats = by shape.common
    where
      shared : FreesPending e ats ⊎ (FreesFlushed e ats ⊎ (turns_of ats ≡ freed_globally e ∷ [])) → AllAt ats
      shared (inl pending) = as_turns ats _ pending.turns_are (tt, tt)
      shared (inr (inl flushed)) = first_own ats flushed.first _ (flushed.second ∷ []) flushed.turns_are flushed.first_is tt (one_own flushed.second _ flushed.second_is tt, tt)
      shared (inr (inr global)) = as_turns ats _ global (tt, tt)

      by : (b : Bool) → MatchBool b (FreesPending e ats ⊎ (FreesFlushed e ats ⊎ (turns_of ats ≡ freed_globally e ∷ []))) (turns_of ats ≡ on_lock (CpuLru (set_of shape e)) (parts.Own (own.Push e)) ∷ []) → AllAt ats
      by true frees = shared frees
      by false push = as_turns ats _ push (tt, tt)

  -- Calls on a key of a map that evicts

  frees_one : (gone : Option ℕ) (ats : List TurnAt) → FreesOne shape gone ats → AllAt ats
  frees_one None ats none = none_at ats none
  frees_one (Some e) ats frees = frees_own e ats frees

  offer_own : (cpu : ℕ) (side : Side) (flags : ℕ) (key value : List ℕ) (ats : List TurnAt) (reply : Reply) → IsOfferTrace shape cpu side flags key value ats reply → AllAt ats
  offer_own cpu side flags key value ats reply trace =
      joined ats trace.taking trace.rest trace.turns_are (acquires_own cpu _ trace.got trace.taking trace.takes) (by trace.got trace.rest trace.offers)
    where
      by : (got : Option ℕ) (rest : List TurnAt) → MatchOption got ((rest ≡ []) × (reply ≡ Refused Enomem)) (λ e. OffersOne shape side flags key value e rest reply) → AllAt rest
      by None rest none = none_at rest none.0
      by (Some e) rest offers = first_own rest offers.at_bucket _ offers.freeing offers.turns_are offers.bucket_is refl (frees_one (left_over e offers.put) offers.freeing offers.frees)

  evicting_update : (cpu : ℕ) (side : Side) (flags : ℕ) (key value : List ℕ) (ats : List TurnAt) (reply : Reply) → IsEvictingUpdate shape cpu side flags key value ats reply → AllAt ats
  evicting_update cpu side flags key value ats reply (inl (above, none, refused)) = none_at ats none
  evicting_update cpu side flags key value ats reply (inr (few, trace)) = by (is_percpu shape.kind && eqb flags 2) trace
    where
      by : (alone : Bool) → MatchBool alone (IsWriteTrace shape side flags key value ats reply) (IsOfferTrace shape cpu side flags key value ats reply) → AllAt ats
      by true writes = as_turns ats _ writes.turns_are (refl, tt)
      by false offers = offer_own cpu side flags key value ats reply offers

  evicting_own : (cpu : ℕ) (verb : Verb) (ats : List TurnAt) (reply : Reply) → IsEvictingTrace shape cpu verb ats reply → AllAt ats
  evicting_own cpu (verbs.Lookup side key) ats reply trace = at_their_places ats (lookup_own side key (turns_of ats) reply trace)
  evicting_own cpu (verbs.Update side flags key value) ats reply trace = evicting_update cpu side flags key value ats reply trace
  evicting_own cpu (verbs.Delete key) ats reply trace = first_own ats trace.at_bucket _ trace.freeing trace.turns_are trace.bucket_is tt (frees_one trace.gone trace.freeing trace.frees)
  evicting_own cpu (verbs.Take key) ats reply trace = first_own ats trace.at_bucket _ trace.freeing trace.turns_are trace.bucket_is tt (frees_one (element_gone trace.gone) trace.freeing trace.frees)
  evicting_own cpu (verbs.Next key) ats reply trace = absurd trace
  evicting_own cpu (verbs.BatchRead remove count first flags) ats reply trace = absurd trace
  evicting_own cpu (verbs.BatchUpdate flags pairs) ats reply trace = absurd trace
  evicting_own cpu (verbs.BatchDelete flags keys) ats reply trace = absurd trace
  evicting_own cpu (verbs.Each flags stop) ats reply trace = absurd trace

  key_own : (cpu : ℕ) (spare : Option ℕ) (verb : Verb) (ats : List TurnAt) (reply : Reply) → IsKeyTrace shape cpu spare verb ats reply → AllAt ats
  key_own cpu spare verb ats reply = by (is_lru shape.kind)
    where
      by : (lru : Bool) → MatchBool lru (IsEvictingTrace shape cpu verb ats reply) (IsPlainTrace shape cpu spare verb (turns_of ats) reply) → AllAt ats
      by true trace = evicting_own cpu verb ats reply trace
      by false trace = at_their_places ats (plain_own cpu spare verb (turns_of ats) reply trace)

  -- Next key

  firsts_own : (buckets : List ℕ) (turns : List Turn) (reply : Reply) → Firsts buckets turns reply → AllTurns turns
  firsts_own [] turns reply none = no_turns turns none.0
  firsts_own (bucket ∷ buckets) turns reply (None, rest, are, later) = subst AllTurns (sym are) (tt, firsts_own buckets rest reply later)
  firsts_own (bucket ∷ buckets) turns reply (Some key, rest, are, ends) = subst AllTurns (sym are) (tt, no_turns rest ends.0)

  goes_on_own : (key : List ℕ) (found : NextFound) (turns : List Turn) (reply : Reply) → GoesOn shape key found turns reply → AllTurns turns
  goes_on_own key nexts.Absent turns reply goes = firsts_own _ turns reply goes
  goes_on_own key nexts.Last turns reply goes = firsts_own _ turns reply goes
  goes_on_own key (nexts.Key next) turns reply goes = no_turns turns goes.0

  next_own : (key : Option (List ℕ)) (turns : List Turn) (reply : Reply) → IsNextTrace shape key turns reply → AllTurns turns
  next_own None turns reply firsts = firsts_own _ turns reply firsts
  next_own (Some key) turns reply trace = subst AllTurns (sym trace.turns_are) (tt, goes_on_own key trace.found trace.rest reply trace.goes_on)

  -- Batches, and walks over all elements

  frees_all : (es : List ℕ) (ats : List TurnAt) → FreesAll shape es ats → AllAt ats
  frees_all [] ats none = none_at ats none
  frees_all (e ∷ es) ats (one, others, (are, frees, rest)) = joined ats one others are (frees_own e one frees) (frees_all es others rest)

  all_pushed_own : (cpu : ℕ) (es : List ℕ) → AllTurns (map (λ e. on_freelist_of cpu (Pushed e)) es)
  all_pushed_own cpu [] = tt
  all_pushed_own cpu (e ∷ es) = (tt, all_pushed_own cpu es)

  takes_out_own : (cpu : ℕ) (turn : Turn) (gone : List ℕ) (ats : List TurnAt) → TurnOwn turn → TakesOut shape cpu turn gone ats → AllAt ats
  takes_out_own cpu turn gone ats own = by (is_lru shape.kind)
    where
      by : (lru : Bool) → MatchBool lru (IsFreedAfter shape turn gone ats) (turns_of ats ≡ map (λ e. on_freelist_of cpu (Pushed e)) gone ++ turn ∷ []) → AllAt ats
      by true after = first_own ats after.at_bucket turn after.freeing after.turns_are after.bucket_is own (frees_all (reverse gone) after.freeing after.frees)
      by false are = as_turns ats _ are (both_fit TurnOwn (map (λ e. on_freelist_of cpu (Pushed e)) gone) (turn ∷ []) (all_pushed_own cpu gone) (own, tt))

  walks_own : (cpu : ℕ) (remove : Bool) (limit : ℕ) (buckets : List ℕ) (taken : List (List ℕ × List ℕ)) (ats : List TurnAt) (reply : Reply) → Walks shape cpu remove limit buckets taken ats reply → AllAt ats
  walks_own cpu remove limit [] taken ats reply none = none_at ats none.0
  walks_own cpu remove limit (bucket ∷ buckets) taken ats reply (Over n, one, rest, (are, takes, ends)) = joined ats one rest are (takes_out_own cpu _ _ one tt takes) (none_at rest ends.0)
  walks_own cpu remove limit (bucket ∷ buckets) taken ats reply (Taken all, one, rest, (are, takes, later)) =
      joined ats one rest are (takes_out_own cpu _ _ one tt takes) (walks_own cpu remove limit buckets _ rest reply later)

  -- a batch read that is made: within the buckets, with some count
  abbrev Reads : ℕ → Bool → ℕ → Option ℕ → List TurnAt → Reply → Type 0
  Reads cpu remove count first ats reply = Walks shape cpu remove (min count shape.elements) (buckets_from shape (unwrap_or first 0)) [] ats reply

  abbrev ReadsWithin : ℕ → Bool → ℕ → Option ℕ → List TurnAt → Reply → Type 0
  ReadsWithin cpu remove count first ats reply =
      MatchBool (nat_lt (unwrap_or first 0) shape.buckets) (Reads cpu remove count first ats reply) ((ats ≡ []) × (reply ≡ Refused Enoent))

  read_own : (cpu : ℕ) (remove : Bool) (count : ℕ) (first : Option ℕ) (flags : ℕ) (ats : List TurnAt) (reply : Reply) → IsReadTrace shape cpu remove count first flags ats reply → AllAt ats
  read_own cpu remove count first flags ats reply = by_flags (eqb flags 0)
    where
      by_start : (within : Bool) → MatchBool within (Reads cpu remove count first ats reply) ((ats ≡ []) × (reply ≡ Refused Enoent)) → AllAt ats
      by_start true walks = walks_own cpu remove (min count shape.elements) _ [] ats reply walks
      by_start false none = none_at ats none.0

      by_count : (zero_count : Bool) → MatchBool zero_count ((ats ≡ []) × (reply ≡ Done)) (ReadsWithin cpu remove count first ats reply) → AllAt ats
      by_count true none = none_at ats none.0
      by_count false within = by_start (nat_lt (unwrap_or first 0) shape.buckets) within

      by_flags : (no_flags : Bool) → MatchBool no_flags (MatchBool (eqb count 0) ((ats ≡ []) × (reply ≡ Done)) (ReadsWithin cpu remove count first ats reply)) ((ats ≡ []) × (reply ≡ Refused Einval)) → AllAt ats
      by_flags true reads = by_count (eqb count 0) reads
      by_flags false none = none_at ats none.0

  more_written : (cpu : ℕ) (spare : Option ℕ) (entries : List Verb) (done : ℕ) (refused : Option Errno) (rest : List TurnAt) (reply : Reply) → (Writes shape cpu spare entries (suc done) rest reply → AllAt rest)
      → MatchOption refused (Writes shape cpu spare entries (suc done) rest reply) (λ errno. (rest ≡ []) × (reply ≡ Count (Some errno) done)) → AllAt rest
  more_written cpu spare entries done None rest reply later writes = later writes
  more_written cpu spare entries done (Some errno) rest reply later none = none_at rest none.0

  writes_own : (cpu : ℕ) (spare : Option ℕ) (entries : List Verb) (done : ℕ) (ats : List TurnAt) (reply : Reply) → Writes shape cpu spare entries done ats reply → AllAt ats
  writes_own cpu spare [] done ats reply none = none_at ats none.0
  writes_own cpu spare (entry ∷ entries) done ats reply (answer, one, rest, (are, trace, later)) =
      joined ats one rest are (key_own cpu spare entry one answer trace)
      (more_written cpu (spare_left shape spare one) entries done (refused_with answer) rest reply (λ writes. writes_own cpu (spare_left shape spare one) entries (suc done) rest reply writes) later)

  batch_own : (cpu : ℕ) (spare : Option ℕ) (flags : ℕ) (entries : List Verb) (ats : List TurnAt) (reply : Reply) → IsWriteBatch shape cpu spare flags entries ats reply → AllAt ats
  batch_own cpu spare flags entries ats reply = by (eqb flags 0)
    where
      by : (no_flags : Bool) → MatchBool no_flags (Writes shape cpu spare entries 0 ats reply) ((ats ≡ []) × (reply ≡ Refused Einval)) → AllAt ats
      by true writes = writes_own cpu spare entries 0 ats reply writes
      by false none = none_at ats none.0

  hands_own : (cpu : ℕ) (Answers : Callback) (buckets : List ℕ) (before : List (List ℕ × List ℕ)) (turns : List Turn) (reply : Reply) → HandsOverBuckets shape cpu Answers buckets before turns reply → AllTurns turns
  hands_own cpu Answers [] before turns reply none = no_turns turns none.0
  hands_own cpu Answers (bucket ∷ buckets) before turns reply (Over n, rest, (are, ends)) = subst AllTurns (sym are) (tt, no_turns rest ends.0)
  hands_own cpu Answers (bucket ∷ buckets) before turns reply (Taken all, rest, (are, (over, true, (hands, ends)))) = subst AllTurns (sym are) (tt, no_turns rest ends.0)
  hands_own cpu Answers (bucket ∷ buckets) before turns reply (Taken all, rest, (are, (over, false, (hands, later)))) =
      subst AllTurns (sym are) (tt, hands_own cpu Answers buckets (before ++ over) rest reply later)

  handing_own : (cpu : ℕ) (Answers : Callback) (flags : ℕ) (turns : List Turn) (reply : Reply) → IsHandingTrace shape cpu Answers flags turns reply → AllTurns turns
  handing_own cpu Answers flags turns reply = by (eqb flags 0)
    where
      by : (no_flags : Bool) → MatchBool no_flags (HandsOverBuckets shape cpu Answers (buckets_from shape 0) [] turns reply) ((turns ≡ []) × (reply ≡ Refused Einval)) → AllTurns turns
      by true hands = hands_own cpu Answers (buckets_from shape 0) [] turns reply hands
      by false none = no_turns turns none.0

  -- of every call
  pub call_own : (cpu : ℕ) (spare : Option ℕ) (verb : Verb) (turns : List TurnAt) (reply : Reply) → IsTrace shape cpu spare verb turns reply → AllFit (λ (at : TurnAt). IsOwn shape at.turn.lock at.turn.part) turns
  call_own cpu spare (verbs.Lookup side key) turns reply trace = key_own cpu spare (verbs.Lookup side key) turns reply trace
  call_own cpu spare (verbs.Update side flags key value) turns reply trace = key_own cpu spare (verbs.Update side flags key value) turns reply trace
  call_own cpu spare (verbs.Delete key) turns reply trace = key_own cpu spare (verbs.Delete key) turns reply trace
  call_own cpu spare (verbs.Take key) turns reply trace = key_own cpu spare (verbs.Take key) turns reply trace
  call_own cpu spare (verbs.Next key) turns reply trace = at_their_places turns (next_own key (turns_of turns) reply trace)
  call_own cpu spare (verbs.BatchRead remove count first flags) turns reply trace = read_own cpu remove count first flags turns reply trace
  call_own cpu spare (verbs.BatchUpdate flags pairs) turns reply trace = batch_own cpu spare flags (updates_of pairs) turns reply trace
  call_own cpu spare (verbs.BatchDelete flags keys) turns reply trace = batch_own cpu spare flags (deletes_of keys) turns reply trace
  call_own cpu spare (verbs.Each flags stop) turns reply trace = at_their_places turns (handing_own cpu (StopsAt stop) flags (turns_of turns) reply trace)
