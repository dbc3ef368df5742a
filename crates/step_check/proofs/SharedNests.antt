-- How the turns of one call stand among each other on a map whose CPUs share lists: the evictions before the list turn whose probes they
-- answer, and a turn of the global lists right before the refill that it is for.
use Rattle.std.proofs.Common.{◌≡◌, ◌⊎◌, ℕ, suc, Bool, ◌&&◌, eqb, true, false, List, [], ◌∷◌, ◌++◌, map, reverse, Option, None, Some, refl, ap, ◌∙◌, sym, subst, inl, inr}
use Rattle.std.specs.Prelude.{IsTrue, MatchBool, MatchOption, option_map, unwrap_or, min, nat_lt}
use Rattle.std.proofs.lemmas.List.{append_assoc}
use Rattle.std.proofs.lemmas.Option.{same_Some}
use Rattle.map_types.specs.declared.attr.Shape.{Shape}
use Rattle.map_types.specs.declared.call.Verb.{Verb}
use Rattle.map_types.specs.declared.call.Verb.TheVariants as verbs
use Rattle.map_types.specs.declared.kind.DomainId.{DomainId}
use Rattle.map_types.specs.declared.kind.DomainId.TheVariants.{Local, Global}
use Rattle.map_types.specs.declared.kind.Side.{Side}
use Rattle.map_types.specs.declared.refusal.Errno.{Errno}
use Rattle.map_types.specs.declared.refusal.Errno.TheVariants.{Enoent, Enomem, Einval}
use Rattle.map_types.specs.declared.reply.Reply.{Reply}
use Rattle.map_types.specs.declared.reply.Reply.TheVariants.{Done, Value, Refused, Batch, Count}
use Rattle.map_types.specs.declared.row.Row.{Row}
use Rattle.map_types.specs.Kind.{is_lru, is_percpu}
use Rattle.key_hash.specs.Jhash.{hash}
use Rattle.place_words.specs.declared.bucket_part.BucketPart.{BucketPart}
use Rattle.place_words.specs.declared.bucket_part.BucketPart.TheVariants.{Lookup, Update, Delete, Take, Next, First, Walk, Evict}
use Rattle.place_words.specs.declared.bucket_part.NextFound.{NextFound}
use Rattle.place_words.specs.declared.bucket_part.NextFound.TheVariants as nexts
use Rattle.place_words.specs.declared.bucket_part.Walked.{Walked}
use Rattle.place_words.specs.declared.bucket_part.Walked.TheVariants.{Over, Taken}
use Rattle.place_words.specs.declared.history.Part.{Part}
use Rattle.place_words.specs.declared.history.Part.TheVariants as parts
use Rattle.place_words.specs.declared.list_part.GlobalPart.{GlobalPart}
use Rattle.place_words.specs.declared.list_part.GlobalPart.TheVariants as global
use Rattle.place_words.specs.declared.list_part.LocalPart.{LocalPart}
use Rattle.place_words.specs.declared.list_part.LocalPart.TheVariants as local
use Rattle.place_words.specs.declared.list_part.Stolen.{Stolen}
use Rattle.place_words.specs.declared.visits.Flush.{Flush}
use Rattle.place_words.specs.declared.visits.Look.{Look}
use Rattle.place_words.specs.declared.visits.Try.{Try}
use Rattle.place_words.specs.Evicting.{FreesOne, left_over, OffersOne, IsOfferTrace, IsWriteTrace, IsEvictingUpdate, IsEvictingTrace}
use Rattle.place_words.specs.Globals.{flush_visit}
use Rattle.place_words.specs.Handing.{Callback, AfterHanding, HandsOverBuckets, StopsAt}
use Rattle.place_words.specs.Locals.{LocalLists}
use Rattle.place_words.specs.Locks.{rank_of}
use Rattle.place_words.specs.PlainTraces.{element_gone}
use Rattle.place_words.specs.Takings.{Chase, IsChased, evicts, stored_hash, freed_by, Refills, Steals, stolen_element, brings_home, FreesPending, FreesFlushed, freed_globally, TakesFree, TakesByRefill, Acquires, Frees}
use Rattle.place_words.specs.Traces.{IsTrace}
use Rattle.place_words.specs.Turns.{Turn, TurnAt, turns_of, on_lock, ring}
use Rattle.place_words.specs.Walks.{Firsts, GoesOn, IsNextTrace, FreesAll, IsFreedAfter, TakesOut, walked_out, AfterWalk, Walks, refused_with, spare_left, Writes, updates_of, deletes_of, buckets_from}

-- Where a call is between two of its turns: in none, in a list turn whose first probes were answered, or in a refill whose turn of the
-- global lists has flushed these and gained those.
pub data Stage : Type 0 where
  idle : Stage
  probing : Stage
  filled : List Flush → List ℕ → Stage

abbrev pub IsIdle : Stage → Type 0
IsIdle idle = Unit {0}
IsIdle probing = ⊥
IsIdle (filled flushed gained) = ⊥

-- after a turn
abbrev pub after_bucket : BucketPart → Stage
after_bucket (Lookup side key got) = idle
after_bucket (Update side flags key value offer put) = idle
after_bucket (Delete key removed) = idle
after_bucket (Take key removed) = idle
after_bucket (Next key next) = idle
after_bucket (First key) = idle
after_bucket (Walk remove room result) = idle
after_bucket (Evict e probed) = probing

abbrev pub after_global : GlobalPart → Stage
after_global (global.Turn flushed active inactive free shrink) = filled flushed (free ++ freed_by shrink)
after_global (global.Push e) = idle

abbrev pub stage_after : Part → Stage
stage_after (parts.Bucket part) = after_bucket part
stage_after (parts.Free part) = idle
stage_after (parts.Local part) = idle
stage_after (parts.Global part) = after_global part
stage_after (parts.Own part) = idle

-- A call's next turn where it is in no other: no refill stands alone, and what comes to local lists comes to the CPU's own. Local lists
-- have the first rank, the global ones the second, and buckets the third.
abbrev pub LocalAlone : ℕ → DomainId → LocalPart → Type 0
LocalAlone cpu lock (local.Pop key e) = lock ≡ Local cpu
LocalAlone cpu lock (local.Refill key flushed gained got) = ⊥
LocalAlone cpu lock (local.Steal got first second) = rank_of lock ≡ 1
LocalAlone cpu lock (local.Add key e cursor) = lock ≡ Local cpu
LocalAlone cpu lock (local.Push e done) = rank_of lock ≡ 1

abbrev pub Alone : ℕ → DomainId → Part → Type 0
Alone cpu lock (parts.Bucket part) = rank_of lock ≡ 3
Alone cpu lock (parts.Free part) = ⊥
Alone cpu lock (parts.Local part) = LocalAlone cpu lock part
Alone cpu lock (parts.Global part) = rank_of lock ≡ 2
Alone cpu lock (parts.Own part) = ⊥

-- one behind a probe: another probe, a theft, or the turn of the global lists
abbrev pub BucketProbed : DomainId → BucketPart → Type 0
BucketProbed lock (Lookup side key got) = ⊥
BucketProbed lock (Update side flags key value offer put) = ⊥
BucketProbed lock (Delete key removed) = ⊥
BucketProbed lock (Take key removed) = ⊥
BucketProbed lock (Next key next) = ⊥
BucketProbed lock (First key) = ⊥
BucketProbed lock (Walk remove room result) = ⊥
BucketProbed lock (Evict e probed) = rank_of lock ≡ 3

abbrev pub LocalProbed : DomainId → LocalPart → Type 0
LocalProbed lock (local.Pop key e) = ⊥
LocalProbed lock (local.Refill key flushed gained got) = ⊥
LocalProbed lock (local.Steal got first second) = rank_of lock ≡ 1
LocalProbed lock (local.Add key e cursor) = ⊥
LocalProbed lock (local.Push e done) = ⊥

abbrev pub GlobalProbed : DomainId → GlobalPart → Type 0
GlobalProbed lock (global.Turn flushed active inactive free shrink) = rank_of lock ≡ 2
GlobalProbed lock (global.Push e) = ⊥

abbrev pub Probed : DomainId → Part → Type 0
Probed lock (parts.Bucket part) = BucketProbed lock part
Probed lock (parts.Free part) = ⊥
Probed lock (parts.Local part) = LocalProbed lock part
Probed lock (parts.Global part) = GlobalProbed lock part
Probed lock (parts.Own part) = ⊥

-- and the refill: it has the same flushed as that turn, and gains what it gained
pub record Fills (shape : Shape) (cpu : ℕ) (flushed : List Flush) (gained : List ℕ) (at : TurnAt) : Type 0 where
  pub key : ℕ
  pub got : Option ℕ
  pub turn_is : at.turn ≡ on_lock (Local cpu) (parts.Local (local.Refill key (map flush_visit flushed) gained got))

abbrev pub May : Shape → ℕ → Stage → TurnAt → Type 0
May shape cpu idle at = Alone cpu at.turn.lock at.turn.part
May shape cpu probing at = Probed at.turn.lock at.turn.part
May shape cpu (filled flushed gained) at = Fills shape cpu flushed gained at

-- The turns of calls of a CPU, from a stage on.
abbrev pub AreNested : Shape → ℕ → Stage → List TurnAt → Type 0
AreNested shape cpu stage [] = IsIdle stage
AreNested shape cpu stage (at ∷ turns) = May shape cpu stage at × AreNested shape cpu (stage_after at.turn.part) turns

pub nested_both : (shape : Shape) (cpu : ℕ) (stage : Stage) (xs ys : List TurnAt) → AreNested shape cpu stage xs → AreNested shape cpu idle ys → AreNested shape cpu stage (xs ++ ys)
nested_both shape cpu idle [] ys ends more = more
nested_both shape cpu probing [] ys ends more = absurd ends
nested_both shape cpu (filled flushed gained) [] ys ends more = absurd ends
nested_both shape cpu stage (at ∷ xs) ys nested more = (nested.0, nested_both shape cpu (stage_after at.turn.part) xs ys nested.1 more)

-- Turns in which no other is made, and that are made in none
abbrev pub IsQuiet : ℕ → Turn → Type 0
IsQuiet cpu turn = Alone cpu turn.lock turn.part × (stage_after turn.part ≡ idle)

abbrev pub AreQuiet : ℕ → List Turn → Type 0
AreQuiet cpu [] = Unit {0}
AreQuiet cpu (turn ∷ turns) = IsQuiet cpu turn × AreQuiet cpu turns

pub quiet_nested : (shape : Shape) (cpu : ℕ) (turns : List TurnAt) → AreQuiet cpu (turns_of turns) → AreNested shape cpu idle turns
quiet_nested shape cpu [] quiet = tt
quiet_nested shape cpu (at ∷ turns) quiet = (quiet.0.0, subst (λ (s : Stage). AreNested shape cpu s turns) (sym quiet.0.1) (quiet_nested shape cpu turns quiet.1))

nested_as : (shape : Shape) (cpu : ℕ) (stage : Stage) (turns others : List TurnAt) → turns ≡ others → AreNested shape cpu stage others → AreNested shape cpu stage turns
nested_as shape cpu stage turns others same nested = subst (AreNested shape cpu stage) (sym same) nested

quiet_as : (shape : Shape) (cpu : ℕ) (turns : List TurnAt) (others : List Turn) → turns_of turns ≡ others → AreQuiet cpu others → AreNested shape cpu idle turns
quiet_as shape cpu turns others same quiet = quiet_nested shape cpu turns (subst (AreQuiet cpu) (sym same) quiet)

none_nested : (shape : Shape) (cpu : ℕ) (turns : List TurnAt) → turns ≡ [] → AreNested shape cpu idle turns
none_nested shape cpu turns none = nested_as shape cpu idle turns [] none tt

-- a quiet turn, and others
one_nested : (shape : Shape) (cpu : ℕ) (at : TurnAt) (turn : Turn) (turns : List TurnAt) → at.turn ≡ turn → IsQuiet cpu turn → AreNested shape cpu idle turns → AreNested shape cpu idle (at ∷ turns)
one_nested shape cpu at turn turns is quiet more =
    subst (λ (t : Turn). Alone cpu t.lock t.part × AreNested shape cpu (stage_after t.part) turns) (sym is)
    (quiet.0, subst (λ (s : Stage). AreNested shape cpu s turns) (sym quiet.1) more)

-- Probes, and the list turn that they are for

-- probes before what may stand both behind a probe and behind none
probes_nested : (shape : Shape) (cpu : ℕ) (rows : List Row) (probes : List Try) (asked tail : List TurnAt) → Chase shape rows probes (turns_of asked) → AreNested shape cpu idle tail → AreNested shape cpu probing tail
    → AreNested shape cpu idle (asked ++ tail) × AreNested shape cpu probing (asked ++ tail)
probes_nested shape cpu rows [] [] tail chase first behind = (first, behind)
probes_nested shape cpu rows [] (at ∷ asked) tail chase first behind = absurd chase
probes_nested shape cpu rows (probe ∷ probes) [] tail chase first behind = absurd chase
probes_nested shape cpu rows (probe ∷ probes) (at ∷ asked) tail chase first behind =
    let rest = probes_nested shape cpu rows probes asked tail chase.1 first behind in
    by (stored_hash probe.element rows) chase.0 rest.1
  where
    by : (hash_of : Option ℕ) → option_map (evicts shape probe) hash_of ≡ Some at.turn → AreNested shape cpu probing (asked ++ tail)
        → AreNested shape cpu idle (at ∷ asked ++ tail) × AreNested shape cpu probing (at ∷ asked ++ tail)
    by None is rest = absurd cc
    by (Some h) is rest =
        subst (λ (t : Turn). (Alone cpu t.lock t.part × AreNested shape cpu (stage_after t.part) (asked ++ tail)) × (Probed t.lock t.part × AreNested shape cpu (stage_after t.part) (asked ++ tail)))
        (same_Some (evicts shape probe h) at.turn is) ((refl, rest), (refl, rest))

first_one : (A B : Type 0) (b : Bool) → b ≡ true → MatchBool b A B → A
first_one A B true is it = it
first_one A B false is it = absurd cc

-- Takings

refill_nested : (shape : Shape) (cpu key : ℕ) (lists : LocalLists) (got : Option ℕ) (turns : List TurnAt) → Refills shape cpu key lists got turns → AreNested shape cpu idle turns
refill_nested shape cpu key lists got turns refills =
    let part : GlobalPart = global.Turn refills.flushed refills.active refills.inactive refills.free refills.shrink in
    let middle : Turn = on_lock Global (parts.Global part) in
    let last : List TurnAt = refills.last ∷ [] in
    let fills : Fills shape cpu refills.flushed (refills.free ++ freed_by refills.shrink) refills.last =
    record { key = key; got = got; turn_is = refills.last_is } in
    let ends : AreNested shape cpu (filled refills.flushed (refills.free ++ freed_by refills.shrink)) last =
    (fills, subst (λ (t : Turn). AreNested shape cpu (stage_after t.part) []) (sym refills.last_is) tt) in
    let first : AreNested shape cpu idle (refills.chased.last ∷ last) =
    subst (λ (t : Turn). Alone cpu t.lock t.part × AreNested shape cpu (stage_after t.part) last) (sym refills.chased.last_is) (refl, ends) in
    let behind : AreNested shape cpu probing (refills.chased.last ∷ last) =
    subst (λ (t : Turn). Probed t.lock t.part × AreNested shape cpu (stage_after t.part) last) (sym refills.chased.last_is) (refl, ends) in
    nested_as shape cpu idle turns (refills.chased.probing ++ refills.chased.last ∷ last)
    (refills.turns_are ∙ ap (λ (l : List TurnAt). l ++ last) refills.chased.turns_are ∙ append_assoc refills.chased.probing (refills.chased.last ∷ []) last)
    (probes_nested shape cpu _ _ refills.chased.probing (refills.chased.last ∷ last) refills.chased.chase first behind).0

-- a theft with its probes
theft_nested : (shape : Shape) (cpu from : ℕ) (stolen : Stolen) (first : List Look) (second : List Try) (turns : List TurnAt) → IsChased shape (Local from) (parts.Local (local.Steal stolen first second)) turns → AreNested shape cpu idle turns
theft_nested shape cpu from stolen first second turns chased =
    nested_as shape cpu idle turns (chased.probing ++ chased.last ∷ []) chased.turns_are
    (probes_nested shape cpu _ _ chased.probing (chased.last ∷ []) chased.chase
    (subst (λ (t : Turn). Alone cpu t.lock t.part × AreNested shape cpu (stage_after t.part) []) (sym chased.last_is) (refl, tt))
    (subst (λ (t : Turn). Probed t.lock t.part × AreNested shape cpu (stage_after t.part) []) (sym chased.last_is) (refl, tt))).0

steals_nested : (shape : Shape) (cpu key : ℕ) (cpus : List ℕ) (got : Option ℕ) (turns : List TurnAt) → Steals shape cpu key cpus got turns → AreNested shape cpu idle turns
steals_nested shape cpu key [] got turns steals = none_nested shape cpu turns steals.0
steals_nested shape cpu key (from ∷ others) got turns (tried, rest, stolen, first, second, turns_are, chased, goes_on) =
    nested_as shape cpu idle turns (tried ++ rest) turns_are
    (nested_both shape cpu idle tried rest (theft_nested shape cpu from stolen first second tried chased) (by (stolen_element stolen) goes_on (steals_nested shape cpu key others got rest)))
  where
    by : (e : Option ℕ) → MatchOption e (Steals shape cpu key others got rest) (λ e. (got ≡ Some e) × (turns_of rest ≡ brings_home shape cpu key from e ∷ [])) → (Steals shape cpu key others got rest → AreNested shape cpu idle rest) → AreNested shape cpu idle rest
    by None more on = on more
    by (Some e) home on = quiet_as shape cpu rest _ home.1 ((refl, refl), tt)

acquires_nested : (shape : Shape) → IsTrue shape.common → (cpu key : ℕ) (got : Option ℕ) (turns : List TurnAt) → Acquires shape cpu key got turns → AreNested shape cpu idle turns
acquires_nested shape common cpu key got turns acquires = shared (first_one _ _ shape.common common acquires)
  where
    frees : (o : Option ℕ) → TakesFree cpu key o turns → AreNested shape cpu idle turns
    frees None takes = absurd takes
    frees (Some e) takes = quiet_as shape cpu turns _ takes ((refl, refl), tt)

    stealing : (lists : LocalLists) (gave : Option ℕ) (rest : List TurnAt) → MatchOption gave (Steals shape cpu key (ring lists.steal shape.cpus) got rest) (λ e. (rest ≡ []) × (got ≡ Some e)) → AreNested shape cpu idle rest
    stealing lists None rest steals = steals_nested shape cpu key (ring lists.steal shape.cpus) got rest steals
    stealing lists (Some e) rest none = none_nested shape cpu rest none.0

    shared : TakesFree cpu key got turns ⊎ TakesByRefill shape cpu key got turns → AreNested shape cpu idle turns
    shared (inl free) = frees got free
    shared (inr by_refill) =
        nested_as shape cpu idle turns (by_refill.refilling ++ by_refill.stealing) by_refill.turns_are
        (nested_both shape cpu idle by_refill.refilling by_refill.stealing (refill_nested shape cpu key by_refill.lists by_refill.gave by_refill.refilling by_refill.refills)
        (stealing by_refill.lists by_refill.gave by_refill.stealing by_refill.steals))

-- Freeings

frees_nested : (shape : Shape) → IsTrue shape.common → (cpu e : ℕ) (turns : List TurnAt) → Frees shape e turns → AreNested shape cpu idle turns
frees_nested shape common cpu e turns frees = by (first_one _ _ shape.common common frees)
  where
    by : FreesPending e turns ⊎ (FreesFlushed e turns ⊎ (turns_of turns ≡ freed_globally e ∷ [])) → AreNested shape cpu idle turns
    by (inl pending) = quiet_as shape cpu turns _ pending.turns_are ((refl, refl), tt)
    by (inr (inl flushed)) =
        nested_as shape cpu idle turns (flushed.first ∷ flushed.second ∷ []) flushed.turns_are
        (one_nested shape cpu flushed.first _ (flushed.second ∷ []) flushed.first_is (refl, refl) (one_nested shape cpu flushed.second _ [] flushed.second_is (refl, refl) tt))
    by (inr (inr globally)) = quiet_as shape cpu turns _ globally ((refl, refl), tt)

frees_one : (shape : Shape) → IsTrue shape.common → (cpu : ℕ) (gone : Option ℕ) (turns : List TurnAt) → FreesOne shape gone turns → AreNested shape cpu idle turns
frees_one shape common cpu None turns none = none_nested shape cpu turns none
frees_one shape common cpu (Some e) turns frees = frees_nested shape common cpu e turns frees

frees_all : (shape : Shape) → IsTrue shape.common → (cpu : ℕ) (gone : List ℕ) (turns : List TurnAt) → FreesAll shape gone turns → AreNested shape cpu idle turns
frees_all shape common cpu [] turns none = none_nested shape cpu turns none
frees_all shape common cpu (e ∷ es) turns (one, others, is_so) =
    nested_as shape cpu idle turns (one ++ others) is_so.0 (nested_both shape cpu idle one others (frees_nested shape common cpu e one is_so.1) (frees_all shape common cpu es others is_so.2))

-- Calls

module _ (shape : Shape) (lru : is_lru shape.kind ≡ true) (common : IsTrue shape.common) (cpu : ℕ) where
  offer_nested : (side : Side) (flags : ℕ) (key value : List ℕ) (turns : List TurnAt) (reply : Reply) → IsOfferTrace shape cpu side flags key value turns reply → AreNested shape cpu idle turns
  offer_nested side flags key value turns reply offer =
      nested_as shape cpu idle turns (offer.taking ++ offer.rest) offer.turns_are
      (nested_both shape cpu idle offer.taking offer.rest (acquires_nested shape common cpu (hash key shape.seed) offer.got offer.taking offer.takes) (by offer.got offer.offers))
    where
      by : (got : Option ℕ) → MatchOption got ((offer.rest ≡ []) × (reply ≡ Refused Enomem)) (λ e. OffersOne shape side flags key value e offer.rest reply) → AreNested shape cpu idle offer.rest
      by None none = none_nested shape cpu offer.rest none.0
      by (Some e) one =
          nested_as shape cpu idle offer.rest (one.at_bucket ∷ one.freeing) one.turns_are
          (one_nested shape cpu one.at_bucket _ one.freeing one.bucket_is (refl, refl) (frees_one shape common cpu (left_over e one.put) one.freeing one.frees))

  update_nested : (side : Side) (flags : ℕ) (key value : List ℕ) (turns : List TurnAt) (reply : Reply) → IsEvictingUpdate shape cpu side flags key value turns reply → AreNested shape cpu idle turns
  update_nested side flags key value turns reply (inl refused) = none_nested shape cpu turns refused.1
  update_nested side flags key value turns reply (inr update) = by (is_percpu shape.kind && eqb flags 2) update.1
    where
      by : (b : Bool) → MatchBool b (IsWriteTrace shape side flags key value turns reply) (IsOfferTrace shape cpu side flags key value turns reply) → AreNested shape cpu idle turns
      by true write = quiet_as shape cpu turns _ write.turns_are ((refl, refl), tt)
      by false offer = offer_nested side flags key value turns reply offer

  key_nested : (verb : Verb) (turns : List TurnAt) (reply : Reply) → IsEvictingTrace shape cpu verb turns reply → AreNested shape cpu idle turns
  key_nested (verbs.Lookup side key) turns reply trace = quiet_as shape cpu turns _ trace.turns_are ((refl, refl), tt)
  key_nested (verbs.Update side flags key value) turns reply trace = update_nested side flags key value turns reply trace
  key_nested (verbs.Delete key) turns reply trace =
      nested_as shape cpu idle turns (trace.at_bucket ∷ trace.freeing) trace.turns_are
      (one_nested shape cpu trace.at_bucket _ trace.freeing trace.bucket_is (refl, refl) (frees_one shape common cpu trace.gone trace.freeing trace.frees))
  key_nested (verbs.Take key) turns reply trace =
      nested_as shape cpu idle turns (trace.at_bucket ∷ trace.freeing) trace.turns_are
      (one_nested shape cpu trace.at_bucket _ trace.freeing trace.bucket_is (refl, refl) (frees_one shape common cpu (element_gone trace.gone) trace.freeing trace.frees))
  key_nested (verbs.Next key) turns reply trace = absurd trace
  key_nested (verbs.BatchRead remove count start flags) turns reply trace = absurd trace
  key_nested (verbs.BatchUpdate flags pairs) turns reply trace = absurd trace
  key_nested (verbs.BatchDelete flags keys) turns reply trace = absurd trace
  key_nested (verbs.Each flags stop) turns reply trace = absurd trace

  firsts_nested : (buckets : List ℕ) (turns : List Turn) (reply : Reply) → Firsts buckets turns reply → AreQuiet cpu turns
  firsts_nested [] turns reply none = subst (AreQuiet cpu) (sym none.0) tt
  firsts_nested (bucket ∷ buckets) turns reply (key, rest, turns_are, goes_on) =
      subst (AreQuiet cpu) (sym turns_are) ((refl, refl), by key goes_on (firsts_nested buckets rest reply))
    where
      by : (o : Option (List ℕ)) → MatchOption o (Firsts buckets rest reply) (λ first. (rest ≡ []) × (reply ≡ Value first)) → (Firsts buckets rest reply → AreQuiet cpu rest) → AreQuiet cpu rest
      by None more on = on more
      by (Some first) none on = subst (AreQuiet cpu) (sym none.0) tt

  next_nested : (key : Option (List ℕ)) (turns : List Turn) (reply : Reply) → IsNextTrace shape key turns reply → AreQuiet cpu turns
  next_nested None turns reply trace = firsts_nested (buckets_from shape 0) turns reply trace
  next_nested (Some key) turns reply trace = subst (AreQuiet cpu) (sym trace.turns_are) ((refl, refl), by trace.found trace.goes_on)
    where
      by : (next : NextFound) → GoesOn shape key next trace.rest reply → AreQuiet cpu trace.rest
      by nexts.Absent on = firsts_nested (buckets_from shape 0) trace.rest reply on
      by nexts.Last on = firsts_nested _ trace.rest reply on
      by (nexts.Key next) none = subst (AreQuiet cpu) (sym none.0) tt

  takes_out : (turn : Turn) (gone : List ℕ) (turns : List TurnAt) → IsQuiet cpu turn → TakesOut shape cpu turn gone turns → AreNested shape cpu idle turns
  takes_out turn gone turns quiet out =
      let freed : IsFreedAfter shape turn gone turns = first_one _ _ (is_lru shape.kind) lru out in
      nested_as shape cpu idle turns (freed.at_bucket ∷ freed.freeing) freed.turns_are
      (one_nested shape cpu freed.at_bucket turn freed.freeing freed.bucket_is quiet (frees_all shape common cpu (reverse gone) freed.freeing freed.frees))

  walks_nested : (remove : Bool) (limit : ℕ) (buckets : List ℕ) (taken : List (List ℕ × List ℕ)) (turns : List TurnAt) (reply : Reply) → Walks shape cpu remove limit buckets taken turns reply → AreNested shape cpu idle turns
  walks_nested remove limit [] taken turns reply none = none_nested shape cpu turns none.0
  walks_nested remove limit (bucket ∷ buckets) taken turns reply (result, one, rest, is_so) =
      nested_as shape cpu idle turns (one ++ rest) is_so.0
      (nested_both shape cpu idle one rest (takes_out _ (walked_out remove result) one (refl, refl) is_so.1) (by result is_so.2 (λ now. walks_nested remove limit buckets now rest reply)))
    where
      by : (result : Walked) → AfterWalk bucket taken rest reply result (λ now. Walks shape cpu remove limit buckets now rest reply)
          → ((now : List (List ℕ × List ℕ)) → Walks shape cpu remove limit buckets now rest reply → AreNested shape cpu idle rest) → AreNested shape cpu idle rest
      by (Over n) none on = none_nested shape cpu rest none.0
      by (Taken all) more on = on _ more

  writes_nested : (spare : Option ℕ) (entries : List Verb) (done : ℕ) (turns : List TurnAt) (reply : Reply) → Writes shape cpu spare entries done turns reply → AreNested shape cpu idle turns
  writes_nested spare [] done turns reply none = none_nested shape cpu turns none.0
  writes_nested spare (entry ∷ entries) done turns reply (answer, one, rest, is_so) =
      nested_as shape cpu idle turns (one ++ rest) is_so.0
      (nested_both shape cpu idle one rest (key_nested entry one answer (first_one _ _ (is_lru shape.kind) lru is_so.1)) (by (refused_with answer) is_so.2 (writes_nested (spare_left shape spare one) entries (suc done) rest reply)))
    where
      by : (o : Option Errno) → MatchOption o (Writes shape cpu (spare_left shape spare one) entries (suc done) rest reply) (λ errno. (rest ≡ []) × (reply ≡ Count (Some errno) done))
          → (Writes shape cpu (spare_left shape spare one) entries (suc done) rest reply → AreNested shape cpu idle rest) → AreNested shape cpu idle rest
      by None more on = on more
      by (Some errno) none on = none_nested shape cpu rest none.0

  hands_nested : (Says : Callback) (buckets : List ℕ) (before : List (List ℕ × List ℕ)) (turns : List Turn) (reply : Reply) → HandsOverBuckets shape cpu Says buckets before turns reply → AreQuiet cpu turns
  hands_nested Says [] before turns reply none = subst (AreQuiet cpu) (sym none.0) tt
  hands_nested Says (bucket ∷ buckets) before turns reply (result, rest, is_so) =
      subst (AreQuiet cpu) (sym is_so.0) ((refl, refl), by result is_so.1 (λ now. hands_nested Says buckets now rest reply))
    where
      none_left : rest ≡ [] → AreQuiet cpu rest
      none_left none = subst (AreQuiet cpu) (sym none) tt

      stops : (stopped : Bool) (now : List (List ℕ × List ℕ)) → MatchBool stopped ((rest ≡ []) × (reply ≡ Batch None now (suc bucket))) (HandsOverBuckets shape cpu Says buckets now rest reply)
          → (HandsOverBuckets shape cpu Says buckets now rest reply → AreQuiet cpu rest) → AreQuiet cpu rest
      stops true now none on = none_left none.0
      stops false now more on = on more

      by : (result : Walked) → AfterHanding shape cpu Says bucket before rest reply result (λ now. HandsOverBuckets shape cpu Says buckets now rest reply)
          → ((now : List (List ℕ × List ℕ)) → HandsOverBuckets shape cpu Says buckets now rest reply → AreQuiet cpu rest) → AreQuiet cpu rest
      by (Over n) none on = none_left none.0
      by (Taken all) (over, stopped, goes_on) on = stops stopped (before ++ over) goes_on.1 (on (before ++ over))

  -- The turns of every call are such.
  pub trace_nested : (spare : Option ℕ) (verb : Verb) (turns : List TurnAt) (reply : Reply) → IsTrace shape cpu spare verb turns reply → AreNested shape cpu idle turns
  trace_nested spare (verbs.Lookup side key) turns reply trace = key_nested (verbs.Lookup side key) turns reply (first_one _ _ (is_lru shape.kind) lru trace)
  trace_nested spare (verbs.Update side flags key value) turns reply trace = key_nested (verbs.Update side flags key value) turns reply (first_one _ _ (is_lru shape.kind) lru trace)
  trace_nested spare (verbs.Delete key) turns reply trace = key_nested (verbs.Delete key) turns reply (first_one _ _ (is_lru shape.kind) lru trace)
  trace_nested spare (verbs.Take key) turns reply trace = key_nested (verbs.Take key) turns reply (first_one _ _ (is_lru shape.kind) lru trace)
  trace_nested spare (verbs.Next key) turns reply trace = quiet_nested shape cpu turns (next_nested key (turns_of turns) reply trace)
  trace_nested spare (verbs.BatchRead remove count start flags) turns reply trace = by (eqb flags 0) (eqb count 0) (nat_lt (unwrap_or start 0) shape.buckets) trace
    where
      by : (plain nothing there : Bool) → MatchBool plain (MatchBool nothing ((turns ≡ []) × (reply ≡ Done))
          (MatchBool there (Walks shape cpu remove (min count shape.elements) (buckets_from shape (unwrap_or start 0)) [] turns reply) ((turns ≡ []) × (reply ≡ Refused Enoent))))
          ((turns ≡ []) × (reply ≡ Refused Einval)) → AreNested shape cpu idle turns
      by true true there none = none_nested shape cpu turns none.0
      by true false true walks = walks_nested remove (min count shape.elements) (buckets_from shape (unwrap_or start 0)) [] turns reply walks
      by true false false none = none_nested shape cpu turns none.0
      by false nothing there none = none_nested shape cpu turns none.0
  trace_nested spare (verbs.BatchUpdate flags pairs) turns reply trace = writes (eqb flags 0) trace
    where
      writes : (plain : Bool) → MatchBool plain (Writes shape cpu spare (updates_of pairs) 0 turns reply) ((turns ≡ []) × (reply ≡ Refused Einval)) → AreNested shape cpu idle turns
      writes true trace = writes_nested spare (updates_of pairs) 0 turns reply trace
      writes false none = none_nested shape cpu turns none.0
  trace_nested spare (verbs.BatchDelete flags keys) turns reply trace = writes (eqb flags 0) trace
    where
      writes : (plain : Bool) → MatchBool plain (Writes shape cpu spare (deletes_of keys) 0 turns reply) ((turns ≡ []) × (reply ≡ Refused Einval)) → AreNested shape cpu idle turns
      writes true trace = writes_nested spare (deletes_of keys) 0 turns reply trace
      writes false none = none_nested shape cpu turns none.0
  trace_nested spare (verbs.Each flags stop) turns reply trace = quiet_nested shape cpu turns (by (eqb flags 0) trace)
    where
      by : (plain : Bool) → MatchBool plain (HandsOverBuckets shape cpu (StopsAt stop) (buckets_from shape 0) [] (turns_of turns) reply) ((turns_of turns ≡ []) × (reply ≡ Refused Einval)) → AreQuiet cpu (turns_of turns)
      by true hands = hands_nested (StopsAt stop) (buckets_from shape 0) [] (turns_of turns) reply hands
      by false none = subst (AreQuiet cpu) (sym none.0) tt
