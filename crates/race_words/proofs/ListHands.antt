-- What a CPU of a map that evicts has in hand, by counts, whether it answers probes of a list turn that is still to come, and what it carries
-- from one CPU's lists to its own. The turns of a call leave all this as it was.
use Rattle.std.proofs.Common.{◌≡◌, ◌⊎◌, inl, inr, ℕ, suc, ◌+◌, ◌-◌, ◌≤◌, Bool, true, false, ◌&&◌, cond, eqb, ltb, List, [], ◌∷◌, ◌++◌, map, length, Option, None, Some, refl, ap, ◌∙◌, sym, subst, ⊎_elim, arith}
use Rattle.std.specs.Prelude.{filter, option_map, option_to_list, reverse, unwrap_or, MatchBool, MatchOption}
use Rattle.std.specs.List.{flat_map}
use Rattle.std.proofs.lemmas.List.{map-append}
use Rattle.std.proofs.lemmas.Option.{same_Some}
use Rattle.map_types.specs.declared.attr.Shape.{Shape}
use Rattle.map_types.specs.declared.call.Verb.{Verb}
use Rattle.map_types.specs.declared.call.Verb.TheVariants as verbs
use Rattle.map_types.specs.declared.kind.DomainId.{DomainId}
use Rattle.map_types.specs.declared.kind.DomainId.TheVariants.{Local, Global, CpuLru, Bucket}
use Rattle.map_types.specs.declared.kind.Side.{Side}
use Rattle.map_types.specs.declared.refusal.Errno.{Errno}
use Rattle.map_types.specs.declared.refusal.Errno.TheVariants.{Enomem}
use Rattle.map_types.specs.declared.reply.Reply.{Reply}
use Rattle.map_types.specs.declared.reply.Reply.TheVariants.{Value, Count, Refused}
use Rattle.map_types.specs.declared.row.Row.{Row}
use Rattle.map_types.specs.Kind.{is_lru, is_percpu}
use Rattle.map_types.specs.ElementLists.{times}
use Rattle.map_types.proofs.RowLemmas.{times_append}
use Rattle.place_words.specs.declared.bucket_part.BucketPart.TheVariants.{Lookup, Update, Delete, Take, Next, First, Walk}
use Rattle.place_words.specs.declared.bucket_part.NextFound.{NextFound}
use Rattle.place_words.specs.declared.bucket_part.NextFound.TheVariants as nexts
use Rattle.place_words.specs.declared.bucket_part.Put.{Put}
use Rattle.place_words.specs.declared.bucket_part.Put.TheVariants as puts
use Rattle.place_words.specs.declared.bucket_part.Seen.{Seen}
use Rattle.place_words.specs.declared.bucket_part.Seen.TheVariants.{Removed, Held}
use Rattle.place_words.specs.declared.bucket_part.Walked.{Walked}
use Rattle.place_words.specs.declared.bucket_part.Walked.TheVariants.{Over, Taken}
use Rattle.place_words.specs.declared.history.Part.{Part}
use Rattle.place_words.specs.declared.history.Part.TheVariants as parts
use Rattle.place_words.specs.declared.list_part.GlobalPart.{GlobalPart}
use Rattle.place_words.specs.declared.list_part.GlobalPart.TheVariants as global
use Rattle.place_words.specs.declared.list_part.LocalPart.{LocalPart}
use Rattle.place_words.specs.declared.list_part.LocalPart.TheVariants as local
use Rattle.place_words.specs.declared.list_part.Stolen.{Stolen}
use Rattle.place_words.specs.declared.list_part.OwnPart.{OwnPart}
use Rattle.place_words.specs.declared.list_part.OwnPart.TheVariants as own
use Rattle.place_words.specs.declared.visits.Look.{Look}
use Rattle.place_words.specs.declared.visits.ShrinkNote.{ShrinkNote}
use Rattle.place_words.specs.declared.visits.Try.{Try}
use Rattle.place_words.specs.Evicting.{FreesOne, left_over, MayPut, MayPutAlone, OffersOne, IsOfferTrace, IsWriteTrace, IsEvictingTrace}
use Rattle.place_words.specs.Handing.{Callback, HandsOverBuckets, AfterHanding, IsHandingTrace, StopsAt}
use Rattle.place_words.specs.Globals.{flush_visit}
use Rattle.place_words.specs.Interleaving.{is_inner}
use Rattle.place_words.specs.Locals.{LocalLists}
use Rattle.place_words.specs.Moves.{taken_from_bucket, brought_to_bucket}
use Rattle.place_words.specs.PlainTraces.{element_gone}
use Rattle.place_words.specs.Shrinking.{is_removed, look_removed, try_removed, freed}
use Rattle.place_words.specs.Takings.{Chase, IsChased, evicts, stored_hash, look_probes, walk_probes, probes_of, shrink_probes, freed_by, TakesOwn, TakesFree, Refills, stolen_element, brings_home, Steals, TakesByRefill, Acquires, FreesPending, FreesFlushed, freed_globally, Frees, set_of}
use Rattle.place_words.specs.Traces.{IsTrace}
use Rattle.place_words.specs.Turns.{Turn, TurnAt, turns_of, on_lock, on_bucket_of, bucket_of_key, ring}
use Rattle.place_words.proofs.KeepLaws.{times_turned}
use Rattle.place_words.specs.Walks.{buckets_from, Firsts, GoesOn, IsNextTrace, FreesAll, TakesOut, walked_out, AfterWalk, Walks, IsReadTrace, refused_with, spare_left, Writes, IsWriteBatch, updates_of, deletes_of}

-- what leaves the hand in a turn, and what comes to it
abbrev pub own_leaves : OwnPart → List ℕ
own_leaves (own.Turn hash active inactive shrink got) = freed_by shrink
own_leaves (own.Push e) = e ∷ []

abbrev pub own_comes : OwnPart → List ℕ
own_comes (own.Turn hash active inactive shrink got) = option_to_list got
own_comes (own.Push e) = []

abbrev pub local_leaves : LocalPart → List ℕ
local_leaves (local.Pop hash e) = []
local_leaves (local.Refill hash flushed gained got) = []
local_leaves (local.Steal got first second) = freed first second
local_leaves (local.Add hash e cursor) = []
local_leaves (local.Push e true) = e ∷ []
local_leaves (local.Push e false) = []

abbrev pub local_comes : LocalPart → List ℕ
local_comes (local.Pop hash e) = e ∷ []
local_comes (local.Refill hash flushed gained got) = option_to_list got
local_comes (local.Steal got first second) = option_to_list (stolen_element got)
local_comes (local.Add hash e cursor) = []
local_comes (local.Push e done) = []

abbrev pub global_leaves : GlobalPart → List ℕ
global_leaves (global.Turn flushed active inactive free shrink) = freed_by shrink
global_leaves (global.Push e) = e ∷ []

abbrev pub leaves : Part → List ℕ
leaves (parts.Bucket part) = brought_to_bucket part
leaves (parts.Free part) = []
leaves (parts.Local part) = local_leaves part
leaves (parts.Global part) = global_leaves part
leaves (parts.Own part) = own_leaves part

abbrev pub comes : Part → List ℕ
comes (parts.Bucket part) = taken_from_bucket part
comes (parts.Free part) = []
comes (parts.Local part) = local_comes part
comes (parts.Global part) = []
comes (parts.Own part) = own_comes part

abbrev pub next_counts : (ℕ → ℕ) → Part → ℕ → ℕ
next_counts h part e = (h e - times e (leaves part)) + times e (comes part)

-- the turn of a set, a refill and a theft, which probes are answered before
abbrev pub own_closes : OwnPart → Bool
own_closes (own.Turn hash active inactive shrink got) = true
own_closes (own.Push e) = false

abbrev pub local_closes : LocalPart → Bool
local_closes (local.Pop hash e) = false
local_closes (local.Refill hash flushed gained got) = true
local_closes (local.Steal got first second) = true
local_closes (local.Add hash e cursor) = false
local_closes (local.Push e done) = false

abbrev pub closes : Part → Bool
closes (parts.Bucket part) = false
closes (parts.Free part) = false
closes (parts.Local part) = local_closes part
closes (parts.Global part) = false
closes (parts.Own part) = own_closes part

-- Between two turns: whether the last answered a probe or was of the global lists inside a refill, and what the last stole
pub record Mode : Type 0 where
  pub probing : Bool
  pub carry : Option ℕ

abbrev pub resting : Mode
resting = record { probing = false; carry = None }

abbrev pub carries_local : LocalPart → Option ℕ
carries_local (local.Pop hash e) = None
carries_local (local.Refill hash flushed gained got) = None
carries_local (local.Steal got first second) = stolen_element got
carries_local (local.Add hash e cursor) = None
carries_local (local.Push e done) = None

abbrev pub carries : Part → Option ℕ
carries (parts.Bucket part) = None
carries (parts.Free part) = None
carries (parts.Local part) = carries_local part
carries (parts.Global part) = None
carries (parts.Own part) = None

abbrev pub mode_after : Part → Mode
mode_after part = record { probing = is_inner part; carry = carries part }

-- what was stolen is brought home at once
abbrev pub CarriedLocal : Option ℕ → LocalPart → Type 0
CarriedLocal c (local.Pop hash e) = c ≡ None
CarriedLocal c (local.Refill hash flushed gained got) = c ≡ None
CarriedLocal c (local.Steal got first second) = c ≡ None
CarriedLocal c (local.Add hash e cursor) = c ≡ Some e
CarriedLocal c (local.Push e done) = c ≡ None

abbrev pub Carried : Option ℕ → Part → Type 0
Carried c (parts.Bucket part) = c ≡ None
Carried c (parts.Free part) = c ≡ None
Carried c (parts.Local part) = CarriedLocal c part
Carried c (parts.Global part) = c ≡ None
Carried c (parts.Own part) = c ≡ None

-- Behind a probe stands another one, or the turn that it is for.
pub record MayCounts (h : ℕ → ℕ) (mode : Mode) (part : Part) : Type 0 where
  pub has : (e : ℕ) → times e (leaves part) ≤ h e
  pub behind : mode.probing ≡ true → (is_inner part ≡ true) ⊎ (closes part ≡ true)
  pub carried : Carried mode.carry part

abbrev pub CountRuns : (ℕ → ℕ) → Mode → List Turn → (ℕ → ℕ) → Mode → Type 0
CountRuns h p [] k q = ((e : ℕ) → h e ≡ k e) × (p ≡ q)
CountRuns h p (turn ∷ turns) k q = MayCounts h p turn.part × CountRuns (next_counts h turn.part) (mode_after turn.part) turns k q

pub counts_alike : (h g : ℕ → ℕ) (p : Mode) (turns : List Turn) (k : ℕ → ℕ) (q : Mode) → ((e : ℕ) → h e ≡ g e) → CountRuns g p turns k q → CountRuns h p turns k q
counts_alike h g p [] k q same runs = (λ e. same e ∙ runs.0 e, runs.1)
counts_alike h g p (turn ∷ turns) k q same runs = (
  record { has = λ e. subst (λ (n : ℕ). times e (leaves turn.part) ≤ n) (sym (same e)) (runs.0.has e); behind = runs.0.behind; carried = runs.0.carried },
  counts_alike (next_counts h turn.part) (next_counts g turn.part) (mode_after turn.part) turns k q (λ e. ap (λ (n : ℕ). (n - times e (leaves turn.part)) + times e (comes turn.part)) (same e)) runs.1,
)

pub counts_both : (h : ℕ → ℕ) (p : Mode) (xs : List Turn) (k : ℕ → ℕ) (q : Mode) (ys : List Turn) (l : ℕ → ℕ) (r : Mode) → CountRuns h p xs k q → CountRuns k q ys l r → CountRuns h p (xs ++ ys) l r
counts_both h p [] k q ys l r first second = counts_alike h k p ys l r first.0 (subst (λ (b : Mode). CountRuns k b ys l r) (sym first.1) second)
counts_both h p (x ∷ xs) k q ys l r first second = (first.0, counts_both (next_counts h x.part) (mode_after x.part) xs k q ys l r first.1 second)

-- one turn, of which it is known what it leaves
one_runs : (h : ℕ → ℕ) (p : Mode) (turn : Turn) (k : ℕ → ℕ) (q : Mode) → ((e : ℕ) → times e (leaves turn.part) ≤ h e) → (p.probing ≡ true → (is_inner turn.part ≡ true) ⊎ (closes turn.part ≡ true)) → Carried p.carry turn.part
    → ((e : ℕ) → (h e - times e (leaves turn.part)) + times e (comes turn.part) ≡ k e) → mode_after turn.part ≡ q → CountRuns h p (turn ∷ []) k q
one_runs h p turn k q has behind carried then mode = (record { has = has; behind = behind; carried = carried }, (then, mode))

-- Turns that leave all as it was
abbrev pub Steady : List Turn → Type 0
Steady turns = (h : ℕ → ℕ) → CountRuns h resting turns h resting

no_probe : {A : Type 0} → (◌≡◌ {A = Bool} false true) → A
no_probe is = absurd cc

none_steady : (turns : List Turn) → turns ≡ [] → Steady turns
none_steady turns none = subst Steady (sym none) (λ h. (λ e. refl, refl))

none_at : (turns : List TurnAt) → turns ≡ [] → Steady (turns_of turns)
none_at turns none = subst (λ (l : List TurnAt). Steady (turns_of l)) (sym none) (λ h. (λ e. refl, refl))

-- a turn that moves nothing, before others
quiet_first : (turn : Turn) (rest : List Turn) → leaves turn.part ≡ [] → comes turn.part ≡ [] → Carried None turn.part → mode_after turn.part ≡ resting → Steady rest → Steady (turn ∷ rest)
quiet_first turn rest out in_ carried mode steady h = (
  record { has = λ e. omega (arith, ap (times e) out); behind = λ is. no_probe is; carried = carried },
  subst (λ (b : Mode). CountRuns (next_counts h turn.part) b rest h resting) (sym mode)
      (counts_alike (next_counts h turn.part) h resting rest h resting (λ e. omega (arith, ap (times e) out, ap (times e) in_)) (steady h)),
)

split_at : (one rest turns : List TurnAt) → turns ≡ one ++ rest → turns_of turns ≡ turns_of one ++ turns_of rest
split_at one rest turns is = ap turns_of is ∙ map-append (λ (at : TurnAt). at.turn) one rest

pub both_steady : (xs ys : List Turn) → Steady xs → Steady ys → Steady (xs ++ ys)
both_steady xs ys first second h = counts_both h resting xs h resting ys h resting (first h) (second h)

both_at : (one rest turns : List TurnAt) → turns ≡ one ++ rest → Steady (turns_of one) → Steady (turns_of rest) → Steady (turns_of turns)
both_at one rest turns is first second = subst Steady (sym (split_at one rest turns is)) (both_steady (turns_of one) (turns_of rest) first second)

either : (b : Bool) {P Q R : Type 0} → MatchBool b P Q → (P → R) → (Q → R) → R
either true may hit miss = hit may
either false may hit miss = miss may

-- Probes

-- what was removed by probes
abbrev removed : List Try → List ℕ
removed probes = map (λ (try : Try). try.element) (filter try_removed probes)

abbrev with_removed : (ℕ → ℕ) → List Try → ℕ → ℕ
with_removed h probes e = h e + times e (removed probes)

abbrev probed_mode : Mode
probed_mode = record { probing = true; carry = None }

probe_runs : (h : ℕ → ℕ) (p : Mode) → p.carry ≡ None → (shape : Shape) (e : ℕ) (seen : Seen) (hash : ℕ) → CountRuns h p (evicts shape (record { element = e; probed = seen }) hash ∷ []) (with_removed h ((record { element = e; probed = seen }) ∷ [])) probed_mode
probe_runs h p free shape e Removed hash = one_runs h p (evicts shape (record { element = e; probed = Removed }) hash) (with_removed h ((record { element = e; probed = Removed }) ∷ [])) probed_mode (λ x. omega arith) (λ _. inl refl) free (λ x. omega arith) refl
probe_runs h p free shape e (Held c) hash = one_runs h p (evicts shape (record { element = e; probed = Held c }) hash) (with_removed h ((record { element = e; probed = Held c }) ∷ [])) probed_mode (λ x. omega arith) (λ _. inl refl) free (λ x. omega arith) refl

-- how probes end
record Chased (h : ℕ → ℕ) (p : Mode) (turns : List Turn) (k : ℕ → ℕ) : Type 0 where
  mode : Mode
  free : mode.carry ≡ None
  runs : CountRuns h p turns k mode

chase_runs : (shape : Shape) (rows : List Row) (probes : List Try) (turns : List Turn) → Chase shape rows probes turns → (h : ℕ → ℕ) (p : Mode) → p.carry ≡ None → Chased h p turns (with_removed h probes)
chase_runs shape rows [] [] chase h p free = record { mode = p; free = free; runs = (λ e. omega arith, refl) }
chase_runs shape rows [] (turn ∷ turns) chase h p free = absurd chase
chase_runs shape rows (probe ∷ probes) [] chase h p free = absurd chase
chase_runs shape rows (probe ∷ probes) (turn ∷ turns) chase h p free =
    let rest = chase_runs shape rows probes turns chase.1 (with_removed h (probe ∷ [])) probed_mode refl in
    let first : CountRuns h p (turn ∷ []) (with_removed h (probe ∷ [])) probed_mode = by (stored_hash probe.element rows) chase.0 in
    record {
      mode = rest.mode;
      free = rest.free;
      runs = counts_both h p (turn ∷ []) (with_removed h (probe ∷ [])) probed_mode turns (with_removed h (probe ∷ probes)) rest.mode first
          (ends (with_removed h (probe ∷ [])) probed_mode turns rest.mode rest.runs);
    }
  where
    by : (o : Option ℕ) → option_map (evicts shape probe) o ≡ Some turn → CountRuns h p (turn ∷ []) (with_removed h (probe ∷ [])) probed_mode
    by None is = absurd cc
    by (Some hash) is = subst (λ (t : Turn). CountRuns h p (t ∷ []) (with_removed h (probe ∷ [])) probed_mode) (same_Some (evicts shape probe hash) turn is) (probe_runs h p free shape probe.element probe.probed hash)

    more : (e : ℕ) → (h e + times e (removed (probe ∷ []))) + times e (removed probes) ≡ h e + times e (removed (probe ∷ probes))
    more e = count (try_removed probe)
      where
        count : (b : Bool) → (h e + times e (map (λ (try : Try). try.element) (cond b (probe ∷ []) []))) + times e (removed probes) ≡ h e + times e (map (λ (try : Try). try.element) (cond b (probe ∷ filter try_removed probes) (filter try_removed probes)))
        count true = omega (arith, times_append e (probe.element ∷ []) (removed probes))
        count false = omega arith

    -- the same at the end
    ends : (g : ℕ → ℕ) (b : Mode) (xs : List Turn) (q : Mode) → CountRuns g b xs (with_removed (with_removed h (probe ∷ [])) probes) q → CountRuns g b xs (with_removed h (probe ∷ probes)) q
    ends g b [] q runs = (λ e. runs.0 e ∙ more e, runs.1)
    ends g b (x ∷ xs) q runs = (runs.0, ends (next_counts g x.part) (mode_after x.part) xs q runs.1)

-- what a shrink freed is what its probes removed
freed_counts : (looks : List Look) (forced : List Try) (e : ℕ) → times e (freed looks forced) ≡ times e (removed (walk_probes looks forced))
freed_counts [] forced e = refl
freed_counts (look ∷ looks) forced e = step look.probed (freed_counts looks forced e)
  where
    step : (o : Option Seen) → times e (freed looks forced) ≡ times e (removed (walk_probes looks forced))
        → times e (map (λ (l : Look). l.element) (cond (unwrap_or (option_map is_removed o) false) (look ∷ filter look_removed looks) (filter look_removed looks)) ++ map (λ (try : Try). try.element) (filter try_removed forced))
        ≡ times e (removed ((unwrap_or (option_map (λ (seen : Seen). (record { element = look.element; probed = seen }) ∷ []) o) [] ++ flat_map look_probes looks) ++ forced))
    step None rest = rest
    step (Some Removed) rest = ap (λ (n : ℕ). cond (eqb look.element e) (suc n) n) rest
    step (Some (Held c)) rest = rest

shrink_counts : (shrink : Option ShrinkNote) (e : ℕ) → times e (freed_by shrink) ≡ times e (removed (shrink_probes shrink))
shrink_counts None e = refl
shrink_counts (Some note) e = freed_counts note.looks note.forced e

-- Taking and freeing

-- the hand with one element more
abbrev with_got : (ℕ → ℕ) → Option ℕ → ℕ → ℕ
with_got h got e = h e + times e (option_to_list got)

-- probes and the turn that they are for
chased_runs : (shape : Shape) (lock : DomainId) (part : Part) (turns : List TurnAt) (chased : IsChased shape lock part turns) (h k : ℕ → ℕ) → (is_inner part ≡ true) ⊎ (closes part ≡ true) → ((c : Option ℕ) → c ≡ None → Carried c part)
    → ((e : ℕ) → times e (leaves part) ≡ times e (removed (probes_of part))) → ((e : ℕ) → h e + times e (comes part) ≡ k e) → CountRuns h resting (turns_of turns) k (mode_after part)
chased_runs shape lock part turns chased h k closing carried out then =
    let turn : Turn = on_lock lock part in
    let probed = chase_runs shape _ (probes_of part) (turns_of chased.probing) chased.chase h resting refl in
    subst (λ (l : List Turn). CountRuns h resting l k (mode_after part))
    (sym (split_at chased.probing (chased.last ∷ []) turns chased.turns_are ∙ ap (λ (t : Turn). turns_of chased.probing ++ t ∷ []) chased.last_is))
    (counts_both h resting (turns_of chased.probing) (with_removed h (probes_of part)) probed.mode (turn ∷ []) k (mode_after part) probed.runs
    (one_runs (with_removed h (probes_of part)) probed.mode turn k (mode_after part)
    (λ e. omega (arith, out e)) (λ _. closing) (carried probed.mode.carry probed.free) (λ e. omega (arith, out e, then e)) refl))

takes_own : (shape : Shape) (cpu hash : ℕ) (got : Option ℕ) (turns : List TurnAt) → TakesOwn shape cpu hash got turns → (h : ℕ → ℕ) → CountRuns h resting (turns_of turns) (with_got h got) resting
takes_own shape cpu hash got turns takes h =
    chased_runs shape (CpuLru cpu) (parts.Own (own.Turn hash takes.active takes.inactive takes.shrink got)) turns takes.chased h (with_got h got) (inr refl) (λ c is. is) (λ e. shrink_counts takes.shrink e) (λ e. refl)

-- an element that is in hand is pushed
push_runs : (on e : ℕ) (h : ℕ → ℕ) → CountRuns (with_got h (Some e)) resting (on_lock (CpuLru on) (parts.Own (own.Push e)) ∷ []) h resting
push_runs on e h = one_runs (with_got h (Some e)) resting (on_lock (CpuLru on) (parts.Own (own.Push e))) h resting (λ x. omega arith) (λ is. no_probe is) refl (λ x. omega arith) refl

-- Where CPUs share lists
takes_free : (cpu hash : ℕ) (got : Option ℕ) (turns : List TurnAt) → TakesFree cpu hash got turns → (h : ℕ → ℕ) → CountRuns h resting (turns_of turns) (with_got h got) resting
takes_free cpu hash None turns takes h = absurd takes
takes_free cpu hash (Some e) turns takes h =
    subst (λ (l : List Turn). CountRuns h resting l (with_got h (Some e)) resting) (sym takes)
    (one_runs h resting (on_lock (Local cpu) (parts.Local (local.Pop hash e))) (with_got h (Some e)) resting (λ x. omega arith) (λ is. no_probe is) refl (λ x. omega arith) refl)

refills_runs : (shape : Shape) (cpu hash : ℕ) (lists : LocalLists) (got : Option ℕ) (turns : List TurnAt) → Refills shape cpu hash lists got turns → (h : ℕ → ℕ) → CountRuns h resting (turns_of turns) (with_got h got) resting
refills_runs shape cpu hash lists got turns refills h =
    let inside : Part = parts.Global (global.Turn refills.flushed refills.active refills.inactive refills.free refills.shrink) in
    let turn : Turn = on_lock (Local cpu) (parts.Local (local.Refill hash (map flush_visit refills.flushed) (refills.free ++ freed_by refills.shrink) got)) in
    subst (λ (l : List Turn). CountRuns h resting l (with_got h got) resting)
    (sym (split_at refills.inner (refills.last ∷ []) turns refills.turns_are ∙ ap (λ (t : Turn). turns_of refills.inner ++ t ∷ []) refills.last_is))
    (counts_both h resting (turns_of refills.inner) h (mode_after inside) (turn ∷ []) (with_got h got) resting
    (chased_runs shape Global inside refills.inner refills.chased h h (inl refl) (λ c is. is) (λ e. shrink_counts refills.shrink e) (λ e. omega arith))
    (one_runs h (mode_after inside) turn (with_got h got) resting (λ x. omega arith) (λ _. inr refl) refl (λ x. omega arith) refl))

steals_runs : (shape : Shape) (cpu hash : ℕ) (ring_ : List ℕ) (got : Option ℕ) (turns : List TurnAt) → Steals shape cpu hash ring_ got turns → (h : ℕ → ℕ) → CountRuns h resting (turns_of turns) (with_got h got) resting
steals_runs shape cpu hash [] got turns steals h =
    subst (λ (l : List TurnAt). CountRuns h resting (turns_of l) (with_got h got) resting) (sym steals.0) (λ e. omega (arith, ap (λ (o : Option ℕ). times e (option_to_list o)) steals.1), refl)
steals_runs shape cpu hash (from ∷ others) got turns steals h =
    by steals.0 steals.1 steals.2 steals.3 steals.4 steals.5 steals.6 (λ rest more. steals_runs shape cpu hash others got rest more h) steals.7
  where
    by : (tried rest : List TurnAt) (stole : Stolen) (first : List Look) (second : List Try) → turns ≡ tried ++ rest → IsChased shape (Local from) (parts.Local (local.Steal stole first second)) tried
        → ((rest : List TurnAt) → Steals shape cpu hash others got rest → CountRuns h resting (turns_of rest) (with_got h got) resting)
        → MatchOption (stolen_element stole) (Steals shape cpu hash others got rest) (λ e. (got ≡ Some e) × (turns_of rest ≡ brings_home shape cpu hash from e ∷ []))
        → CountRuns h resting (turns_of turns) (with_got h got) resting
    by tried rest stole first second is chased go then =
        subst (λ (l : List Turn). CountRuns h resting l (with_got h got) resting) (sym (split_at tried rest turns is))
        (counts_both h resting (turns_of tried) (with_got h (stolen_element stole)) (record { probing = false; carry = stolen_element stole }) (turns_of rest) (with_got h got) resting
        (chased_runs shape (Local from) (parts.Local (local.Steal stole first second)) tried chased h (with_got h (stolen_element stole)) (inr refl) (λ c is. is) (λ e. freed_counts first second e) (λ e. refl))
        (home (stolen_element stole) then))
      where
        home : (o : Option ℕ) → MatchOption o (Steals shape cpu hash others got rest) (λ e. (got ≡ Some e) × (turns_of rest ≡ brings_home shape cpu hash from e ∷ []))
            → CountRuns (with_got h o) (record { probing = false; carry = o }) (turns_of rest) (with_got h got) resting
        home None more = counts_alike (with_got h None) h resting (turns_of rest) (with_got h got) resting (λ e. omega arith) (go rest more)
        home (Some e) brings =
            subst (λ (l : List Turn). CountRuns (with_got h (Some e)) (record { probing = false; carry = Some e }) l (with_got h got) resting) (sym brings.1)
            (one_runs (with_got h (Some e)) (record { probing = false; carry = Some e }) (brings_home shape cpu hash from e) (with_got h got) resting (λ x. omega arith) (λ is. no_probe is) refl
            (λ x. omega (arith, ap (λ (o : Option ℕ). times x (option_to_list o)) brings.0)) refl)

by_refill : (shape : Shape) (cpu hash : ℕ) (got : Option ℕ) (turns : List TurnAt) → TakesByRefill shape cpu hash got turns → (h : ℕ → ℕ) → CountRuns h resting (turns_of turns) (with_got h got) resting
by_refill shape cpu hash got turns takes h =
    subst (λ (l : List Turn). CountRuns h resting l (with_got h got) resting) (sym (split_at takes.refilling takes.stealing turns takes.turns_are))
    (counts_both h resting (turns_of takes.refilling) (with_got h takes.gave) resting (turns_of takes.stealing) (with_got h got) resting (refills_runs shape cpu hash takes.lists takes.gave takes.refilling takes.refills h) (then takes.gave takes.steals))
  where
    then : (gave : Option ℕ) → MatchOption gave (Steals shape cpu hash (ring takes.lists.steal shape.cpus) got takes.stealing) (λ e. (takes.stealing ≡ []) × (got ≡ Some e)) → CountRuns (with_got h gave) resting (turns_of takes.stealing) (with_got h got) resting
    then None steals = counts_alike (with_got h None) h resting (turns_of takes.stealing) (with_got h got) resting (λ e. omega arith) (steals_runs shape cpu hash _ got takes.stealing steals h)
    then (Some e) done = subst (λ (l : List TurnAt). CountRuns (with_got h (Some e)) resting (turns_of l) (with_got h got) resting) (sym done.0) (λ x. omega (arith, ap (λ (o : Option ℕ). times x (option_to_list o)) done.1), refl)

frees_shared : (e : ℕ) (turns : List TurnAt) → (FreesPending e turns ⊎ (FreesFlushed e turns ⊎ (turns_of turns ≡ freed_globally e ∷ []))) → (h : ℕ → ℕ) → CountRuns (with_got h (Some e)) resting (turns_of turns) h resting
frees_shared e turns (inl pending) h =
    subst (λ (l : List Turn). CountRuns (with_got h (Some e)) resting l h resting) (sym pending.turns_are)
    (one_runs (with_got h (Some e)) resting (on_lock (Local pending.on) (parts.Local (local.Push e true))) h resting (λ x. omega arith) (λ is. no_probe is) refl (λ x. omega arith) refl)
frees_shared e turns (inr (inl flushed)) h =
    let miss : Turn = on_lock (Local flushed.on) (parts.Local (local.Push e false)) in
    subst (λ (l : List Turn). CountRuns (with_got h (Some e)) resting l h resting)
    (sym (ap turns_of flushed.turns_are ∙ ap (λ (t : Turn). t ∷ flushed.second.turn ∷ []) flushed.first_is ∙ ap (λ (t : Turn). miss ∷ t ∷ []) flushed.second_is))
    (counts_both (with_got h (Some e)) resting (miss ∷ []) (with_got h (Some e)) resting (freed_globally e ∷ []) h resting
    (one_runs (with_got h (Some e)) resting miss (with_got h (Some e)) resting (λ x. omega arith) (λ is. no_probe is) refl (λ x. omega arith) refl)
    (global_runs e h))
  where
    global_runs : (e : ℕ) (h : ℕ → ℕ) → CountRuns (with_got h (Some e)) resting (freed_globally e ∷ []) h resting
    global_runs e h = one_runs (with_got h (Some e)) resting (freed_globally e) h resting (λ x. omega arith) (λ is. no_probe is) refl (λ x. omega arith) refl
frees_shared e turns (inr (inr globally)) h =
    subst (λ (l : List Turn). CountRuns (with_got h (Some e)) resting l h resting) (sym globally)
    (one_runs (with_got h (Some e)) resting (freed_globally e) h resting (λ x. omega arith) (λ is. no_probe is) refl (λ x. omega arith) refl)

-- Both kinds of lists
takes_runs : (shape : Shape) (cpu hash : ℕ) (got : Option ℕ) (turns : List TurnAt) → Acquires shape cpu hash got turns → (h : ℕ → ℕ) → CountRuns h resting (turns_of turns) (with_got h got) resting
takes_runs shape cpu hash got turns takes h =
    either shape.common takes
    (λ shared. ⊎_elim (λ (free : TakesFree cpu hash got turns). takes_free cpu hash got turns free h) (λ (refill : TakesByRefill shape cpu hash got turns). by_refill shape cpu hash got turns refill h) shared)
    (λ one. takes_own shape cpu hash got turns one h)

module _ (shape : Shape) where
  frees_runs : (e : ℕ) (turns : List TurnAt) → Frees shape e turns → (h : ℕ → ℕ) → CountRuns (with_got h (Some e)) resting (turns_of turns) h resting
  frees_runs e turns frees h =
      either shape.common frees
      (λ shared. frees_shared e turns shared h)
      (λ one. subst (λ (l : List Turn). CountRuns (with_got h (Some e)) resting l h resting) (sym one) (push_runs (set_of shape e) e h))

  frees_one : (gone : Option ℕ) (turns : List TurnAt) → FreesOne shape gone turns → (h : ℕ → ℕ) → CountRuns (with_got h gone) resting (turns_of turns) h resting
  frees_one None turns frees h = subst (λ (l : List TurnAt). CountRuns (with_got h None) resting (turns_of l) h resting) (sym frees) (λ e. omega arith, refl)
  frees_one (Some e) turns frees h = frees_runs e turns frees h

  -- what is taken out of a bucket is freed after it, last taken first
  frees_all : (es : List ℕ) (turns : List TurnAt) → FreesAll shape es turns → (h : ℕ → ℕ) → CountRuns (λ x. h x + times x es) resting (turns_of turns) h resting
  frees_all [] turns frees h = subst (λ (l : List TurnAt). CountRuns (λ x. h x + times x []) resting (turns_of l) h resting) (sym frees) (λ e. omega arith, refl)
  frees_all (e ∷ es) turns frees h =
      let one : List TurnAt = frees.0 in
      let others : List TurnAt = frees.1 in
      let rest : ℕ → ℕ = λ x. h x + times x es in
      subst (λ (l : List Turn). CountRuns (λ x. h x + times x (e ∷ es)) resting l h resting) (sym (split_at one others turns frees.2.0))
      (counts_both (λ x. h x + times x (e ∷ es)) resting (turns_of one) rest resting (turns_of others) h resting
      (counts_alike (λ x. h x + times x (e ∷ es)) (with_got rest (Some e)) resting (turns_of one) rest resting (λ x. omega (arith, times_append x (e ∷ []) es)) (frees_runs e one frees.2.1 rest))
      (frees_all es others frees.2.2 h))

  -- The old element, or the offered one, is left over.
  offer_runs : (side : Side) (flags : ℕ) (key value : List ℕ) (e : ℕ) (turns : List TurnAt) (reply : Reply) → OffersOne shape side flags key value e turns reply → (h : ℕ → ℕ) → CountRuns (with_got h (Some e)) resting (turns_of turns) h resting
  offer_runs side flags key value e turns reply offers h =
      let turn : Turn = on_bucket_of shape key (Update side flags key value (Some e) offers.put) in
      subst (λ (l : List Turn). CountRuns (with_got h (Some e)) resting l h resting) (sym (ap turns_of offers.turns_are ∙ ap (λ (t : Turn). t ∷ turns_of offers.freeing) offers.bucket_is))
      (counts_both (with_got h (Some e)) resting (turn ∷ []) (with_got h (left_over e offers.put)) resting (turns_of offers.freeing) h resting
      (puts_runs offers.put offers.may_put) (frees_one (left_over e offers.put) offers.freeing offers.frees h))
    where
      puts_runs : (put : Put) → MayPut shape e put → CountRuns (with_got h (Some e)) resting (on_bucket_of shape key (Update side flags key value (Some e) put) ∷ []) (with_got h (left_over e put)) resting
      puts_runs (puts.Added added) may = one_runs (with_got h (Some e)) resting (on_bucket_of shape key (Update side flags key value (Some e) (puts.Added added))) (with_got h None) resting (λ x. omega (arith, ap (λ (y : ℕ). times x (y ∷ [])) may)) (λ is. no_probe is) refl (λ x. omega (arith, ap (λ (y : ℕ). times x (y ∷ [])) may)) refl
      puts_runs (puts.Replaced new old) may = one_runs (with_got h (Some e)) resting (on_bucket_of shape key (Update side flags key value (Some e) (puts.Replaced new old))) (with_got h (Some old)) resting (λ x. omega (arith, ap (λ (y : ℕ). times x (y ∷ [])) may.0)) (λ is. no_probe is) refl (λ x. omega (arith, ap (λ (y : ℕ). times x (y ∷ [])) may.0)) refl
      puts_runs (puts.Written written) may = one_runs (with_got h (Some e)) resting (on_bucket_of shape key (Update side flags key value (Some e) (puts.Written written))) (with_got h (Some e)) resting (λ x. omega arith) (λ is. no_probe is) refl (λ x. omega arith) refl
      puts_runs puts.Exists may = one_runs (with_got h (Some e)) resting (on_bucket_of shape key (Update side flags key value (Some e) puts.Exists)) (with_got h (Some e)) resting (λ x. omega arith) (λ is. no_probe is) refl (λ x. omega arith) refl
      puts_runs puts.Absent may = one_runs (with_got h (Some e)) resting (on_bucket_of shape key (Update side flags key value (Some e) puts.Absent)) (with_got h (Some e)) resting (λ x. omega arith) (λ is. no_probe is) refl (λ x. omega arith) refl
      puts_runs puts.Full may = absurd may

  offer_steady : (cpu : ℕ) (side : Side) (flags : ℕ) (key value : List ℕ) (turns : List TurnAt) (reply : Reply) → IsOfferTrace shape cpu side flags key value turns reply → Steady (turns_of turns)
  offer_steady cpu side flags key value turns reply trace h =
      subst (λ (l : List Turn). CountRuns h resting l h resting) (sym (split_at trace.taking trace.rest turns trace.turns_are))
      (counts_both h resting (turns_of trace.taking) (with_got h trace.got) resting (turns_of trace.rest) h resting (takes_runs shape cpu _ trace.got trace.taking trace.takes h) (by trace.got trace.offers))
    where
      by : (got : Option ℕ) → MatchOption got ((trace.rest ≡ []) × (reply ≡ Refused Enomem)) (λ e. OffersOne shape side flags key value e trace.rest reply) → CountRuns (with_got h got) resting (turns_of trace.rest) h resting
      by None may = subst (λ (l : List TurnAt). CountRuns (with_got h None) resting (turns_of l) h resting) (sym may.0) (λ e. omega arith, refl)
      by (Some e) may = offer_runs side flags key value e trace.rest reply may h

  -- A bucket's turn that takes these out, and their freeing
  out_runs : (at : TurnAt) (gone : List ℕ) (freeing turns : List TurnAt) → turns ≡ at ∷ freeing → leaves at.turn.part ≡ [] → comes at.turn.part ≡ gone → Carried None at.turn.part → mode_after at.turn.part ≡ resting
      → ((h : ℕ → ℕ) → CountRuns (λ x. h x + times x gone) resting (turns_of freeing) h resting) → Steady (turns_of turns)
  out_runs at gone freeing turns is out in_ carried mode frees h =
      subst (λ (l : List TurnAt). CountRuns h resting (turns_of l) h resting) (sym is)
      (counts_both h resting (at.turn ∷ []) (λ x. h x + times x gone) resting (turns_of freeing) h resting
      (one_runs h resting at.turn (λ x. h x + times x gone) resting (λ e. omega (arith, ap (times e) out)) (λ p. no_probe p) carried (λ e. omega (arith, ap (times e) out, ap (times e) in_)) mode)
      (frees h))

  key_steady : (cpu : ℕ) (verb : Verb) (turns : List TurnAt) (reply : Reply) → IsEvictingTrace shape cpu verb turns reply → Steady (turns_of turns)
  key_steady cpu (verbs.Lookup side key) turns reply trace =
      subst Steady (sym trace.turns_are) (quiet_first (on_bucket_of shape key (Lookup side key trace.got)) [] refl refl refl refl (λ h. (λ e. refl, refl)))
  key_steady cpu (verbs.Update side flags key value) turns reply (inl refused) = none_at turns refused.1
  key_steady cpu (verbs.Update side flags key value) turns reply (inr made) = by (is_percpu shape.kind && eqb flags 2) made.1
    where
      write : (put : Put) → MayPutAlone put → Steady (on_bucket_of shape key (Update side flags key value None put) ∷ [])
      write (puts.Added e) may = absurd may
      write (puts.Replaced new old) may = absurd may
      write (puts.Written e) may = quiet_first (on_bucket_of shape key (Update side flags key value None (puts.Written e))) [] refl refl refl refl (λ h. (λ e. refl, refl))
      write puts.Exists may = absurd may
      write puts.Absent may = quiet_first (on_bucket_of shape key (Update side flags key value None puts.Absent)) [] refl refl refl refl (λ h. (λ e. refl, refl))
      write puts.Full may = absurd may

      by : (b : Bool) → MatchBool b (IsWriteTrace shape side flags key value turns reply) (IsOfferTrace shape cpu side flags key value turns reply) → Steady (turns_of turns)
      by true trace = subst Steady (sym trace.turns_are) (write trace.put trace.may_put)
      by false trace = offer_steady cpu side flags key value turns reply trace
  key_steady cpu (verbs.Delete key) turns reply trace = by trace.gone trace.frees trace.bucket_is
    where
      by : (gone : Option ℕ) → FreesOne shape gone trace.freeing → trace.at_bucket.turn ≡ on_bucket_of shape key (Delete key gone) → Steady (turns_of turns)
      by None frees is = out_runs trace.at_bucket [] trace.freeing turns trace.turns_are (ap (λ (t : Turn). leaves t.part) is) (ap (λ (t : Turn). comes t.part) is) (subst (λ (t : Turn). Carried None t.part) (sym is) refl) (ap (λ (t : Turn). mode_after t.part) is) (λ h. frees_one None trace.freeing frees h)
      by (Some e) frees is = out_runs trace.at_bucket (e ∷ []) trace.freeing turns trace.turns_are (ap (λ (t : Turn). leaves t.part) is) (ap (λ (t : Turn). comes t.part) is) (subst (λ (t : Turn). Carried None t.part) (sym is) refl) (ap (λ (t : Turn). mode_after t.part) is) (λ h. frees_one (Some e) trace.freeing frees h)
  key_steady cpu (verbs.Take key) turns reply trace = by trace.gone trace.frees trace.bucket_is
    where
      by : (gone : Option (ℕ × List ℕ)) → FreesOne shape (element_gone gone) trace.freeing → trace.at_bucket.turn ≡ on_bucket_of shape key (Take key gone) → Steady (turns_of turns)
      by None frees is = out_runs trace.at_bucket [] trace.freeing turns trace.turns_are (ap (λ (t : Turn). leaves t.part) is) (ap (λ (t : Turn). comes t.part) is) (subst (λ (t : Turn). Carried None t.part) (sym is) refl) (ap (λ (t : Turn). mode_after t.part) is) (λ h. frees_one None trace.freeing frees h)
      by (Some gone) frees is = out_runs trace.at_bucket (gone.0 ∷ []) trace.freeing turns trace.turns_are (ap (λ (t : Turn). leaves t.part) is) (ap (λ (t : Turn). comes t.part) is) (subst (λ (t : Turn). Carried None t.part) (sym is) refl) (ap (λ (t : Turn). mode_after t.part) is) (λ h. frees_one (Some gone.0) trace.freeing frees h)
  key_steady cpu (verbs.Next key) turns reply trace = absurd trace
  key_steady cpu (verbs.BatchRead remove count start flags) turns reply trace = absurd trace
  key_steady cpu (verbs.BatchUpdate flags pairs) turns reply trace = absurd trace
  key_steady cpu (verbs.BatchDelete flags keys) turns reply trace = absurd trace
  key_steady cpu (verbs.Each flags stop) turns reply trace = absurd trace

-- Next key
firsts_steady : (buckets : List ℕ) (turns : List Turn) (reply : Reply) → Firsts buckets turns reply → Steady turns
firsts_steady [] turns reply firsts = none_steady turns firsts.0
firsts_steady (bucket ∷ buckets) turns reply firsts =
    subst Steady (sym firsts.2) (quiet_first (on_lock (Bucket bucket) (parts.Bucket (First firsts.0))) firsts.1 refl refl refl refl (by firsts.1 (λ more. firsts_steady buckets firsts.1 reply more) firsts.0 firsts.3))
  where
    by : (rest : List Turn) → (Firsts buckets rest reply → Steady rest) → (key : Option (List ℕ)) → MatchOption key (Firsts buckets rest reply) (λ first. (rest ≡ []) × (reply ≡ Value first)) → Steady rest
    by rest go None may = go may
    by rest go (Some first) may = none_steady rest may.0

goes_on_steady : (shape : Shape) (key : List ℕ) (found : NextFound) (turns : List Turn) (reply : Reply) → GoesOn shape key found turns reply → Steady turns
goes_on_steady shape key nexts.Absent turns reply goes = firsts_steady (buckets_from shape 0) turns reply goes
goes_on_steady shape key nexts.Last turns reply goes = firsts_steady (buckets_from shape (bucket_of_key shape key + 1)) turns reply goes
goes_on_steady shape key (nexts.Key next) turns reply goes = none_steady turns goes.0

next_steady : (shape : Shape) (key : Option (List ℕ)) (turns : List Turn) (reply : Reply) → IsNextTrace shape key turns reply → Steady turns
next_steady shape None turns reply trace = firsts_steady (buckets_from shape 0) turns reply trace
next_steady shape (Some key) turns reply trace =
    subst Steady (sym trace.turns_are) (quiet_first (on_bucket_of shape key (Next key trace.found)) trace.rest refl refl refl refl (goes_on_steady shape key trace.found trace.rest reply trace.goes_on))

-- Batches
times_reverse : (e : ℕ) (xs : List ℕ) → times e (reverse xs) ≡ times e xs
times_reverse e xs = times_turned e xs

walk_comes : (remove : Bool) (room : ℕ) (result : Walked) → comes (parts.Bucket (Walk remove room result)) ≡ walked_out remove result
walk_comes remove room (Over n) = refl
walk_comes remove room (Taken all) = refl

module _ (shape : Shape) (evicts_ : is_lru shape.kind ≡ true) where
  hit : (P Q : Type 0) → MatchBool (is_lru shape.kind) P Q → P
  hit P Q may = subst (λ (b : Bool). MatchBool b P Q) evicts_ may

  takes_out_steady : (cpu bucket : ℕ) (remove : Bool) (room : ℕ) (result : Walked) (turns : List TurnAt) → TakesOut shape cpu (on_lock (Bucket bucket) (parts.Bucket (Walk remove room result))) (walked_out remove result) turns → Steady (turns_of turns)
  takes_out_steady cpu bucket remove room result turns takes =
      let out = hit _ _ takes in
      let gone : List ℕ = walked_out remove result in
      out_runs shape out.at_bucket gone out.freeing turns out.turns_are
      (ap (λ (t : Turn). leaves t.part) out.bucket_is) (ap (λ (t : Turn). comes t.part) out.bucket_is ∙ walk_comes remove room result) (subst (λ (t : Turn). Carried None t.part) (sym out.bucket_is) refl) (ap (λ (t : Turn). mode_after t.part) out.bucket_is)
      (λ h. counts_alike (λ x. h x + times x gone) (λ x. h x + times x (reverse gone)) resting (turns_of out.freeing) h resting (λ x. omega (arith, times_reverse x gone)) (frees_all shape (reverse gone) out.freeing out.frees h))

  walks_steady : (cpu : ℕ) (remove : Bool) (limit : ℕ) (buckets : List ℕ) (taken : List (List ℕ × List ℕ)) (turns : List TurnAt) (reply : Reply) → Walks shape cpu remove limit buckets taken turns reply → Steady (turns_of turns)
  walks_steady cpu remove limit [] taken turns reply walks = none_at turns walks.0
  walks_steady cpu remove limit (bucket ∷ buckets) taken turns reply walks =
      both_at walks.1 walks.2 turns walks.3.0
      (takes_out_steady cpu bucket remove (limit - length taken) walks.0 walks.1 walks.3.1)
      (by walks.2 walks.0 (λ now more. walks_steady cpu remove limit buckets now walks.2 reply more) walks.3.2)
    where
      by : (rest : List TurnAt) (result : Walked) → ((now : List (List ℕ × List ℕ)) → Walks shape cpu remove limit buckets now rest reply → Steady (turns_of rest))
          → AfterWalk bucket taken rest reply result (λ now. Walks shape cpu remove limit buckets now rest reply) → Steady (turns_of rest)
      by rest (Over n) go after = none_at rest after.0
      by rest (Taken all) go after = go _ after

  read_steady : (cpu : ℕ) (remove : Bool) (count : ℕ) (start : Option ℕ) (flags : ℕ) (turns : List TurnAt) (reply : Reply) → IsReadTrace shape cpu remove count start flags turns reply → Steady (turns_of turns)
  read_steady cpu remove count start flags turns reply trace =
      either (eqb flags 0) trace
      (λ asked. either (eqb count 0) asked
      (λ none. none_at turns none.0)
      (λ some. either (ltb (unwrap_or start 0) shape.buckets) some
      (λ walks. walks_steady cpu remove _ _ [] turns reply walks)
      (λ none. none_at turns none.0)))
      (λ refused. none_at turns refused.0)

  writes_steady : (cpu : ℕ) (spare : Option ℕ) (entries : List Verb) (done : ℕ) (turns : List TurnAt) (reply : Reply) → Writes shape cpu spare entries done turns reply → Steady (turns_of turns)
  writes_steady cpu spare [] done turns reply writes = none_at turns writes.0
  writes_steady cpu spare (entry ∷ entries) done turns reply writes =
      both_at writes.1 writes.2 turns writes.3.0 (key_steady shape cpu entry writes.1 writes.0 (hit _ _ writes.3.1))
      (by writes.2 (refused_with writes.0) (λ more. writes_steady cpu (spare_left shape spare writes.1) entries (suc done) writes.2 reply more) writes.3.2)
    where
      by : (rest : List TurnAt) (refused : Option Errno) {P : Type 0} → (P → Steady (turns_of rest)) → MatchOption refused P (λ errno. (rest ≡ []) × (reply ≡ Count (Some errno) done)) → Steady (turns_of rest)
      by rest None go may = go may
      by rest (Some errno) go may = none_at rest may.0

  batch_steady : (cpu : ℕ) (spare : Option ℕ) (flags : ℕ) (entries : List Verb) (turns : List TurnAt) (reply : Reply) → IsWriteBatch shape cpu spare flags entries turns reply → Steady (turns_of turns)
  batch_steady cpu spare flags entries turns reply trace = either (eqb flags 0) trace (λ writes. writes_steady cpu spare entries 0 turns reply writes) (λ refused. none_at turns refused.0)

  -- Walks over all elements
  over_steady : (cpu : ℕ) (Says : Callback) (buckets : List ℕ) (before : List (List ℕ × List ℕ)) (turns : List Turn) (reply : Reply) → HandsOverBuckets shape cpu Says buckets before turns reply → Steady turns
  over_steady cpu Says [] before turns reply hands = none_steady turns hands.0
  over_steady cpu Says (bucket ∷ buckets) before turns reply hands =
      subst Steady (sym hands.2.0)
      (quiet_first (on_lock (Bucket bucket) (parts.Bucket (Walk false (shape.elements - length before) hands.0))) hands.1 refl (walk_comes false (shape.elements - length before) hands.0 ∙ none_walked hands.0) refl refl
      (by hands.1 hands.0 (λ now more. over_steady cpu Says buckets now hands.1 reply more) hands.2.1))
    where
      none_walked : (result : Walked) → walked_out false result ≡ []
      none_walked (Over n) = refl
      none_walked (Taken all) = refl

      by : (rest : List Turn) (result : Walked) → ((now : List (List ℕ × List ℕ)) → HandsOverBuckets shape cpu Says buckets now rest reply → Steady rest)
          → AfterHanding shape cpu Says bucket before rest reply result (λ now. HandsOverBuckets shape cpu Says buckets now rest reply) → Steady rest
      by rest (Over n) go after = none_steady rest after.0
      by rest (Taken all) go after = either after.1 after.2.1 (λ stopped. none_steady rest stopped.0) (λ more. go _ more)

  handing_steady : (cpu : ℕ) (Says : Callback) (flags : ℕ) (turns : List Turn) (reply : Reply) → IsHandingTrace shape cpu Says flags turns reply → Steady turns
  handing_steady cpu Says flags turns reply trace = either (eqb flags 0) trace (λ hands. over_steady cpu Says _ [] turns reply hands) (λ refused. none_steady turns refused.0)

  -- Any call
  pub trace_steady : (cpu : ℕ) (spare : Option ℕ) (verb : Verb) (turns : List TurnAt) (reply : Reply) → IsTrace shape cpu spare verb turns reply → Steady (turns_of turns)
  trace_steady cpu spare (verbs.Lookup side key) turns reply trace = key_steady shape cpu (verbs.Lookup side key) turns reply (hit _ _ trace)
  trace_steady cpu spare (verbs.Update side flags key value) turns reply trace = key_steady shape cpu (verbs.Update side flags key value) turns reply (hit _ _ trace)
  trace_steady cpu spare (verbs.Delete key) turns reply trace = key_steady shape cpu (verbs.Delete key) turns reply (hit _ _ trace)
  trace_steady cpu spare (verbs.Take key) turns reply trace = key_steady shape cpu (verbs.Take key) turns reply (hit _ _ trace)
  trace_steady cpu spare (verbs.Next key) turns reply trace = next_steady shape key (turns_of turns) reply trace
  trace_steady cpu spare (verbs.BatchRead remove count start flags) turns reply trace = read_steady cpu remove count start flags turns reply trace
  trace_steady cpu spare (verbs.BatchUpdate flags pairs) turns reply trace = batch_steady cpu spare flags (updates_of pairs) turns reply trace
  trace_steady cpu spare (verbs.BatchDelete flags keys) turns reply trace = batch_steady cpu spare flags (deletes_of keys) turns reply trace
  trace_steady cpu spare (verbs.Each flags stop) turns reply trace = handing_steady cpu (StopsAt stop) flags (turns_of turns) reply trace
