-- What an update of a map that evicts does at most, where every turn stands in a history that replays by the rules.
use Rattle.std.proofs.Common.{◌≡◌, ◌⊎◌, ℕ, ◌+◌, ◌-◌, ◌<◌, ◌≤◌, Bool, true, false, cond, ◌&&◌, eqb, List, [], ◌∷◌, ◌++◌, length, reverse, map, refl, ap, ◌∙◌, sym, subst, arith, inl, inr, ⊎_elim}
use Rattle.std.specs.Prelude.{Option, None, Some, MatchOption, MatchBool, count_by, slice_get, option_map}
use Rattle.std.specs.List.{range_with_len}
use Rattle.std.proofs.lemmas.List.{length-append, length-reverse, length-take, map-append}
use Rattle.std.proofs.lemmas.List.FromFn.{length-range_with_len}
use Rattle.std.proofs.lemmas.List.Sums.{count_by-le-length, sum_by-append, sum_by-cons}
use Rattle.std.proofs.lemmas.Option.{none-some, same_Some}
use Rattle.map_types.specs.declared.attr.Shape.{Shape}
use Rattle.map_types.specs.declared.call.Verb.TheVariants as verbs
use Rattle.map_types.specs.declared.kind.DomainId.{DomainId}
use Rattle.map_types.specs.declared.kind.DomainId.TheVariants.{Local, Global, CpuLru}
use Rattle.map_types.specs.declared.kind.Side.{Side}
use Rattle.map_types.specs.declared.reply.Reply.{Reply}
use Rattle.map_types.specs.Kind.{is_lru, is_percpu}
use Rattle.place_words.specs.declared.bucket_part.BucketPart.{BucketPart}
use Rattle.place_words.specs.declared.bucket_part.BucketPart.TheVariants.{Update, Evict}
use Rattle.place_words.specs.declared.bucket_part.Seen.{Seen}
use Rattle.place_words.specs.declared.bucket_part.Seen.TheVariants.{Removed, Held}
use Rattle.place_words.specs.declared.history.Entry.{Entry}
use Rattle.place_words.specs.declared.history.Part.{Part}
use Rattle.place_words.specs.declared.history.Part.TheVariants as parts
use Rattle.place_words.specs.declared.list_part.GlobalPart.TheVariants as global
use Rattle.place_words.specs.declared.list_part.LocalPart.{LocalPart}
use Rattle.place_words.specs.declared.list_part.LocalPart.TheVariants as local
use Rattle.place_words.specs.declared.list_part.OwnPart.TheVariants as own
use Rattle.place_words.specs.declared.list_part.Stolen.{Stolen}
use Rattle.place_words.specs.declared.list_part.Stolen.TheVariants.{Free, Pending, Nothing}
use Rattle.map_types.specs.declared.row.Row.{Row}
use Rattle.place_words.specs.declared.visits.Flush.{Flush}
use Rattle.place_words.specs.declared.visits.Look.{Look}
use Rattle.place_words.specs.declared.visits.ShrinkNote.{ShrinkNote}
use Rattle.place_words.specs.declared.visits.Try.{Try}
use Rattle.place_words.specs.declared.visits.Visit.{Visit}
use Rattle.place_words.specs.Counts.{in_all, part_moves, part_flushes, is_list_part, is_eviction, moves, looks, flushes, evictions, look_moves, shrink_moves, one_where, IsWithinShared, IsWithinOwn}
use Rattle.map_types.specs.ElementLists.{one}
use Rattle.place_words.specs.Evicting.{FreesOne, left_over, OffersOne, IsOfferTrace, IsWriteTrace, IsEvictingUpdate}
use Rattle.place_words.specs.Globals.{with_flushed, global_scans, global_target, AllowsOnGlobal, AllowsGlobalShrink}
use Rattle.place_words.specs.Histories.{Content, Allows, content, content_after, replayed, AllAllowed, IsLegal, in_bucket, on_freelist, in_locals, in_global, in_own, locals_in}
use Rattle.place_words.specs.Locals.{LocalLists, AllowsOnLocal, local_after}
use Rattle.place_words.specs.Sets.{own_scans, own_target, AllowsOnOwn, rotated_set}
use Rattle.place_words.specs.Shrinking.{look_removed, try_removed, IsShrink}
use Rattle.place_words.specs.Takings.{Chase, IsChased, probes_of, shrink_probes, stored_hash, evicts, TakesOwn, TakesFree, Refills, freed_by, stolen_element, brings_home, Steals, TakesByRefill, Acquires, Frees, FreesPending, FreesFlushed, freed_globally}
use Rattle.place_words.specs.Traces.{IsTrace}
use Rattle.place_words.specs.Turns.{Turn, TurnAt, turns_of, IsLegalAt, AreLegalAt, on_lock, on_bucket_of, ring}
use Rattle.place_words.proofs.CostLemmas.{few_looks, shrink_removes, forces_one, few_visits, walks_remove, freed_count}

-- Turns one after another

all_more : (count : Part → ℕ) (xs ys : List TurnAt) → in_all count (turns_of (xs ++ ys)) ≡ in_all count (turns_of xs) + in_all count (turns_of ys)
all_more count xs ys =
    ap (in_all count) (map-append (λ (at : TurnAt). at.turn) xs ys) ∙ sum_by-append (λ (turn : Turn). count turn.part) (turns_of xs) (turns_of ys)

all_one : (count : Part → ℕ) (turn : Turn) (turns : List Turn) → in_all count (turn ∷ turns) ≡ count turn.part + in_all count turns
all_one count turn turns = sum_by-cons (λ (x : Turn). count x.part) turn turns

legal_parts : (shape : Shape) (cpu : ℕ) (xs ys : List TurnAt) → AreLegalAt shape cpu (xs ++ ys) → AreLegalAt shape cpu xs × AreLegalAt shape cpu ys
legal_parts shape cpu [] ys legal = (tt, legal)
legal_parts shape cpu (x ∷ xs) ys legal = let rest = legal_parts shape cpu xs ys legal.1 in ((legal.0, rest.0), rest.1)

-- The probes of a turn count for nothing but evictions
chased_none : (count : Part → ℕ) → ((e : ℕ) (seen : Seen) → count (parts.Bucket (Evict e seen)) ≡ 0) → (shape : Shape) (rows : List Row) (probes : List Try) (turns : List Turn)
    → Chase shape rows probes turns → in_all count turns ≡ 0
chased_none count none shape rows [] [] chase = refl
chased_none count none shape rows [] (turn ∷ turns) chase = absurd chase
chased_none count none shape rows (probe ∷ probes) [] chase = absurd chase
chased_none count none shape rows (probe ∷ probes) (turn ∷ turns) chase =
    let here : count turn.part ≡ 0 = by_hash (stored_hash probe.element rows) chase.0 in
    omega (arith, all_one count turn turns, here, chased_none count none shape rows probes turns chase.1)
  where
    by_hash : (found : Option ℕ) → option_map (evicts shape probe) found ≡ Some turn → count turn.part ≡ 0
    by_hash None is = absurd (none-some turn is)
    by_hash (Some hash) is = ap (λ (x : Turn). count x.part) (sym (same_Some _ _ is)) ∙ none probe.element probe.probed

evicts_by : (e : ℕ) (seen : Seen) → one (is_eviction (parts.Bucket (Evict e seen))) ≡ cond (try_removed (record { element = e; probed = seen })) 1 0
evicts_by e Removed = refl
evicts_by e (Held cpu) = refl

chased_evicts : (shape : Shape) (rows : List Row) (probes : List Try) (turns : List Turn) → Chase shape rows probes turns → evictions turns ≡ count_by try_removed probes
chased_evicts shape rows [] [] chase = refl
chased_evicts shape rows [] (turn ∷ turns) chase = absurd chase
chased_evicts shape rows (probe ∷ probes) [] chase = absurd chase
chased_evicts shape rows (probe ∷ probes) (turn ∷ turns) chase =
    let here : one (is_eviction turn.part) ≡ cond (try_removed probe) 1 0 = by_hash (stored_hash probe.element rows) chase.0 in
    let whole = sum_by-cons (λ (x : Try). cond (try_removed x) 1 0) probe probes in
    omega (arith, all_one (λ part. one (is_eviction part)) turn turns, here, whole, chased_evicts shape rows probes turns chase.1)
  where
    by_hash : (found : Option ℕ) → option_map (evicts shape probe) found ≡ Some turn → one (is_eviction turn.part) ≡ cond (try_removed probe) 1 0
    by_hash None is = absurd (none-some turn is)
    by_hash (Some hash) is = ap (λ (x : Turn). one (is_eviction x.part)) (sym (same_Some _ _ is)) ∙ evicts_by probe.element probe.probed

-- a list turn with its probes
module _ (shape : Shape) (cpu : ℕ) (lock : DomainId) (part : Part) (turns : List TurnAt) (chased : IsChased shape lock part turns) where
  split_up : (count : Part → ℕ) → in_all count (turns_of turns) ≡ in_all count (turns_of chased.probing) + count part
  split_up count =
      let whole : in_all count (turns_of turns) ≡ in_all count (turns_of (chased.probing ++ chased.last ∷ [])) = ap (λ (xs : List TurnAt). in_all count (turns_of xs)) chased.turns_are in
      let last : count chased.last.turn.part ≡ count part = ap (λ (x : Turn). count x.part) chased.last_is in
      omega (arith, whole, all_more count chased.probing (chased.last ∷ []), all_one count chased.last.turn [], last)

  chased_all : (count : Part → ℕ) → ((e : ℕ) (seen : Seen) → count (parts.Bucket (Evict e seen)) ≡ 0) → in_all count (turns_of turns) ≡ count part
  chased_all count none = omega (arith, split_up count, chased_none count none shape _ _ _ chased.chase)

  chased_removes : evictions (turns_of turns) ≡ count_by try_removed (probes_of part) + one (is_eviction part)
  chased_removes = omega (arith, split_up (λ part. one (is_eviction part)), chased_evicts shape _ _ _ chased.chase)

  chased_allowed : AreLegalAt shape cpu turns → IsLegal shape lock chased.last.earlier × Allows shape cpu part (content shape lock chased.last.earlier)
  chased_allowed legal =
      let here : AreLegalAt shape cpu (chased.last ∷ []) = (legal_parts shape cpu chased.probing (chased.last ∷ []) (subst (AreLegalAt shape cpu) chased.turns_are legal)).1 in
      subst (λ (turn : Turn). IsLegal shape turn.lock chased.last.earlier × Allows shape cpu turn.part (content shape turn.lock chased.last.earlier)) chased.last_is here.0

no_moves : (e : ℕ) (seen : Seen) → part_moves (parts.Bucket (Evict e seen)) ≡ 0
no_moves e seen = refl

no_looks : (e : ℕ) (seen : Seen) → one (is_list_part (parts.Bucket (Evict e seen))) ≡ 0
no_looks e seen = refl

no_flushes : (e : ℕ) (seen : Seen) → part_flushes (parts.Bucket (Evict e seen)) ≡ 0
no_flushes e seen = refl

-- Shrinks

few_moved : (looks : List Look) → count_by look_moves looks ≤ length looks
few_moved looks = count_by-le-length look_moves looks

shrink_few : (scans target : ℕ) (lists : _) (note : ShrinkNote) → IsShrink scans target lists note.looks note.forced → shrink_moves (Some note) ≤ scans + 1
shrink_few scans target lists note is =
    omega (arith, few_moved note.looks, few_looks scans target lists note.looks is.looked, forces_one scans target lists note.looks note.forced is)

-- what an element that may be there counts for
one_at_most : (got : Option ℕ) → one_where got ≤ 1
one_at_most None = omega arith
one_at_most (Some e) = omega arith

-- An own turn

own_shrink_few : (shrink : Option ShrinkNote) (set : _) → Rattle.place_words.specs.Sets.AllowsOwnShrink shrink set
    → (shrink_moves shrink ≤ 5) × (count_by try_removed (shrink_probes shrink) ≤ 4)
own_shrink_few None set allowed = (omega arith, omega arith)
own_shrink_few (Some note) set allowed = (
  shrink_few own_scans own_target set.lists note allowed.2,
  omega (arith, walks_remove note.looks note.forced, shrink_removes own_scans own_target set.lists note.looks note.forced (omega arith) allowed.2),
)

module _ (shape : Shape) (cpu hash : ℕ) (active inactive : List Visit) (shrink : Option ShrinkNote) (got : Option ℕ) where
  own_few : (content : Content) → Allows shape cpu (parts.Own (own.Turn hash active inactive shrink got)) content
      → (part_moves (parts.Own (own.Turn hash active inactive shrink got)) ≤ 14) × (count_by try_removed (shrink_probes shrink) ≤ 4)
  own_few (in_bucket bodies) allowed = absurd allowed
  own_few (on_freelist stack) allowed = absurd allowed
  own_few (in_locals lists) allowed = absurd allowed
  own_few (in_global set) allowed = absurd allowed
  own_few (in_own set) allowed =
      let visits = few_visits own_scans set.lists active inactive allowed.0 in
      let set_ones = count_by-le-length (λ (visit : Visit). visit.bit) inactive in
      let shrinks = own_shrink_few shrink (rotated_set own_scans active inactive set) allowed.1 in
      (omega (arith, visits.0, visits.1, set_ones, shrinks.0, one_at_most got), shrinks.1)

-- A global turn, and the refill around it

global_shrink_few : (moved : ℕ) (shrink : Option ShrinkNote) (lists : _) → moved ≤ 128 → AllowsGlobalShrink moved shrink lists
    → (moved + shrink_moves shrink ≤ 256) × (shrink_moves shrink ≤ 129) × (count_by try_removed (shrink_probes shrink) ≤ 128)
    × (count_by try_removed (shrink_probes shrink) ≡ length (freed_by shrink))
global_shrink_few moved None lists most allowed = (omega arith, omega arith, omega arith, refl)
global_shrink_few moved (Some note) lists most allowed =
    let few = shrink_few global_scans note.target lists note allowed.2 in
    let removes = shrink_removes global_scans note.target lists note.looks note.forced (omega (arith, allowed.0, allowed.1)) allowed.2 in
    let probes = walks_remove note.looks note.forced in (
      omega (arith, few, allowed.0),
      few,
      omega (arith, probes, removes, allowed.1),
      omega (arith, probes, freed_count note.looks note.forced),
    )

module _ (shape : Shape) (cpu : ℕ) (flushed : List Flush) (active inactive : List Visit) (free : List ℕ) (shrink : Option ShrinkNote) where
  global_few : (content : Content) → Allows shape cpu (parts.Global (global.Turn flushed active inactive free shrink)) content
      → (part_moves (parts.Global (global.Turn flushed active inactive free shrink)) ≤ length flushed + 512)
      × (part_moves (parts.Global (global.Turn flushed active inactive free shrink)) ≤ length flushed + (length free + 385))
      × (count_by try_removed (shrink_probes shrink) ≤ 128) × (count_by try_removed (shrink_probes shrink) ≡ length (freed_by shrink))
  global_few (in_bucket bodies) allowed = absurd allowed
  global_few (on_freelist stack) allowed = absurd allowed
  global_few (in_locals lists) allowed = absurd allowed
  global_few (in_own set) allowed = absurd allowed
  global_few (in_global set) allowed =
      let visits = few_visits global_scans (with_flushed flushed set).lists active inactive allowed.1 in
      let set_ones = count_by-le-length (λ (visit : Visit). visit.bit) inactive in
      let moved : length free ≤ 128 = omega (arith, ap (length {A = ℕ}) allowed.2, length-take global_target set.free) in
      let shrinks = global_shrink_few (length free) shrink _ moved allowed.3 in (
        omega (arith, visits.0, visits.1, set_ones, shrinks.0),
        omega (arith, visits.0, visits.1, set_ones, shrinks.1),
        shrinks.2,
        shrinks.3,
      )

none_last : (xs : List ℕ) → slice_get xs 0 ≡ None → length xs ≡ 0
none_last [] none = refl
none_last (x ∷ xs) none = absurd (none-some x (sym none))

local_refilled : (shape : Shape) (cpu hash : ℕ) (flushed : List Visit) (gained : List ℕ) (content : Content)
    → Allows shape cpu (parts.Local (local.Refill hash flushed gained None)) content → length gained ≡ 0
local_refilled shape cpu hash flushed gained (in_bucket bodies) allowed = absurd allowed
local_refilled shape cpu hash flushed gained (on_freelist stack) allowed = absurd allowed
local_refilled shape cpu hash flushed gained (in_global set) allowed = absurd allowed
local_refilled shape cpu hash flushed gained (in_own set) allowed = absurd allowed
local_refilled shape cpu hash flushed gained (in_locals lists) allowed =
    omega (arith, none_last (reverse gained) (sym allowed.2), length-reverse gained)

module _ (shape : Shape) (cpu hash : ℕ) (lists : LocalLists) (gave : Option ℕ) (turns : List TurnAt) (refills : Refills shape cpu hash lists gave turns) (legal : AreLegalAt shape cpu turns) where
  abbrev inner_part : Part
  inner_part = parts.Global (global.Turn refills.flushed refills.active refills.inactive refills.free refills.shrink)

  abbrev outer_part : Part
  outer_part = parts.Local (local.Refill hash (map Rattle.place_words.specs.Globals.flush_visit refills.flushed) (refills.free ++ freed_by refills.shrink) gave)

  refill_split : (count : Part → ℕ) → in_all count (turns_of turns) ≡ in_all count (turns_of refills.inner) + count outer_part
  refill_split count =
      let whole : in_all count (turns_of turns) ≡ in_all count (turns_of (refills.inner ++ refills.last ∷ [])) = ap (λ (xs : List TurnAt). in_all count (turns_of xs)) refills.turns_are in
      let last : count refills.last.turn.part ≡ count outer_part = ap (λ (x : Turn). count x.part) refills.last_is in
      omega (arith, whole, all_more count refills.inner (refills.last ∷ []), all_one count refills.last.turn [], last)

  both_legal : AreLegalAt shape cpu refills.inner × AreLegalAt shape cpu (refills.last ∷ [])
  both_legal = legal_parts shape cpu refills.inner (refills.last ∷ []) (subst (AreLegalAt shape cpu) refills.turns_are legal)

  inner_few : (part_moves inner_part ≤ length refills.flushed + 512) × (part_moves inner_part ≤ length refills.flushed + (length refills.free + 385))
      × (count_by try_removed (shrink_probes refills.shrink) ≤ 128) × (count_by try_removed (shrink_probes refills.shrink) ≡ length (freed_by refills.shrink))
  inner_few = global_few shape cpu refills.flushed refills.active refills.inactive refills.free refills.shrink _
      (chased_allowed shape cpu Global inner_part refills.inner refills.chased both_legal.0).1

  refill_moves : moves (turns_of turns) ≡ part_moves inner_part + one_where gave
  refill_moves = omega (arith, refill_split part_moves, chased_all shape cpu Global inner_part refills.inner refills.chased part_moves no_moves)

  refill_flushes : flushes (turns_of turns) ≡ length refills.flushed
  refill_flushes = omega (arith, refill_split part_flushes, chased_all shape cpu Global inner_part refills.inner refills.chased part_flushes no_flushes)

  refill_looks : looks (turns_of turns) ≡ 2
  refill_looks =
      omega (arith, refill_split (λ part. one (is_list_part part)), chased_all shape cpu Global inner_part refills.inner refills.chased (λ part. one (is_list_part part)) no_looks)

  refill_evicts : evictions (turns_of turns) ≡ count_by try_removed (shrink_probes refills.shrink)
  refill_evicts = omega (arith, refill_split (λ part. one (is_eviction part)), chased_removes shape cpu Global inner_part refills.inner refills.chased)

  refill_few : (moves (turns_of turns) ≤ flushes (turns_of turns) + 513) × (evictions (turns_of turns) ≤ 128)
  refill_few = (omega (arith, refill_moves, refill_flushes, inner_few.0, one_at_most gave), omega (arith, refill_evicts, inner_few.2))

  last_allowed : IsLegalAt shape cpu refills.last
  last_allowed = both_legal.1.0

  got_none : gave ≡ None → length (refills.free ++ freed_by refills.shrink) ≡ 0
  got_none none =
      let at : Allows shape cpu outer_part (content shape refills.last.turn.lock refills.last.earlier) =
      subst (λ (turn : Turn). Allows shape cpu turn.part (content shape refills.last.turn.lock refills.last.earlier)) refills.last_is last_allowed.1 in
      local_refilled shape cpu hash _ _ (content shape refills.last.turn.lock refills.last.earlier)
      (subst (λ (got : Option ℕ). Allows shape cpu (parts.Local (local.Refill hash (map Rattle.place_words.specs.Globals.flush_visit refills.flushed) (refills.free ++ freed_by refills.shrink) got)) (content shape refills.last.turn.lock refills.last.earlier)) none at)

  refill_none : gave ≡ None → (moves (turns_of turns) ≤ flushes (turns_of turns) + 385) × (evictions (turns_of turns) ≡ 0)
  refill_none none =
      let empty = got_none none in
      let parts_empty = length-append refills.free (freed_by refills.shrink) in
      let no_got : one_where gave ≡ 0 = ap one_where none in (
        omega (arith, refill_moves, refill_flushes, inner_few.1, empty, parts_empty, no_got),
        omega (arith, refill_evicts, inner_few.3, empty, parts_empty),
      )

-- The CPU at which a theft starts is one of the map's

StealsWithin : ℕ → Content → Type 0
StealsWithin cpus content = MatchOption (locals_in content) (Unit {0}) (λ lists. lists.steal < cpus)

local_within : (cpus : ℕ) (shape : Shape) (part : LocalPart) (lists : LocalLists) → shape.cpus ≡ cpus → AllowsOnLocal shape part lists → lists.steal < cpus → (local_after part lists).steal < cpus
unfolding local_after
local_within cpus shape (local.Pop hash e) lists same allowed below = below
local_within cpus shape (local.Refill hash flushed gained got) lists same allowed below = below
local_within cpus shape (local.Steal (Free e) first second) lists same allowed below = below
local_within cpus shape (local.Steal (Pending e) first second) lists same allowed below = below
local_within cpus shape (local.Steal Nothing first second) lists same allowed below = below
local_within cpus shape (local.Add hash e cursor) lists same allowed below = omega (arith, allowed.2, same)
local_within cpus shape (local.Push e true) lists same allowed below = below
local_within cpus shape (local.Push e false) lists same allowed below = below

after_within : (shape : Shape) (cpu : ℕ) (part : Part) (content : Content) → Allows shape cpu part content → StealsWithin shape.cpus content → StealsWithin shape.cpus (content_after shape cpu part content)
unfolding StealsWithin
after_within shape cpu (parts.Bucket part) (in_bucket bodies) allowed below = tt
after_within shape cpu (parts.Bucket part) (on_freelist stack) allowed below = tt
after_within shape cpu (parts.Bucket part) (in_locals lists) allowed below = below
after_within shape cpu (parts.Bucket part) (in_global set) allowed below = tt
after_within shape cpu (parts.Bucket part) (in_own set) allowed below = tt
after_within shape cpu (parts.Free part) (in_bucket bodies) allowed below = tt
after_within shape cpu (parts.Free part) (on_freelist stack) allowed below = tt
after_within shape cpu (parts.Free part) (in_locals lists) allowed below = below
after_within shape cpu (parts.Free part) (in_global set) allowed below = tt
after_within shape cpu (parts.Free part) (in_own set) allowed below = tt
after_within shape cpu (parts.Local part) (in_bucket bodies) allowed below = tt
after_within shape cpu (parts.Local part) (on_freelist stack) allowed below = tt
after_within shape cpu (parts.Local part) (in_locals lists) allowed below = local_within shape.cpus shape part lists refl allowed below
after_within shape cpu (parts.Local part) (in_global set) allowed below = tt
after_within shape cpu (parts.Local part) (in_own set) allowed below = tt
after_within shape cpu (parts.Global part) (in_bucket bodies) allowed below = tt
after_within shape cpu (parts.Global part) (on_freelist stack) allowed below = tt
after_within shape cpu (parts.Global part) (in_locals lists) allowed below = below
after_within shape cpu (parts.Global part) (in_global set) allowed below = tt
after_within shape cpu (parts.Global part) (in_own set) allowed below = tt
after_within shape cpu (parts.Own part) (in_bucket bodies) allowed below = tt
after_within shape cpu (parts.Own part) (on_freelist stack) allowed below = tt
after_within shape cpu (parts.Own part) (in_locals lists) allowed below = below
after_within shape cpu (parts.Own part) (in_global set) allowed below = tt
after_within shape cpu (parts.Own part) (in_own set) allowed below = tt

replay_within : (shape : Shape) (content : Content) (entries : List Entry) → AllAllowed shape content entries → StealsWithin shape.cpus content → StealsWithin shape.cpus (replayed shape content entries)
unfolding replayed AllAllowed
replay_within shape content [] allowed below = below
replay_within shape content (entry ∷ entries) allowed below =
    replay_within shape (content_after shape entry.cpu entry.part content) entries allowed.1 (after_within shape entry.cpu entry.part content allowed.0 below)

pub cursor_within : (shape : Shape) (cpu : ℕ) (entries : List Entry) (lists : LocalLists) → cpu < shape.cpus → IsLegal shape (Local cpu) entries → content shape (Local cpu) entries ≡ in_locals lists → lists.steal < shape.cpus
unfolding StealsWithin
cursor_within shape cpu entries lists below legal is = subst (StealsWithin shape.cpus) is (replay_within shape _ entries legal below)

-- Thefts

steal_probes : (stolen : Stolen) (first : List Look) (second : List Try) (shape : Shape) (cpu : ℕ) (content : Content) → Allows shape cpu (parts.Local (local.Steal stolen first second)) content
    → count_by try_removed (probes_of (parts.Local (local.Steal stolen first second))) ≤ one_where (stolen_element stolen)
steal_probes stolen first second shape cpu (in_bucket bodies) allowed = absurd allowed
steal_probes stolen first second shape cpu (on_freelist stack) allowed = absurd allowed
steal_probes stolen first second shape cpu (in_global set) allowed = absurd allowed
steal_probes stolen first second shape cpu (in_own set) allowed = absurd allowed
steal_probes (Free e) first second shape cpu (in_locals lists) allowed =
    let none : count_by look_removed first ≡ 0 = ap (count_by look_removed) allowed.1 in
    let none_too : count_by try_removed second ≡ 0 = ap (count_by try_removed) allowed.2 in
    omega (arith, walks_remove first second, none, none_too)
steal_probes (Pending e) first second shape cpu (in_locals lists) allowed = omega (arith, walks_remove first second, freed_count first second, ap (length {A = ℕ}) allowed.1)
steal_probes Nothing first second shape cpu (in_locals lists) allowed = omega (arith, walks_remove first second, freed_count first second, ap (length {A = ℕ}) allowed.1)

AtMost : ℕ → ℕ → ℕ → List TurnAt → Type 0
AtMost m l v turns = (moves (turns_of turns) ≤ m) × (looks (turns_of turns) ≤ l) × (evictions (turns_of turns) ≤ v)

one_turn : (count : Part → ℕ) (turns : List TurnAt) (turn : Turn) → turns_of turns ≡ turn ∷ [] → in_all count (turns_of turns) ≡ count turn.part
one_turn count turns turn are = ap (in_all count) are ∙ omega (arith, all_one count turn [])

-- one theft, and what follows it
then_others : (one_got : Option ℕ) (tried rest : List TurnAt) (n : ℕ) (Later : Type 0) (Home : ℕ → Type 0) → MatchOption one_got Later Home
    → (Later → AtMost 2 (n + 1) 1 rest) → ((e : ℕ) → Home e → AtMost 1 1 0 rest)
    → moves (turns_of tried) ≡ one_where one_got → looks (turns_of tried) ≡ 1 → evictions (turns_of tried) ≤ one_where one_got → AtMost 2 (n + 2) 1 (tried ++ rest)
unfolding AtMost
then_others None tried rest n Later Home goes_on later home tried_moves tried_looks tried_evicts =
    let few = later goes_on in (
      omega (arith, all_more part_moves tried rest, tried_moves, few.0),
      omega (arith, all_more (λ part. one (is_list_part part)) tried rest, tried_looks, few.1),
      omega (arith, all_more (λ part. one (is_eviction part)) tried rest, tried_evicts, few.2),
    )
then_others (Some e) tried rest n Later Home goes_on later home tried_moves tried_looks tried_evicts =
    let few = home e goes_on in (
      omega (arith, all_more part_moves tried rest, tried_moves, few.0),
      omega (arith, all_more (λ part. one (is_list_part part)) tried rest, tried_looks, few.1),
      omega (arith, all_more (λ part. one (is_eviction part)) tried rest, tried_evicts, few.2),
    )

home_few : (shape : Shape) (cpu hash from e : ℕ) (rest : List TurnAt) → turns_of rest ≡ brings_home shape cpu hash from e ∷ [] → AtMost 1 1 0 rest
unfolding AtMost
home_few shape cpu hash from e rest are =
    let turn : Turn = brings_home shape cpu hash from e in (
      omega (arith, one_turn part_moves rest turn are),
      omega (arith, one_turn (λ part. one (is_list_part part)) rest turn are),
      omega (arith, one_turn (λ part. one (is_eviction part)) rest turn are),
    )

steals_few : (shape : Shape) (cpu hash : ℕ) (cpus : List ℕ) (got : Option ℕ) (turns : List TurnAt) → Steals shape cpu hash cpus got turns → AreLegalAt shape cpu turns → AtMost 2 (length cpus + 1) 1 turns
unfolding AtMost
steals_few shape cpu hash [] got turns steals legal = subst (AtMost 2 1 1) (sym steals.0) (omega arith, omega arith, omega arith)
steals_few shape cpu hash (from ∷ others) got turns steals legal =
    let tried : List TurnAt = steals.0 in
    let rest : List TurnAt = steals.1 in
    let stolen : Stolen = steals.2 in
    let first : List Look = steals.3 in
    let second : List Try = steals.4 in
    let part : Part = parts.Local (local.Steal stolen first second) in
    let chased : IsChased shape (Local from) part tried = steals.6 in
    let both = legal_parts shape cpu tried rest (subst (AreLegalAt shape cpu) steals.5 legal) in
    let probes = steal_probes stolen first second shape cpu (content shape (Local from) chased.last.earlier) (chased_allowed shape cpu (Local from) part tried chased both.0).1 in
    let longer : length others + 2 ≡ length (from ∷ others) + 1 = omega arith in
    subst (AtMost 2 (length (from ∷ others) + 1) 1) (sym steals.5)
    (subst (λ l. AtMost 2 l 1 (tried ++ rest)) longer
    (then_others (stolen_element stolen) tried rest (length others)
    (Steals shape cpu hash others got rest)
    (λ e. (got ≡ Some e) × (turns_of rest ≡ brings_home shape cpu hash from e ∷ []))
    steals.7
    (λ later. steals_few shape cpu hash others got rest later both.1)
    (λ e home. home_few shape cpu hash from e rest home.1)
    (chased_all shape cpu (Local from) part tried chased part_moves no_moves)
    (chased_all shape cpu (Local from) part tried chased (λ p. one (is_list_part p)) no_looks)
    (omega (arith, chased_removes shape cpu (Local from) part tried chased, probes))))

-- An element is taken

ring_length : (cpu cpus : ℕ) → cpu < cpus → length (ring cpu cpus) ≡ cpus
ring_length cpu cpus below =
    omega (arith, length-append (range_with_len cpu (cpus - cpu)) (range_with_len 0 cpu), length-range_with_len cpu (cpus - cpu), length-range_with_len 0 cpu, below)

TakesWithin : ℕ → List TurnAt → Type 0
TakesWithin cpus turns = (moves (turns_of turns) ≤ flushes (turns_of turns) + 513) × (looks (turns_of turns) ≤ cpus + 3) × (evictions (turns_of turns) ≤ 128)

pop_within : (shape : Shape) (cpu hash : ℕ) (got : Option ℕ) (turns : List TurnAt) → TakesFree cpu hash got turns → TakesWithin shape.cpus turns
unfolding TakesWithin
pop_within shape cpu hash None turns takes = absurd takes
pop_within shape cpu hash (Some e) turns takes =
    let turn : Turn = on_lock (Local cpu) (parts.Local (local.Pop hash e)) in (
      omega (arith, one_turn part_moves turns turn takes),
      omega (arith, one_turn (λ part. one (is_list_part part)) turns turn takes),
      omega (arith, one_turn (λ part. one (is_eviction part)) turns turn takes),
    )

none_after : (xs : List TurnAt) → xs ≡ [] → (moves (turns_of xs) ≡ 0) × (looks (turns_of xs) ≡ 0) × (evictions (turns_of xs) ≡ 0)
none_after xs none = subst (λ (ys : List TurnAt). (moves (turns_of ys) ≡ 0) × (looks (turns_of ys) ≡ 0) × (evictions (turns_of ys) ≡ 0)) (sym none) (refl, refl, refl)

refilled_within : (shape : Shape) (cpu hash : ℕ) (lists : LocalLists) (gave got : Option ℕ) (refilling stealing : List TurnAt) → cpu < shape.cpus
    → Refills shape cpu hash lists gave refilling → AreLegalAt shape cpu refilling → AreLegalAt shape cpu stealing → lists.steal < shape.cpus
    → MatchOption gave (Steals shape cpu hash (ring lists.steal shape.cpus) got stealing) (λ e. (stealing ≡ []) × (got ≡ Some e))
    → TakesWithin shape.cpus (refilling ++ stealing)
unfolding TakesWithin AtMost
refilled_within shape cpu hash lists None got refilling stealing below refills legal legal_too cursor steals =
    let none = refill_none shape cpu hash lists None refilling refills legal refl in
    let looked = refill_looks shape cpu hash lists None refilling refills legal in
    let few = steals_few shape cpu hash (ring lists.steal shape.cpus) got stealing steals legal_too in (
      omega (arith, all_more part_moves refilling stealing, all_more part_flushes refilling stealing, none.0, few.0),
      omega (arith, all_more (λ part. one (is_list_part part)) refilling stealing, looked, few.1, ring_length lists.steal shape.cpus cursor),
      omega (arith, all_more (λ part. one (is_eviction part)) refilling stealing, none.1, few.2),
    )
refilled_within shape cpu hash lists (Some e) got refilling stealing below refills legal legal_too cursor steals =
    let some = refill_few shape cpu hash lists (Some e) refilling refills legal in
    let looked = refill_looks shape cpu hash lists (Some e) refilling refills legal in
    let none = none_after stealing steals.0 in (
      omega (arith, all_more part_moves refilling stealing, all_more part_flushes refilling stealing, some.0, none.0),
      omega (arith, all_more (λ part. one (is_list_part part)) refilling stealing, looked, none.1),
      omega (arith, all_more (λ part. one (is_eviction part)) refilling stealing, some.1, none.2),
    )

refill_within : (shape : Shape) (cpu hash : ℕ) (got : Option ℕ) (turns : List TurnAt) → cpu < shape.cpus → TakesByRefill shape cpu hash got turns → AreLegalAt shape cpu turns → TakesWithin shape.cpus turns
refill_within shape cpu hash got turns below takes legal =
    let both = legal_parts shape cpu takes.refilling takes.stealing (subst (AreLegalAt shape cpu) takes.turns_are legal) in
    let refills = takes.refills in
    let last : AreLegalAt shape cpu (refills.last ∷ []) = (both_legal shape cpu hash takes.lists takes.gave takes.refilling refills both.0).1 in
    let lock_is : refills.last.turn.lock ≡ Local cpu = ap (λ (turn : Turn). turn.lock) refills.last_is in
    let legal_there : IsLegal shape (Local cpu) refills.last.earlier = subst (λ (lock : DomainId). IsLegal shape lock refills.last.earlier) lock_is last.0.0 in
    let found_there : content shape (Local cpu) refills.last.earlier ≡ in_locals takes.lists = subst (λ (lock : DomainId). content shape lock refills.last.earlier ≡ in_locals takes.lists) lock_is refills.found_there in
    let cursor = cursor_within shape cpu refills.last.earlier takes.lists below legal_there found_there in
    subst (TakesWithin shape.cpus) (sym takes.turns_are)
    (refilled_within shape cpu hash takes.lists takes.gave got takes.refilling takes.stealing below refills both.0 both.1 cursor takes.steals)

own_within : (shape : Shape) (cpu hash : ℕ) (got : Option ℕ) (turns : List TurnAt) → TakesOwn shape cpu hash got turns → AreLegalAt shape cpu turns → AtMost 14 1 4 turns
unfolding AtMost
own_within shape cpu hash got turns takes legal =
    let part : Part = parts.Own (own.Turn hash takes.active takes.inactive takes.shrink got) in
    let few = own_few shape cpu hash takes.active takes.inactive takes.shrink got _ (chased_allowed shape cpu (CpuLru cpu) part turns takes.chased legal).1 in (
      omega (arith, chased_all shape cpu (CpuLru cpu) part turns takes.chased part_moves no_moves, few.0),
      omega (arith, chased_all shape cpu (CpuLru cpu) part turns takes.chased (λ p. one (is_list_part p)) no_looks),
      omega (arith, chased_removes shape cpu (CpuLru cpu) part turns takes.chased, few.1),
    )

-- What is left over is freed

two_turns : (count : Part → ℕ) (first second : TurnAt) → in_all count (turns_of (first ∷ second ∷ [])) ≡ count first.turn.part + count second.turn.part
two_turns count first second = omega (arith, all_one count first.turn (second.turn ∷ []), all_one count second.turn [])

pending_few : (e : ℕ) (turns : List TurnAt) → FreesPending e turns → AtMost 1 2 0 turns
unfolding AtMost
pending_few e turns frees =
    let turn : Turn = on_lock (Local frees.on) (parts.Local (local.Push e true)) in (
      omega (arith, one_turn part_moves turns turn frees.turns_are),
      omega (arith, one_turn (λ part. one (is_list_part part)) turns turn frees.turns_are),
      omega (arith, one_turn (λ part. one (is_eviction part)) turns turn frees.turns_are),
    )

flushed_few : (e : ℕ) (turns : List TurnAt) → FreesFlushed e turns → AtMost 1 2 0 turns
unfolding AtMost
flushed_few e turns frees =
    let first : (count : Part → ℕ) → count frees.first.turn.part ≡ count (parts.Local (local.Push e false)) = λ count. ap (λ (x : Turn). count x.part) frees.first_is in
    let second : (count : Part → ℕ) → count frees.second.turn.part ≡ count (parts.Global (global.Push e)) = λ count. ap (λ (x : Turn). count x.part) frees.second_is in
    subst (AtMost 1 2 0) (sym frees.turns_are) (
      omega (arith, two_turns part_moves frees.first frees.second, first part_moves, second part_moves),
      omega (arith, two_turns (λ part. one (is_list_part part)) frees.first frees.second, first (λ part. one (is_list_part part)), second (λ part. one (is_list_part part))),
      omega (arith, two_turns (λ part. one (is_eviction part)) frees.first frees.second, first (λ part. one (is_eviction part)), second (λ part. one (is_eviction part))),
    )

one_few : (turn : Turn) (turns : List TurnAt) → turns_of turns ≡ turn ∷ [] → part_moves turn.part ≤ 1 → one (is_list_part turn.part) ≤ 1 → one (is_eviction turn.part) ≡ 0 → AtMost 1 1 0 turns
unfolding AtMost
one_few turn turns are moved looked evicted = (
  omega (arith, one_turn part_moves turns turn are, moved),
  omega (arith, one_turn (λ part. one (is_list_part part)) turns turn are, looked),
  omega (arith, one_turn (λ part. one (is_eviction part)) turns turn are, evicted),
)

more_looks : (turns : List TurnAt) → AtMost 1 1 0 turns → AtMost 1 2 0 turns
unfolding AtMost
more_looks turns few = (few.0, omega (arith, few.1), few.2)

frees_shared : (shape : Shape) (e : ℕ) (turns : List TurnAt) → shape.common ≡ true → Frees shape e turns → AtMost 1 2 0 turns
frees_shared shape e turns common frees = by_kind (chosen shape.common common frees)
  where
    Shared : Type 0
    Shared = FreesPending e turns ⊎ (FreesFlushed e turns ⊎ (turns_of turns ≡ freed_globally e ∷ []))

    chosen : (b : Bool) → b ≡ true → MatchBool b Shared (turns_of turns ≡ on_lock (CpuLru (Rattle.place_words.specs.Takings.set_of shape e)) (parts.Own (own.Push e)) ∷ []) → Shared
    chosen true is frees = frees
    chosen false is frees = absurd cc

    by_kind : Shared → AtMost 1 2 0 turns
    by_kind (inl pending) = pending_few e turns pending
    by_kind (inr (inl flushed)) = flushed_few e turns flushed
    by_kind (inr (inr are)) = more_looks turns (one_few (freed_globally e) turns are (omega arith) (omega arith) refl)

frees_own : (shape : Shape) (e : ℕ) (turns : List TurnAt) → shape.common ≡ false → Frees shape e turns → AtMost 1 1 0 turns
frees_own shape e turns common frees = one_few there turns (chosen shape.common common frees) (omega arith) (omega arith) refl
  where
    there : Turn
    there = on_lock (CpuLru (Rattle.place_words.specs.Takings.set_of shape e)) (parts.Own (own.Push e))

    chosen : (b : Bool) → b ≡ false → MatchBool b (FreesPending e turns ⊎ (FreesFlushed e turns ⊎ (turns_of turns ≡ freed_globally e ∷ []))) (turns_of turns ≡ there ∷ []) → turns_of turns ≡ there ∷ []
    chosen true is frees = absurd cc
    chosen false is frees = frees

-- An update

none_few : (m l v : ℕ) (turns : List TurnAt) → turns ≡ [] → AtMost m l v turns
unfolding AtMost
none_few m l v turns none = let all = none_after turns none in (omega (arith, all.0), omega (arith, all.1), omega (arith, all.2))

frees_one : (shape : Shape) (l : ℕ) (left : Option ℕ) (turns : List TurnAt) → FreesOne shape left turns → ((e : ℕ) → Frees shape e turns → AtMost 1 l 0 turns) → AtMost 1 l 0 turns
frees_one shape l None turns frees few = none_few 1 l 0 turns frees
frees_one shape l (Some e) turns frees few = few e frees

bucket_first : (l : ℕ) (at : TurnAt) (lock : DomainId) (part : BucketPart) (rest : List TurnAt) → at.turn ≡ on_lock lock (parts.Bucket part) → is_eviction (parts.Bucket part) ≡ false → AtMost 1 l 0 rest → AtMost 1 l 0 (at ∷ rest)
unfolding AtMost
bucket_first l at lock part rest is none few =
    let of : (count : Part → ℕ) → count at.turn.part ≡ count (parts.Bucket part) = λ count. ap (λ (x : Turn). count x.part) is in
    let evicts_none : one (is_eviction (parts.Bucket part)) ≡ 0 = ap one none in (
      omega (arith, all_one part_moves at.turn (turns_of rest), of part_moves, few.0),
      omega (arith, all_one (λ p. one (is_list_part p)) at.turn (turns_of rest), of (λ p. one (is_list_part p)), few.1),
      omega (arith, all_one (λ p. one (is_eviction p)) at.turn (turns_of rest), of (λ p. one (is_eviction p)), evicts_none, few.2),
    )

offers_few : (shape : Shape) (l : ℕ) (side : Side) (flags : ℕ) (key value : List ℕ) (e : ℕ) (turns : List TurnAt) (reply : Reply) → OffersOne shape side flags key value e turns reply
    → ((x : ℕ) (freeing : List TurnAt) → Frees shape x freeing → AtMost 1 l 0 freeing) → AtMost 1 l 0 turns
offers_few shape l side flags key value e turns reply offers few =
    subst (AtMost 1 l 0) (sym offers.turns_are)
    (bucket_first l offers.at_bucket _ _ offers.freeing offers.bucket_is refl (frees_one shape l (left_over e offers.put) offers.freeing offers.frees (λ x. few x offers.freeing)))

rest_few : (shape : Shape) (l : ℕ) (side : Side) (flags : ℕ) (key value : List ℕ) (got : Option ℕ) (rest : List TurnAt) (reply : Reply) (Nothing_else : Type 0)
    → MatchOption got ((rest ≡ []) × Nothing_else) (λ e. OffersOne shape side flags key value e rest reply)
    → ((x : ℕ) (freeing : List TurnAt) → Frees shape x freeing → AtMost 1 l 0 freeing) → AtMost 1 l 0 rest
rest_few shape l side flags key value None rest reply Nothing_else offers few = none_few 1 l 0 rest offers.0
rest_few shape l side flags key value (Some e) rest reply Nothing_else offers few = offers_few shape l side flags key value e rest reply offers few

write_few : (shape : Shape) (side : Side) (flags : ℕ) (key value : List ℕ) (turns : List TurnAt) (reply : Reply) → IsWriteTrace shape side flags key value turns reply → AtMost 1 1 0 turns
write_few shape side flags key value turns reply trace =
    one_few (on_bucket_of shape key (Update side flags key value None trace.put)) turns trace.turns_are (omega arith) (omega arith) refl

-- the three ways of an update
either_way : (percpu : Bool) (flags : ℕ) (turns : List TurnAt) (Refusal Write Offer Goal : Type 0)
    → ((2 < flags) × (turns ≡ []) × Refusal) ⊎ ((flags ≤ 2) × MatchBool (percpu && (eqb flags 2)) Write Offer)
    → (turns ≡ [] → Goal) → (Write → Goal) → (Offer → Goal) → Goal
either_way percpu flags turns Refusal Write Offer Goal (inl refused) none write offer = none refused.1
either_way percpu flags turns Refusal Write Offer Goal (inr goes) none write offer = by_test (percpu && (eqb flags 2)) goes.1
  where
    by_test : (b : Bool) → MatchBool b Write Offer → Goal
    by_test true w = write w
    by_test false o = offer o

when_true : (b : Bool) (A B : Type 0) → b ≡ true → MatchBool b A B → A
when_true true A B is a = a
when_true false A B is b = absurd cc

when_false : (b : Bool) (A B : Type 0) → b ≡ false → MatchBool b A B → B
when_false true A B is a = absurd cc
when_false false A B is b = b

takes_shared : (shape : Shape) (cpu hash : ℕ) (got : Option ℕ) (turns : List TurnAt) → shape.common ≡ true → cpu < shape.cpus → Acquires shape cpu hash got turns → AreLegalAt shape cpu turns → TakesWithin shape.cpus turns
takes_shared shape cpu hash got turns common below takes legal =
    ⊎_elim (λ pop. pop_within shape cpu hash got turns pop) (λ refill. refill_within shape cpu hash got turns below refill legal)
    (when_true shape.common _ _ common takes)

within_shared : (cpus : ℕ) (turns : List TurnAt) → AtMost 514 (cpus + 5) 128 turns → IsWithinShared cpus (turns_of turns)
unfolding AtMost
within_shared cpus turns few = record { moves_at_most = omega (arith, few.0); looks_at_most = few.1; evictions_at_most = few.2 }

within_own : (turns : List TurnAt) → AtMost 15 2 4 turns → IsWithinOwn (turns_of turns)
unfolding AtMost
within_own turns few = record { moves_at_most = few.0; looks_at_most = few.1; evictions_at_most = few.2 }

widened : (m l v m' l' v' : ℕ) (turns : List TurnAt) → AtMost m l v turns → m ≤ m' → l ≤ l' → v ≤ v' → AtMost m' l' v' turns
unfolding AtMost
widened m l v m' l' v' turns few a b c = (omega (arith, few.0, a), omega (arith, few.1, b), omega (arith, few.2, c))

offer_shared : (cpus : ℕ) (taking rest : List TurnAt) → TakesWithin cpus taking → AtMost 1 2 0 rest → IsWithinShared cpus (turns_of (taking ++ rest))
unfolding TakesWithin AtMost
offer_shared cpus taking rest taken few = record {
  moves_at_most = omega (arith, all_more part_moves taking rest, all_more part_flushes taking rest, taken.0, few.0);
  looks_at_most = omega (arith, all_more (λ p. one (is_list_part p)) taking rest, taken.1, few.1);
  evictions_at_most = omega (arith, all_more (λ p. one (is_eviction p)) taking rest, taken.2, few.2);
}

offer_own : (taking rest : List TurnAt) → AtMost 14 1 4 taking → AtMost 1 1 0 rest → AtMost 15 2 4 (taking ++ rest)
unfolding AtMost
offer_own taking rest taken few = (
  omega (arith, all_more part_moves taking rest, taken.0, few.0),
  omega (arith, all_more (λ p. one (is_list_part p)) taking rest, taken.1, few.1),
  omega (arith, all_more (λ p. one (is_eviction p)) taking rest, taken.2, few.2),
)

module _ (shape : Shape) (cpu : ℕ) (spare : Option ℕ) (side : Side) (flags : ℕ) (key value : List ℕ) (turns : List TurnAt) (reply : Reply)
    (lru : is_lru shape.kind ≡ true) (trace : IsTrace shape cpu spare (verbs.Update side flags key value) turns reply) (legal : AreLegalAt shape cpu turns) where
  evicting : IsEvictingUpdate shape cpu side flags key value turns reply
  evicting = when_true (is_lru shape.kind) _ _ lru trace

  offered_shared : shape.common ≡ true → cpu < shape.cpus → IsOfferTrace shape cpu side flags key value turns reply → IsWithinShared shape.cpus (turns_of turns)
  offered_shared common below offer =
      let both = legal_parts shape cpu offer.taking offer.rest (subst (AreLegalAt shape cpu) offer.turns_are legal) in
      subst (λ (xs : List TurnAt). IsWithinShared shape.cpus (turns_of xs)) (sym offer.turns_are)
      (offer_shared shape.cpus offer.taking offer.rest (takes_shared shape cpu _ offer.got offer.taking common below offer.takes both.0)
      (rest_few shape 2 side flags key value offer.got offer.rest reply _ offer.offers (λ x freeing frees. frees_shared shape x freeing common frees)))

  -- where the CPUs share lists
  pub update_within_shared : shape.common ≡ true → cpu < shape.cpus → IsWithinShared shape.cpus (turns_of turns)
  update_within_shared common below =
      either_way (is_percpu shape.kind) flags turns _ (IsWriteTrace shape side flags key value turns reply) (IsOfferTrace shape cpu side flags key value turns reply) (IsWithinShared shape.cpus (turns_of turns)) evicting
      (λ none. within_shared shape.cpus turns (none_few 514 (shape.cpus + 5) 128 turns none))
      (λ write. within_shared shape.cpus turns (widened 1 1 0 514 (shape.cpus + 5) 128 turns (write_few shape side flags key value turns reply write) (omega arith) (omega arith) (omega arith)))
      (λ offer. offered_shared common below offer)

  offered_own : shape.common ≡ false → IsOfferTrace shape cpu side flags key value turns reply → IsWithinOwn (turns_of turns)
  offered_own common offer =
      let both = legal_parts shape cpu offer.taking offer.rest (subst (AreLegalAt shape cpu) offer.turns_are legal) in
      let takes : TakesOwn shape cpu _ offer.got offer.taking = when_false shape.common _ _ common offer.takes in
      subst (λ (xs : List TurnAt). IsWithinOwn (turns_of xs)) (sym offer.turns_are)
      (within_own (offer.taking ++ offer.rest)
      (offer_own offer.taking offer.rest (own_within shape cpu _ offer.got offer.taking takes both.0)
      (rest_few shape 1 side flags key value offer.got offer.rest reply _ offer.offers (λ x freeing frees. frees_own shape x freeing common frees))))

  -- and where each has its own
  pub update_within_own : shape.common ≡ false → IsWithinOwn (turns_of turns)
  update_within_own common =
      either_way (is_percpu shape.kind) flags turns _ (IsWriteTrace shape side flags key value turns reply) (IsOfferTrace shape cpu side flags key value turns reply) (IsWithinOwn (turns_of turns)) evicting
      (λ none. within_own turns (none_few 15 2 4 turns none))
      (λ write. within_own turns (widened 1 1 0 15 2 4 turns (write_few shape side flags key value turns reply write) (omega arith) (omega arith) (omega arith)))
      (λ offer. offered_own common offer)
