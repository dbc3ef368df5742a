-- Each turn of a call in serial order is of a lock that the map has, so that no other lock has a log.
use Rattle.std.proofs.Common.{◌≡◌, ◌≢◌, ◌⊎◌, ℕ, suc, ◌+◌, ◌-◌, ◌<◌, Bool, true, false, not, ◌&&◌, cond, eqb, ltb, List, [], ◌∷◌, ◌++◌, refl, ap, sym, ◌∙◌, subst, arith, inl, inr}
use Rattle.std.specs.Prelude.{Option, None, Some, All, find, option_map, option_to_list, unwrap_or}
use Rattle.std.specs.List.{flat_map, range_with_len}
use Rattle.std.specs.Int.{IsPowerOfTwo}
use Rattle.std.proofs.lemmas.Bool.{cases_lt, lt-ltb, and_from, true≢false, both_ways}
use Rattle.std.proofs.lemmas.List.Elements.{All-head, All-tail}
use Rattle.map_types.specs.Creation.{IsShape}
use Rattle.map_types.specs.declared.attr.Shape.{Shape}
use Rattle.map_types.specs.declared.call.Call.{Call}
use Rattle.map_types.specs.declared.kind.DomainId.{DomainId}
use Rattle.map_types.specs.declared.kind.DomainId.TheVariants.{Local, Global, CpuLru, Freelist}
use Rattle.map_types.specs.declared.row.Row.{Row}
use Rattle.map_types.specs.ElementLists.{times}
use Rattle.map_types.specs.Kind.{is_lru}
use Rattle.map_types.proofs.CreationLemmas.{bounds_of_shape}
use Rattle.map_types.proofs.RowLemmas.{times_append}
use Rattle.key_hash.specs.Bucket.{bucket_number}
use Rattle.key_hash.specs.Jhash.{hash}
use Rattle.key_hash.proofs.Buckets.{bucket_number-lt}
use Rattle.place_words.specs.declared.history.Entry.{Entry}
use Rattle.place_words.specs.declared.history.Part.{Part}
use Rattle.place_words.specs.declared.history.Part.TheVariants as parts
use Rattle.place_words.specs.declared.list_part.GlobalPart.{GlobalPart}
use Rattle.place_words.specs.declared.list_part.GlobalPart.TheVariants as global
use Rattle.place_words.specs.declared.list_part.LocalPart.{LocalPart}
use Rattle.place_words.specs.declared.list_part.LocalPart.TheVariants as local
use Rattle.place_words.specs.declared.list_part.OwnPart.TheVariants as own
use Rattle.place_words.specs.declared.list_part.Stolen.TheVariants.{Free, Pending, Nothing}
use Rattle.place_words.specs.declared.visits.Try.{Try}
use Rattle.place_words.specs.Choices.{own_turn, global_turn, refill_of, refill_got, steal_of, steal_got}
use Rattle.place_words.specs.Histories.{Content, Allows, content, content_after, replayed, in_locals, locals_in}
use Rattle.place_words.specs.Locals.{LocalLists, new_locals, local_after}
use Rattle.place_words.specs.Locks.{is_lock, is_same_lock}
use Rattle.place_words.specs.Logs.{State, turned, all_turned, lies_in, locals_at, globals_at, own_at, Taking, got_or, probed, taken_own, home_or, stolen, refilled, taken_shared, acquired, freed_at, freeing, does, new_state, after_one, run, placed}
use Rattle.place_words.specs.SerialOrder.{AreDone}
use Rattle.place_words.specs.Sets.{has_row}
use Rattle.place_words.specs.Takings.{probes_of, stored_hash, evicts, listed_rows, rows_brought, ring_next, set_of}
use Rattle.place_words.specs.Turns.{Turn, AreLegalAt, ring, on_lock, bucket_of_key}
use Rattle.place_words.proofs.SharedGets.{found_below}
use Rattle.place_words.proofs.EachTurn.{AreWithin, first_within, others_within, range_within, TurnLaw, does_right, verb_passes}
use Rattle.place_words.proofs.HistoryLemmas.{content_more}
use Rattle.place_words.proofs.ListContents.{lies_locals}
use Rattle.place_words.proofs.LockLemmas.{one_lock}

-- Cursors: a theft starts at a CPU of the map

abbrev pub LocalCursor : Shape → LocalPart → Type 0
LocalCursor shape (local.Pop key_hash e) = Unit {0}
LocalCursor shape (local.Refill key_hash flushed gained got) = Unit {0}
LocalCursor shape (local.Steal got first second) = Unit {0}
LocalCursor shape (local.Add key_hash e cursor) = cursor < shape.cpus
LocalCursor shape (local.Push e done) = Unit {0}

abbrev pub HasCursor : Shape → Part → Type 0
HasCursor shape (parts.Bucket part) = Unit {0}
HasCursor shape (parts.Free part) = Unit {0}
HasCursor shape (parts.Local part) = LocalCursor shape part
HasCursor shape (parts.Global part) = Unit {0}
HasCursor shape (parts.Own part) = Unit {0}

local_steal : (shape : Shape) (part : LocalPart) (lists : LocalLists) → LocalCursor shape part → lists.steal < shape.cpus → (local_after part lists).steal < shape.cpus
unfolding local_after
local_steal shape (local.Pop key_hash e) lists has within = within
local_steal shape (local.Refill key_hash flushed gained got) lists has within = within
local_steal shape (local.Steal (Free e) first second) lists has within = within
local_steal shape (local.Steal (Pending e) first second) lists has within = within
local_steal shape (local.Steal Nothing first second) lists has within = within
local_steal shape (local.Add key_hash e cursor) lists has within = has
local_steal shape (local.Push e true) lists has within = within
local_steal shape (local.Push e false) lists has within = within

steal_after : (shape : Shape) (cpu : ℕ) (part : Part) (lists d : LocalLists) → HasCursor shape part → lists.steal < shape.cpus → (unwrap_or (locals_in (content_after shape cpu part (in_locals lists))) d).steal < shape.cpus
steal_after shape cpu (parts.Bucket part) lists d has within = within
steal_after shape cpu (parts.Free part) lists d has within = within
steal_after shape cpu (parts.Local part) lists d has within = local_steal shape part lists has within
steal_after shape cpu (parts.Global part) lists d has within = within
steal_after shape cpu (parts.Own part) lists d has within = within

abbrev pub StealsWithin : Shape → State → Type 0
StealsWithin shape state = (on : ℕ) → on < shape.cpus → (locals_at shape state on).steal < shape.cpus

-- a turn of a lock of the map, or one that frees an element on a list set
abbrev pub IsOurs : Shape → Turn → Type 0
IsOurs shape turn = HasCursor shape turn.part × ((is_lock shape turn.lock ≡ true) ⊎ ((on : ℕ) × (e : ℕ) × (turn ≡ on_lock (CpuLru on) (parts.Own (own.Push e)))))

abbrev pub AreOurs : Shape → List Turn → Type 0
AreOurs shape [] = Unit {0}
AreOurs shape (turn ∷ turns) = IsOurs shape turn × AreOurs shape turns

ours_both : (shape : Shape) (xs ys : List Turn) → AreOurs shape xs → AreOurs shape ys → AreOurs shape (xs ++ ys)
ours_both shape [] ys first second = second
ours_both shape (turn ∷ xs) ys first second = (first.0, ours_both shape xs ys first.1 second)

steals_turned : (shape : Shape) (cpu number : ℕ) (turn : Turn) (state : State) → HasCursor shape turn.part → StealsWithin shape state → StealsWithin shape (turned shape cpu number turn state)
steals_turned shape cpu number turn state has steals on within = by (is_same_lock turn.lock (Local on))
  where
    by : (b : Bool) → (unwrap_or (locals_in (content shape (Local on) (cond b (state.logs (Local on) ++ (record { ticket = state.next_ticket; cpu = cpu; call = number; part = turn.part }) ∷ []) (state.logs (Local on))))) (new_locals on)).steal < shape.cpus
    by true =
        let lies = content_more shape (Local on) (state.logs (Local on)) (record { ticket = state.next_ticket; cpu = cpu; call = number; part = turn.part }) ∙ ap (content_after shape cpu turn.part) (lies_locals shape state on) in
        subst (λ (here : Content). (unwrap_or (locals_in here) (new_locals on)).steal < shape.cpus) (sym lies) (steal_after shape cpu turn.part (locals_at shape state on) (new_locals on) has (steals on within))
    by false = steals on within

pub steals_stay : (shape : Shape) (cpu number : ℕ) (turns : List Turn) → AreOurs shape turns → (state : State) → StealsWithin shape state → StealsWithin shape (all_turned shape cpu number turns state)
steals_stay shape cpu number [] ours state steals = steals
steals_stay shape cpu number (turn ∷ turns) ours state steals =
    steals_stay shape cpu number turns ours.1 (turned shape cpu number turn state) (steals_turned shape cpu number turn state ours.0.0 steals)

-- The turns of a call

pub ring_within : (start cpus : ℕ) → start < cpus → AreWithin (λ cpu. cpu < cpus) (ring start cpus)
ring_within start cpus within x there =
    let joined = times_append x (range_with_len start (cpus - start)) (range_with_len 0 start) in
    elim (cases_lt 0 (times x (range_with_len start (cpus - start)))) [
      | inl first ↦ let bounds = range_within start (cpus - start) x first in omega (arith, bounds.1, within)
      | inr none ↦ let bounds = range_within 0 start x (omega (arith, joined, there, none)) in omega (arith, bounds.1, within)
    ]

next_within : (from cpus : ℕ) → from < cpus → ring_next from cpus < cpus
next_within from cpus within = by (eqb (from + 1) cpus) refl
  where
    by : (b : Bool) → eqb (from + 1) cpus ≡ b → cond b 0 (from + 1) < cpus
    by true is = omega (arith, within)
    by false is = let other : from + 1 ≢ cpus = Rattle.std.proofs.lemmas.Bool.eqb-false (from + 1) cpus is in omega (arith, within, other)

module _ (shape : Shape) (power : IsPowerOfTwo shape.buckets) (cpu number : ℕ) (within : cpu < shape.cpus) where
  local_is : (on : ℕ) → shape.common ≡ true → on < shape.cpus → is_lock shape (Local on) ≡ true
  local_is on common below = and_from shape.common (ltb on shape.cpus) common (lt-ltb on shape.cpus below)

  own_is : is_lru shape.kind ≡ true → shape.common ≡ false → is_lock shape (CpuLru cpu) ≡ true
  own_is lru apart = and_from (is_lru shape.kind && not shape.common) (ltb cpu shape.cpus) (and_from (is_lru shape.kind) (not shape.common) lru (ap not apart)) (lt-ltb cpu shape.cpus within)

  freelist_is : (from : ℕ) → is_lru shape.kind ≡ false → from < shape.cpus → is_lock shape (Freelist from) ≡ true
  freelist_is from plain below = and_from (not (is_lru shape.kind)) (ltb from shape.cpus) (ap not plain) (lt-ltb from shape.cpus below)

  evicted_ours : (probe : Try) (key_hash : Option ℕ) → AreOurs shape (option_to_list (option_map (evicts shape probe) key_hash))
  evicted_ours probe None = tt
  evicted_ours probe (Some key_hash) = ((tt, inl (lt-ltb (bucket_number key_hash shape.buckets) shape.buckets (bucket_number-lt key_hash shape.buckets power))), tt)

  chased_ours : (rows : List Row) (probes : List Try) → AreOurs shape (flat_map (λ (probe : Try). option_to_list (option_map (evicts shape probe) (stored_hash probe.element rows))) probes)
  chased_ours rows [] = tt
  chased_ours rows (probe ∷ probes) =
      ours_both shape (option_to_list (option_map (evicts shape probe) (stored_hash probe.element rows))) _ (evicted_ours probe (stored_hash probe.element rows)) (chased_ours rows probes)

  probed_ours : (state : State) (lock : DomainId) (part : Part) → is_lock shape lock ≡ true → HasCursor shape part → AreOurs shape (probed shape state lock part)
  probed_ours state lock part is has = ours_both shape _ (on_lock lock part ∷ []) (chased_ours (rows_brought part ++ listed_rows (lies_in shape state lock)) (probes_of part)) ((has, inl is), tt)

  own_ours : (key_hash : ℕ) (state : State) → is_lru shape.kind ≡ true → shape.common ≡ false → AreOurs shape (taken_own shape cpu key_hash state).turns
  unfolding taken_own
  own_ours key_hash state lru apart = probed_ours state (CpuLru cpu) (parts.Own (own_turn key_hash state.bits (own_at shape state cpu))) (own_is lru apart) tt

  module _ (common : shape.common ≡ true) where
    steal_cursor : (bits : ℕ → Bool) (free : List ℕ) (pending : List Row) → LocalCursor shape (steal_of bits free pending)
    steal_cursor bits [] pending = tt
    steal_cursor bits (e ∷ free) pending = tt

    refill_cursor : (key_hash : ℕ) (inner : GlobalPart) → LocalCursor shape (refill_of key_hash inner)
    refill_cursor key_hash (global.Turn flushed active inactive free shrink) = tt
    refill_cursor key_hash (global.Push e) = tt

    home_ours : (key_hash from : ℕ) → from < shape.cpus → (got : Option ℕ) (later : Taking) → AreOurs shape later.turns → AreOurs shape (home_or shape cpu key_hash from got later).turns
    home_ours key_hash from below None later rest = rest
    home_ours key_hash from below (Some e) later rest = ((next_within from shape.cpus below, inl (local_is cpu common within)), tt)

    stolen_ours : (key_hash : ℕ) (state : State) (cpus : List ℕ) → AreWithin (λ c. c < shape.cpus) cpus → AreOurs shape (stolen shape cpu key_hash state cpus).turns
    stolen_ours key_hash state [] below = tt
    stolen_ours key_hash state (from ∷ others) below =
        let lists : LocalLists = locals_at shape state from in
        let part : LocalPart = steal_of state.bits lists.free lists.pending in
        let here : from < shape.cpus = first_within (λ c. c < shape.cpus) from others below in
        ours_both shape (probed shape state (Local from) (parts.Local part)) _ (probed_ours state (Local from) (parts.Local part) (local_is from common here) (steal_cursor state.bits lists.free lists.pending))
        (home_ours key_hash from here (steal_got part) (stolen shape cpu key_hash state others) (stolen_ours key_hash state others (others_within (λ c. c < shape.cpus) from others below)))

    later_ours : (got : Option ℕ) (later : Taking) → AreOurs shape later.turns → AreOurs shape (got_or got later).turns
    later_ours None later rest = rest
    later_ours (Some e) later rest = tt

    refilled_ours : (key_hash : ℕ) (state : State) (lists : LocalLists) → lists.steal < shape.cpus → AreOurs shape (refilled shape cpu number key_hash state lists).turns
    unfolding refilled
    refilled_ours key_hash state lists steal =
        let inner : GlobalPart = global_turn state.bits lists.pending (globals_at shape state) in
        let refill : LocalPart = refill_of key_hash inner in
        let turns : List Turn = probed shape state Global (parts.Global inner) ++ on_lock (Local cpu) (parts.Local refill) ∷ [] in
        ours_both shape turns _
        (ours_both shape (probed shape state Global (parts.Global inner)) (on_lock (Local cpu) (parts.Local refill) ∷ []) (probed_ours state Global (parts.Global inner) common tt) ((refill_cursor key_hash inner, inl (local_is cpu common within)), tt))
        (later_ours (refill_got refill) (stolen shape cpu key_hash (all_turned shape cpu number turns state) (ring lists.steal shape.cpus))
        (stolen_ours key_hash (all_turned shape cpu number turns state) (ring lists.steal shape.cpus) (ring_within lists.steal shape.cpus steal)))

    shared_ours : (key_hash : ℕ) (state : State) (lists : LocalLists) (free : List ℕ) → lists.steal < shape.cpus → AreOurs shape (taken_shared shape cpu number key_hash state lists free).turns
    shared_ours key_hash state lists [] steal = refilled_ours key_hash state lists steal
    shared_ours key_hash state lists (e ∷ free) steal = ((tt, inl (local_is cpu common within)), tt)

    freed_ours : (e : ℕ) (home : Option ℕ) → ((on : ℕ) → home ≡ Some on → on < shape.cpus) → AreOurs shape (freed_at e home ∷ [])
    freed_ours e None below = ((tt, inl common), tt)
    freed_ours e (Some on) below = ((tt, inl (local_is on common (below on refl))), tt)

  acquired_ours : (key_hash : ℕ) (state : State) → is_lru shape.kind ≡ true → StealsWithin shape state → AreOurs shape (acquired shape cpu number key_hash state).turns
  unfolding acquired
  acquired_ours key_hash state lru steals = by shape.common refl
    where
      by : (common : Bool) → shape.common ≡ common → AreOurs shape (cond common (taken_shared shape cpu number key_hash state (locals_at shape state cpu) (locals_at shape state cpu).free) (taken_own shape cpu key_hash state)).turns
      by true common = shared_ours common key_hash state (locals_at shape state cpu) (locals_at shape state cpu).free (steals cpu within)
      by false apart = own_ours key_hash state lru apart

  freeing_ours : (state : State) (e : ℕ) → AreOurs shape (freeing shape state e ∷ [])
  unfolding freeing
  freeing_ours state e = by shape.common refl
    where
      by : (common : Bool) → shape.common ≡ common → AreOurs shape (cond common (freed_at e (find (λ on. has_row e (locals_at shape state on).pending) (range_with_len 0 shape.cpus))) (on_lock (CpuLru (set_of shape e)) (parts.Own (own.Push e))) ∷ [])
      by true common = freed_ours common e (find (λ on. has_row e (locals_at shape state on).pending) (range_with_len 0 shape.cpus)) (λ on found. omega (arith, found_below (λ c. has_row e (locals_at shape state c).pending) 0 shape.cpus on found))
      by false apart = ((tt, inr (set_of shape e, e, refl)), tt)

  pub ours_law : TurnLaw shape cpu number (λ side key value. Unit {0}) (λ state. (on : ℕ) → on < shape.cpus → (locals_at shape state on).steal < shape.cpus) (λ turns. AreOurs shape turns) (Unit {0})
  ours_law = record {
    none = tt;
    both = ours_both shape;
    keeps = steals_stay shape cpu number;
    in_key = λ key part is. ((tt, inl (lt-ltb (bucket_of_key shape key) shape.buckets (bucket_number-lt (hash key shape.seed) shape.buckets power))), tt);
    in_bucket = λ bucket below part is. ((tt, inl (lt-ltb bucket shape.buckets below)), tt);
    pushes = λ plain e. ((tt, inl (freelist_is cpu plain within)), tt);
    looks = λ plain from there part. ((tt, inl (freelist_is from plain (ring_within cpu shape.cpus within from there))), tt);
    frees = λ lru state e. freeing_ours state e;
    takes = λ lru key_hash state steals. acquired_ours key_hash state lru steals;
    lacks = λ lru key_hash state steals none. tt;
  }

-- Logs

abbrev pub HasNoOthers : Shape → State → Type 0
HasNoOthers shape state = (lock : DomainId) → is_lock shape lock ≡ false → state.logs lock ≡ []

-- nothing is freed on a set on which nothing was given out
pub never_pushed : (shape : Shape) (cpu on e : ℕ) → Allows shape cpu (parts.Own (own.Push e)) (content shape (CpuLru on) []) → ⊥
unfolding replayed
never_pushed shape cpu on e allowed = true≢false (sym allowed)

pub turned_no_others : (shape : Shape) (cpu number : ℕ) (turn : Turn) (state : State) → IsOurs shape turn → Allows shape cpu turn.part (lies_in shape state turn.lock) → HasNoOthers shape state → HasNoOthers shape (turned shape cpu number turn state)
turned_no_others shape cpu number turn state ours allowed none lock other = by (is_same_lock turn.lock lock) refl
  where
    here : turn.lock ≡ lock → (is_lock shape turn.lock ≡ true) ⊎ ((on : ℕ) × (e : ℕ) × (turn ≡ on_lock (CpuLru on) (parts.Own (own.Push e)))) → ⊥
    here same (inl is) = both_ways (is_lock shape lock) other (sym (ap (is_lock shape) same) ∙ is)
    here same (inr (on, e, is)) =
        let set : CpuLru on ≡ lock = sym (ap (λ (t : Turn). t.lock) is) ∙ same in
        let empty : state.logs (CpuLru on) ≡ [] = none (CpuLru on) (ap (is_lock shape) set ∙ other) in
        never_pushed shape cpu on e (subst (λ (entries : List Entry). Allows shape cpu (parts.Own (own.Push e)) (content shape (CpuLru on) entries)) empty (subst (λ (t : Turn). Allows shape cpu t.part (lies_in shape state t.lock)) is allowed))

    by : (b : Bool) → is_same_lock turn.lock lock ≡ b → cond b (state.logs lock ++ (record { ticket = state.next_ticket; cpu = cpu; call = number; part = turn.part }) ∷ []) (state.logs lock) ≡ []
    by true same = absurd (here (one_lock turn.lock lock same) ours.1)
    by false apart = none lock other

pub all_no_others : (shape : Shape) (cpu number : ℕ) (turns : List Turn) (state : State) → AreOurs shape turns → AreLegalAt shape cpu (placed shape cpu number turns state) → HasNoOthers shape state → HasNoOthers shape (all_turned shape cpu number turns state)
all_no_others shape cpu number [] state ours legal none = none
all_no_others shape cpu number (turn ∷ turns) state ours legal none =
    all_no_others shape cpu number turns (turned shape cpu number turn state) ours.1 legal.1 (turned_no_others shape cpu number turn state ours.0 legal.0.1 none)

run_no_others : (shape : Shape) → IsPowerOfTwo shape.buckets → (number : ℕ) (calls : List Call) (state : State) → All (λ (call : Call). call.cpu < shape.cpus) calls → AreDone shape number calls state → StealsWithin shape state → HasNoOthers shape state → HasNoOthers shape (run shape number calls state)
run_no_others shape power number [] state served done steals none = none
run_no_others shape power number (call ∷ calls) state served done steals none =
    let within : call.cpu < shape.cpus = All-head (λ (one : Call). one.cpu < shape.cpus) call calls served in
    let right = does_right (ours_law shape power call.cpu number within) state steals call.verb (verb_passes call.verb) in
    let turns : List Turn = (does shape call.cpu number state call.verb).turns in
    run_no_others shape power (suc number) calls (after_one shape number call state) (All-tail (λ (one : Call). one.cpu < shape.cpus) call calls served) done.1
    (steals_stay shape call.cpu number turns right.fits state steals) (all_no_others shape call.cpu number turns state right.fits done.0.legal none)

pub first_steals : (shape : Shape) → StealsWithin shape (new_state shape)
unfolding replayed
first_steals shape on within = within

-- no lock that the map doesn't have has a log
pub no_others : (shape : Shape) → IsShape shape → (calls : List Call) → All (λ (call : Call). call.cpu < shape.cpus) calls → AreDone shape 1 calls (new_state shape) → HasNoOthers shape (run shape 1 calls (new_state shape))
no_others shape created calls served done =
    run_no_others shape (bounds_of_shape shape created).buckets_power 1 calls (new_state shape) served done (first_steals shape) (λ lock other. refl)
