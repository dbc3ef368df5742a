-- In serial order no probe finds its element in a CPU's hand: each takes it out of its bucket.
use Rattle.std.proofs.Common.{◌≡◌, ℕ, zero, suc, ◌-◌, Bool, true, false, cond, eqb, ltb, List, [], ◌∷◌, ◌++◌, length, take, reverse, map, refl}
use Rattle.std.specs.Prelude.{Option, None, Some, All, count_by, find, option_map, option_to_list}
use Rattle.std.specs.List.{flat_map, range_with_len}
use Rattle.std.proofs.lemmas.List.Elements.{All-nil, All-cons, All-append, All-head, All-tail}
use Rattle.map_types.specs.declared.attr.Shape.{Shape}
use Rattle.map_types.specs.declared.kind.DomainId.{DomainId}
use Rattle.map_types.specs.declared.kind.DomainId.TheVariants.{Local, Global, CpuLru, Bucket}
use Rattle.map_types.specs.declared.row.Row.{Row}
use Rattle.map_types.specs.Listed.{Listed, elements_of}
use Rattle.place_words.specs.declared.bucket_part.BucketPart.{BucketPart}
use Rattle.place_words.specs.declared.bucket_part.BucketPart.TheVariants.{Lookup, Update, Delete, Take, Next, First, Walk, Evict}
use Rattle.place_words.specs.declared.history.Part.{Part}
use Rattle.place_words.specs.declared.history.Part.TheVariants as parts
use Rattle.place_words.specs.declared.list_part.GlobalPart.{GlobalPart}
use Rattle.place_words.specs.declared.list_part.LocalPart.{LocalPart}
use Rattle.place_words.specs.declared.list_part.LocalPart.TheVariants as local
use Rattle.place_words.specs.declared.list_part.OwnPart.{OwnPart}
use Rattle.place_words.specs.declared.visits.Flush.{Flush}
use Rattle.place_words.specs.declared.visits.Look.{Look}
use Rattle.place_words.specs.declared.visits.ShrinkNote.{ShrinkNote}
use Rattle.place_words.specs.declared.visits.Try.{Try}
use Rattle.place_words.specs.Choices.{without_bits, active_visits, inactive_visits, bits_rotated, flush_of, looks_over, forced_over, forced_after, shrink_of, own_shrink, own_turn, global_shrink, global_turn, refill_of, refill_got, sparing_over, steal_of, steal_got}
use Rattle.place_words.specs.Globals.{global_scans, global_target, with_flushed, flushed_rotated}
use Rattle.place_words.specs.Locals.{LocalLists}
use Rattle.place_words.specs.Logs.{State, all_turned, locals_at, globals_at, own_at, lies_in, Taking, got_or, probed, taken_own, home_or, stolen, refilled, taken_shared, acquired, freed_at, freeing}
use Rattle.place_words.specs.SerialOrder.{FindsNoneHeld}
use Rattle.place_words.specs.Sets.{ListSet, has_row, own_scans, own_target, rotated_set}
use Rattle.place_words.specs.Shrinking.{look_removed, try_removed, after_looks, forced_rows}
use Rattle.place_words.specs.Takings.{look_probes, walk_probes, shrink_probes, probes_of, stored_hash, evicts, listed_rows, rows_brought, brings_home, set_of}
use Rattle.place_words.specs.Turns.{Turn, ring, on_lock, on_bucket_of}
use Rattle.place_words.proofs.EachTurn.{IsOfCall, IsOfWalk, TurnLaw}

abbrev Took : Try → Type 0
Took probe = try_removed probe ≡ true

abbrev TookAll : List Try → Type 0
TookAll probes = All (λ (probe : Try). try_removed probe ≡ true) probes

-- Walks

look_more : (bit : Bool) (row : Row) (set_rest unset_rest : List Look) → TookAll (flat_map look_probes set_rest) → TookAll (flat_map look_probes unset_rest)
    → TookAll (flat_map look_probes (cond bit ((record { element = row.element; bit = true; probed = None }) ∷ set_rest) ((record { element = row.element; bit = false; probed = Some Rattle.place_words.specs.declared.bucket_part.Seen.TheVariants.Removed }) ∷ unset_rest)))
look_more true row set_rest unset_rest after_set after_unset = after_set
look_more false row set_rest unset_rest after_set after_unset = All-cons Took _ (flat_map look_probes unset_rest) refl after_unset

looks_took : (bits : ℕ → Bool) (scans target : ℕ) (rows : List Row) → TookAll (flat_map look_probes (looks_over bits scans target rows))
looks_took bits scans target [] = All-nil Took
looks_took bits zero target (row ∷ rows) = All-nil Took
looks_took bits (suc scans) zero (row ∷ rows) = All-nil Took
looks_took bits (suc scans) (suc target) (row ∷ rows) = look_more (bits row.element) row _ _ (looks_took bits scans (suc target) rows) (looks_took bits scans target rows)

sparing_took : (bits : ℕ → Bool) (rows : List Row) → TookAll (flat_map look_probes (sparing_over bits rows))
sparing_took bits [] = All-nil Took
sparing_took bits (row ∷ rows) = look_more (bits row.element) row _ [] (sparing_took bits rows) (All-nil Took)

forced_took : (rows : List Row) → TookAll (forced_over rows)
forced_took [] = All-nil Took
forced_took (row ∷ rows) = All-cons Took _ [] refl (All-nil Took)

after_took : (looks : List Look) (rows : List Row) → TookAll (forced_after looks rows)
after_took looks rows = by (eqb (count_by look_removed looks) 0)
  where
    by : (none : Bool) → TookAll (cond none (forced_over rows) [])
    by true = forced_took rows
    by false = All-nil Took

walk_took : (looks : List Look) (rows : List Row) → TookAll (flat_map look_probes looks) → TookAll (walk_probes looks (forced_after looks rows))
walk_took looks rows took = All-append Took (flat_map look_probes looks) (forced_after looks rows) took (after_took looks rows)

shrink_took : (scans target : ℕ) (bits : ℕ → Bool) (lists : Listed) → TookAll (shrink_probes (Some (shrink_of scans target bits lists)))
unfolding shrink_of
shrink_took scans target bits lists =
    walk_took (looks_over bits scans target (reverse lists.inactive)) (reverse (forced_rows (after_looks lists (looks_over bits scans target (reverse lists.inactive))))) (looks_took bits scans target (reverse lists.inactive))

shrink_where : (b : Bool) (note : ShrinkNote) → TookAll (shrink_probes (Some note)) → TookAll (shrink_probes (cond b (Some note) None))
shrink_where true note took = took
shrink_where false note took = All-nil Took

own_shrink_took : (bits : ℕ → Bool) (set : ListSet) → TookAll (shrink_probes (own_shrink bits set))
own_shrink_took bits set = shrink_where (eqb (length set.free) 0) (shrink_of own_scans own_target bits set.lists) (shrink_took own_scans own_target bits set.lists)

global_shrink_took : (moved : ℕ) (bits : ℕ → Bool) (lists : Listed) → TookAll (shrink_probes (global_shrink moved bits lists))
global_shrink_took moved bits lists =
    shrink_where (ltb moved global_target) (shrink_of global_scans (global_target - moved) bits lists) (shrink_took global_scans (global_target - moved) bits lists)

own_took : (key_hash : ℕ) (bits : ℕ → Bool) (set : ListSet) → TookAll (probes_of (parts.Own (own_turn key_hash bits set)))
unfolding own_turn
own_took key_hash bits set =
    own_shrink_took (bits_rotated own_scans bits set.lists) (rotated_set own_scans (active_visits own_scans bits set.lists) (inactive_visits own_scans bits set.lists) set)

global_took : (bits : ℕ → Bool) (pending : List Row) (set : ListSet) → TookAll (probes_of (parts.Global (global_turn bits pending set)))
unfolding global_turn
global_took bits pending set =
    let flushed : List Flush = map (flush_of bits) (reverse pending) in
    let now : Listed = (with_flushed flushed set).lists in
    let left : ℕ → Bool = without_bits (elements_of pending) bits in
    global_shrink_took (length (take global_target set.free)) (bits_rotated global_scans left now)
    (flushed_rotated flushed (active_visits global_scans left now) (inactive_visits global_scans left now) set).lists

steal_took : (bits : ℕ → Bool) (free : List ℕ) (pending : List Row) → TookAll (probes_of (parts.Local (steal_of bits free pending)))
steal_took bits (e ∷ free) pending = All-nil Took
steal_took bits [] pending = walk_took (sparing_over bits (reverse pending)) (reverse pending) (sparing_took bits (reverse pending))

refill_took : (key_hash : ℕ) (inner : GlobalPart) → TookAll (probes_of (parts.Local (refill_of key_hash inner)))
refill_took key_hash (Rattle.place_words.specs.declared.list_part.GlobalPart.TheVariants.Turn flushed active inactive free shrink) = All-nil Took
refill_took key_hash (Rattle.place_words.specs.declared.list_part.GlobalPart.TheVariants.Push e) = All-nil Took

-- Turns

abbrev pub IsFine : Turn → Type 0
IsFine turn = FindsNoneHeld turn.part

abbrev pub AreFine : List Turn → Type 0
AreFine turns = All (λ (turn : Turn). FindsNoneHeld turn.part) turns

one_fine : (turn : Turn) → FindsNoneHeld turn.part → AreFine (turn ∷ [])
one_fine turn fine = All-cons IsFine turn [] fine (All-nil IsFine)

module _ (shape : Shape) (cpu number : ℕ) where
  evicted_fine : (probe : Try) (hash : Option ℕ) → try_removed probe ≡ true → AreFine (option_to_list (option_map (evicts shape probe) hash))
  evicted_fine probe None took = All-nil IsFine
  evicted_fine probe (Some hash) took = one_fine (evicts shape probe hash) (All-cons Took _ [] took (All-nil Took))

  chased_fine : (rows : List Row) (probes : List Try) → TookAll probes → AreFine (flat_map (λ (probe : Try). option_to_list (option_map (evicts shape probe) (stored_hash probe.element rows))) probes)
  chased_fine rows [] took = All-nil IsFine
  chased_fine rows (probe ∷ probes) took =
      All-append IsFine (option_to_list (option_map (evicts shape probe) (stored_hash probe.element rows))) _
      (evicted_fine probe (stored_hash probe.element rows) (All-head Took probe probes took))
      (chased_fine rows probes (All-tail Took probe probes took))

  probed_fine : (state : State) (lock : DomainId) (part : Part) → TookAll (probes_of part) → FindsNoneHeld part → AreFine (probed shape state lock part)
  probed_fine state lock part took fine =
      All-append IsFine _ (on_lock lock part ∷ []) (chased_fine (rows_brought part ++ listed_rows (lies_in shape state lock)) (probes_of part) took) (one_fine (on_lock lock part) fine)

  own_fine : (key_hash : ℕ) (state : State) → AreFine (taken_own shape cpu key_hash state).turns
  unfolding taken_own
  own_fine key_hash state =
      let took = own_took key_hash state.bits (own_at shape state cpu) in
      probed_fine state (CpuLru cpu) (parts.Own (own_turn key_hash state.bits (own_at shape state cpu))) took took

  stolen_fine : (key_hash : ℕ) (state : State) (cpus : List ℕ) → AreFine (stolen shape cpu key_hash state cpus).turns
  stolen_fine key_hash state [] = All-nil IsFine
  stolen_fine key_hash state (from ∷ others) =
      let lists : LocalLists = locals_at shape state from in
      let part : LocalPart = steal_of state.bits lists.free lists.pending in
      let took = steal_took state.bits lists.free lists.pending in
      All-append IsFine (probed shape state (Local from) (parts.Local part)) _ (probed_fine state (Local from) (parts.Local part) took took) (home from (steal_got part) (stolen shape cpu key_hash state others) (stolen_fine key_hash state others))
    where
      home : (from : ℕ) (got : Option ℕ) (later : Taking) → AreFine later.turns → AreFine (home_or shape cpu key_hash from got later).turns
      home from None later rest = rest
      home from (Some e) later rest = one_fine (brings_home shape cpu key_hash from e) (All-nil Took)

  refilled_fine : (key_hash : ℕ) (state : State) (lists : LocalLists) → AreFine (refilled shape cpu number key_hash state lists).turns
  unfolding refilled
  refilled_fine key_hash state lists =
      let inner : GlobalPart = global_turn state.bits lists.pending (globals_at shape state) in
      let refill : LocalPart = refill_of key_hash inner in
      let took = global_took state.bits lists.pending (globals_at shape state) in
      let first : AreFine (probed shape state Global (parts.Global inner)) = probed_fine state Global (parts.Global inner) took took in
      let turns : List Turn = probed shape state Global (parts.Global inner) ++ on_lock (Local cpu) (parts.Local refill) ∷ [] in
      All-append IsFine turns _ (All-append IsFine _ (on_lock (Local cpu) (parts.Local refill) ∷ []) first (one_fine (on_lock (Local cpu) (parts.Local refill)) (refill_took key_hash inner)))
      (later (refill_got refill) (stolen shape cpu key_hash (all_turned shape cpu number turns state) (ring lists.steal shape.cpus)) (stolen_fine key_hash (all_turned shape cpu number turns state) (ring lists.steal shape.cpus)))
    where
      later : (got : Option ℕ) (rest : Taking) → AreFine rest.turns → AreFine (got_or got rest).turns
      later None rest fine = fine
      later (Some e) rest fine = All-nil IsFine

  shared_fine : (key_hash : ℕ) (state : State) (lists : LocalLists) (free : List ℕ) → AreFine (taken_shared shape cpu number key_hash state lists free).turns
  shared_fine key_hash state lists (e ∷ free) = one_fine (on_lock (Local cpu) (parts.Local (local.Pop key_hash e))) (All-nil Took)
  shared_fine key_hash state lists [] = refilled_fine key_hash state lists

  acquired_fine : (key_hash : ℕ) (state : State) → AreFine (acquired shape cpu number key_hash state).turns
  unfolding acquired
  acquired_fine key_hash state = by shape.common
    where
      by : (common : Bool) → AreFine (cond common (taken_shared shape cpu number key_hash state (locals_at shape state cpu) (locals_at shape state cpu).free) (taken_own shape cpu key_hash state)).turns
      by true = shared_fine key_hash state (locals_at shape state cpu) (locals_at shape state cpu).free
      by false = own_fine key_hash state

  freed_fine : (e : ℕ) (home : Option ℕ) → FindsNoneHeld (freed_at e home).part
  freed_fine e None = All-nil Took
  freed_fine e (Some on) = All-nil Took

  freeing_fine : (state : State) (e : ℕ) → FindsNoneHeld (freeing shape state e).part
  unfolding freeing
  freeing_fine state e = by shape.common
    where
      by : (common : Bool) → FindsNoneHeld (cond common (freed_at e (find (λ on. has_row e (locals_at shape state on).pending) (range_with_len 0 shape.cpus))) (on_lock (CpuLru (set_of shape e)) (parts.Own (Rattle.place_words.specs.declared.list_part.OwnPart.TheVariants.Push e)))).part
      by true = freed_fine e _
      by false = All-nil Took

  call_fine : (key : List ℕ) (part : BucketPart) → IsOfCall (λ side key value. Unit {0}) key part → FindsNoneHeld (parts.Bucket part)
  call_fine of (Lookup side key got) is = All-nil Took
  call_fine of (Update side flags key value offer put) is = All-nil Took
  call_fine of (Delete key removed) is = All-nil Took
  call_fine of (Take key removed) is = All-nil Took
  call_fine of (Next key found) is = All-nil Took
  call_fine of (First key) is = All-nil Took
  call_fine of (Walk remove room result) is = All-nil Took
  call_fine of (Evict e probed) is = absurd is

  walk_fine : (part : BucketPart) → IsOfWalk part → FindsNoneHeld (parts.Bucket part)
  walk_fine (Lookup side key got) is = absurd is
  walk_fine (Update side flags key value offer put) is = absurd is
  walk_fine (Delete key removed) is = absurd is
  walk_fine (Take key removed) is = absurd is
  walk_fine (Next key found) is = absurd is
  walk_fine (First key) is = All-nil Took
  walk_fine (Walk remove room result) is = All-nil Took
  walk_fine (Evict e probed) is = absurd is

  pub fine_law : TurnLaw shape cpu number (λ side key value. Unit {0}) (λ state. Unit {0}) (λ turns. All (λ (turn : Turn). FindsNoneHeld turn.part) turns) (Unit {0})
  fine_law = record {
    none = All-nil IsFine;
    both = λ xs ys first second. All-append IsFine xs ys first second;
    keeps = λ turns fine state kept. tt;
    in_key = λ key part is. one_fine (on_bucket_of shape key part) (call_fine key part is);
    in_bucket = λ bucket within part is. one_fine (on_lock (Bucket bucket) (parts.Bucket part)) (walk_fine part is);
    pushes = λ plain e. one_fine _ (All-nil Took);
    looks = λ plain from there part. one_fine _ (All-nil Took);
    frees = λ lru state e. one_fine (freeing shape state e) (freeing_fine state e);
    takes = λ lru key_hash state kept. acquired_fine key_hash state;
    lacks = λ lru key_hash state kept is. tt;
  }
