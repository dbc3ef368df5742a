-- Where a map that evicts rests between calls in serial order, what it holds has each element on one list, and in a bucket or free.
use Rattle.std.proofs.Common.{◌≡◌, ℕ, zero, suc, ◌+◌, ◌<◌, ◌≤◌, Bool, true, false, cond, ltb, List, [], ◌∷◌, ◌++◌, length, refl, ap, ◌∙◌, sym, arith}
use Rattle.std.specs.Prelude.{Option, None, All, filter, option_to_list}
use Rattle.std.specs.List.{flat_map, range_with_len}
use Rattle.std.proofs.lemmas.Bool.{lt-ltb}
use Rattle.std.proofs.lemmas.List.{length-append}
use Rattle.std.proofs.lemmas.List.Elements.{All-nil, All-cons, All-weaker, All-filter}
use Rattle.map_types.specs.declared.attr.Shape.{Shape}
use Rattle.map_types.specs.declared.call.Call.{Call}
use Rattle.map_types.specs.declared.kind.DomainId.TheVariants.{Local, Global, CpuLru, Bucket, Freelist}
use Rattle.map_types.specs.Creation.{IsShape}
use Rattle.map_types.specs.ElementLists.{times, one}
use Rattle.map_types.specs.Kind.{is_lru}
use Rattle.map_types.specs.Shape.{HasBounds}
use Rattle.map_types.proofs.CreationLemmas.{bounds_of_shape}
use Rattle.map_types.proofs.RowLemmas.{times_append}
use Rattle.place_words.specs.declared.finals.LocalFinal.{LocalFinal}
use Rattle.place_words.specs.declared.finals.SetFinal.{SetFinal}
use Rattle.place_words.specs.Bodies.{numbers}
use Rattle.place_words.specs.Logs.{State, lies_in, new_state, run, bucket_at, freelist_at, locals_at, globals_at, own_at, final_set, final_local, where_lock, finals_of}
use Rattle.place_words.proofs.EvictingDone.{IsAtRest}
use Rattle.place_words.proofs.EvictingRuns.{new_reached, run_done}
use Rattle.place_words.proofs.ListContents.{lies_locals, lies_globals, lies_own}
use Rattle.place_words.proofs.ListSums.{list_locks, sum_over}
use Rattle.place_words.proofs.Permutes.{counts_permute, numbers_count}
use Rattle.place_words.proofs.RestCounts.{told_none, told_length, free_on, bucketed_or_free, lists_told}
use Rattle.place_words.proofs.Settled.{elements_on}
use Rattle.place_words.proofs.Supplies.{first_of_two}
use Rattle.map_report.specs.Record.{Ascend, HasListedElements, HoldsElements}

-- what is marked are some of the elements, in order
all_from : (a n : ℕ) → All (λ (e : ℕ). a ≤ e) (range_with_len a n)
all_from a zero = All-nil (λ (e : ℕ). a ≤ e)
all_from a (suc n) =
    All-cons (λ (e : ℕ). a ≤ e) a (range_with_len (a + 1) n) (omega arith)
    (All-weaker (λ (e : ℕ). a + 1 ≤ e) (λ (e : ℕ). a ≤ e) (λ e more. omega (arith, more)) (range_with_len (a + 1) n) (all_from (a + 1) n))

pub all_to : (a n : ℕ) → All (λ (e : ℕ). e < a + n) (range_with_len a n)
all_to a zero = All-nil (λ (e : ℕ). e < a + 0)
all_to a (suc n) =
    All-cons (λ (e : ℕ). e < a + suc n) a (range_with_len (a + 1) n) (omega arith)
    (All-weaker (λ (e : ℕ). e < (a + 1) + n) (λ (e : ℕ). e < a + suc n) (λ e less. omega (arith, less)) (range_with_len (a + 1) n) (all_to (a + 1) n))

pub ascends : (p : ℕ → Bool) (a n : ℕ) → Ascend (filter p (range_with_len a n))
ascends p a zero = tt
ascends p a (suc n) =
    by (p a) (All-filter p (λ (e : ℕ). a < e) (range_with_len (a + 1) n) (All-weaker (λ (e : ℕ). a + 1 ≤ e) (λ (e : ℕ). a < e) (λ e more. omega (arith, more)) (range_with_len (a + 1) n) (all_from (a + 1) n))) (ascends p (a + 1) n)
  where
    by : (here : Bool) → All (λ (e : ℕ). a < e) (filter p (range_with_len (a + 1) n)) → Ascend (filter p (range_with_len (a + 1) n)) → Ascend (cond here (a ∷ filter p (range_with_len (a + 1) n)) (filter p (range_with_len (a + 1) n)))
    by true above rest = (above, rest)
    by false above rest = rest

pub no_spares_told : (spares : ℕ → Option ℕ) (cpus : List ℕ) → ((cpu : ℕ) → spares cpu ≡ None) → flat_map (λ cpu. option_to_list (spares cpu)) cpus ≡ []
no_spares_told spares [] none = refl
no_spares_told spares (cpu ∷ cpus) none =
    ap (λ (spare : Option ℕ). option_to_list spare ++ flat_map (λ c. option_to_list (spares c)) cpus) (none cpu) ∙ no_spares_told spares cpus none

-- where each element is in a bucket or free, and on one list, by counts
module _ (shape : Shape) (lru : is_lru shape.kind ≡ true) (state : State)
    (placed : (e : ℕ) → times e (flat_map numbers (where_lock shape Bucket (bucket_at shape state) (range_with_len 0 shape.buckets))) + sum_over (free_on e) (lies_in shape state) (list_locks shape) ≡ one (ltb e shape.elements))
    (once : (e : ℕ) → sum_over (elements_on e) (lies_in shape state) (list_locks shape) ≡ one (ltb e shape.elements)) (none : flat_map (λ cpu. option_to_list (state.spares cpu)) (range_with_len 0 shape.cpus) ≡ []) where
  abbrev set_lists : List SetFinal
  set_lists =
      where_lock shape (λ (one : ℕ). Global) (λ (one : ℕ). final_set (globals_at shape state)) (range_with_len 0 1)
      ++ where_lock shape CpuLru (λ cpu. final_set (own_at shape state cpu)) (range_with_len 0 shape.cpus)

  abbrev local_lists : List LocalFinal
  local_lists = where_lock shape Local (λ cpu. final_local (locals_at shape state cpu)) (range_with_len 0 shape.cpus)

  free_told : (e : ℕ) → times e (flat_map (λ (set : SetFinal). set.free) set_lists ++ flat_map (λ (local : LocalFinal). local.free) local_lists) ≡ sum_over (free_on e) (lies_in shape state) (list_locks shape)
  free_told e =
      lists_told shape lru (lies_in shape state) (free_on e) e (λ (one : ℕ). final_set (globals_at shape state)) (λ cpu. final_set (own_at shape state cpu)) (λ cpu. final_local (locals_at shape state cpu))
      (λ (set : SetFinal). set.free) (λ (local : LocalFinal). local.free)
      (λ one. sym (ap (free_on e) (lies_globals shape state))) (λ cpu. sym (ap (free_on e) (lies_own shape state cpu))) (λ cpu. sym (ap (free_on e) (lies_locals shape state cpu)))

  all_told : (e : ℕ) → times e (flat_map (λ (set : SetFinal). set.free ++ (set.active ++ set.inactive)) set_lists ++ flat_map (λ (local : LocalFinal). local.free ++ local.pending) local_lists) ≡ sum_over (elements_on e) (lies_in shape state) (list_locks shape)
  all_told e =
      lists_told shape lru (lies_in shape state) (elements_on e) e (λ (one : ℕ). final_set (globals_at shape state)) (λ cpu. final_set (own_at shape state cpu)) (λ cpu. final_local (locals_at shape state cpu))
      (λ (set : SetFinal). set.free ++ (set.active ++ set.inactive)) (λ (local : LocalFinal). local.free ++ local.pending)
      (λ one. sym (ap (elements_on e) (lies_globals shape state))) (λ cpu. sym (ap (elements_on e) (lies_own shape state cpu))) (λ cpu. sym (ap (elements_on e) (lies_locals shape state cpu)))

  once_told : (e : ℕ) → times e (flat_map numbers (where_lock shape Bucket (bucket_at shape state) (range_with_len 0 shape.buckets)) ++ (flat_map (λ (set : SetFinal). set.free) set_lists ++ flat_map (λ (local : LocalFinal). local.free) local_lists)) ≡ one (ltb e shape.elements)
  once_told e =
      let buckets : List ℕ = flat_map numbers (where_lock shape Bucket (bucket_at shape state) (range_with_len 0 shape.buckets)) in
      let free : List ℕ = flat_map (λ (set : SetFinal). set.free) set_lists ++ flat_map (λ (local : LocalFinal). local.free) local_lists in
      omega (arith, times_append e buckets free, free_told e, placed e)

  set_count : length set_lists ≡ cond shape.common 1 shape.cpus
  set_count = by shape.common refl
    where
      by : (common : Bool) → shape.common ≡ common → length set_lists ≡ cond common 1 shape.cpus
      by true is =
          let globals = told_length shape (λ (one : ℕ). Global) (λ (one : ℕ). final_set (globals_at shape state)) 1 (λ k below. is) in
          let own : length (where_lock shape CpuLru (λ cpu. final_set (own_at shape state cpu)) (range_with_len 0 shape.cpus)) ≡ 0 = ap (length {A = SetFinal}) (told_none shape CpuLru (λ cpu. final_set (own_at shape state cpu)) (range_with_len 0 shape.cpus) (λ k. rw (lru, is) refl)) in
          omega (arith, length-append (where_lock shape (λ (one : ℕ). Global) (λ (one : ℕ). final_set (globals_at shape state)) (range_with_len 0 1)) (where_lock shape CpuLru (λ cpu. final_set (own_at shape state cpu)) (range_with_len 0 shape.cpus)), globals, own)
      by false is =
          let globals : length (where_lock shape (λ (one : ℕ). Global) (λ (one : ℕ). final_set (globals_at shape state)) (range_with_len 0 1)) ≡ 0 = ap (length {A = SetFinal}) (told_none shape (λ (one : ℕ). Global) (λ (one : ℕ). final_set (globals_at shape state)) (range_with_len 0 1) (λ k. is)) in
          let own = told_length shape CpuLru (λ cpu. final_set (own_at shape state cpu)) shape.cpus (λ k below. rw (lru, is, lt-ltb k shape.cpus below) refl) in
          omega (arith, length-append (where_lock shape (λ (one : ℕ). Global) (λ (one : ℕ). final_set (globals_at shape state)) (range_with_len 0 1)) (where_lock shape CpuLru (λ cpu. final_set (own_at shape state cpu)) (range_with_len 0 shape.cpus)), globals, own)

  local_count : length local_lists ≡ cond shape.common shape.cpus 0
  local_count = by shape.common refl
    where
      by : (common : Bool) → shape.common ≡ common → length local_lists ≡ cond common shape.cpus 0
      by true is = told_length shape Local (λ cpu. final_local (locals_at shape state cpu)) shape.cpus (λ k below. rw (is, lt-ltb k shape.cpus below) refl)
      by false is = ap (length {A = LocalFinal}) (told_none shape Local (λ cpu. final_local (locals_at shape state cpu)) (range_with_len 0 shape.cpus) (λ k. rw is refl))

  pub listed_by_counts : HasListedElements shape (finals_of shape state)
  unfolding finals_of
  listed_by_counts = record {
    buckets = told_length shape Bucket (bucket_at shape state) shape.buckets (λ k below. lt-ltb k shape.buckets below);
    no_freelists = told_none shape Freelist (freelist_at shape state) (range_with_len 0 shape.cpus) (λ k. rw lru refl);
    no_spares = none;
    sets = set_count;
    locals = local_count;
    each_once = counts_permute _ _ (λ e. numbers_count e shape.elements ∙ sym (once_told e));
    each_listed = counts_permute _ _ (λ e. numbers_count e shape.elements ∙ sym (all_told e ∙ once e));
    marked = All-filter state.bits (λ (e : ℕ). e < shape.elements) (range_with_len 0 shape.elements)
        (All-weaker (λ (e : ℕ). e < 0 + shape.elements) (λ (e : ℕ). e < shape.elements) (λ e less. omega (arith, less)) (range_with_len 0 shape.elements) (all_to 0 shape.elements));
    in_order = ascends state.bits 0 shape.elements;
  }

listed_at_rest : (shape : Shape) → HasBounds shape → is_lru shape.kind ≡ true → (state : State) → IsAtRest shape (lies_in shape state) → ((cpu : ℕ) → state.spares cpu ≡ None) → HasListedElements shape (finals_of shape state)
listed_at_rest shape bounds lru state rest_now none =
    listed_by_counts shape lru state (bucketed_or_free shape bounds state rest_now) rest_now.once (no_spares_told state.spares (range_with_len 0 shape.cpus) none)

-- what a created map that evicts holds after any run in serial order
pub run_holds : (shape : Shape) → IsShape shape → is_lru shape.kind ≡ true → (number : ℕ) (calls : List Call) → All (λ (call : Call). call.cpu < shape.cpus) calls → HoldsElements shape (finals_of shape (run shape number calls (new_state shape)))
run_holds shape created lru number calls served =
    let bounds = bounds_of_shape shape created in
    let reached = (run_done shape lru number calls (new_state shape) served (new_reached shape bounds lru)).1 in
    first_of_two (is_lru shape.kind) _ _ lru (listed_at_rest shape bounds lru (run shape number calls (new_state shape)) reached.rests reached.no_spares)
