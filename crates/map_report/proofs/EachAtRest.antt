-- What a created map of any kind holds after a run in serial order: each element is in one place.
use Rattle.std.proofs.Common.{◌≡◌, ℕ, zero, suc, ◌+◌, ◌<◌, Bool, true, false, cond, not, ltb, List, [], ◌∷◌, ◌++◌, length, refl, ap, ◌∙◌, sym, arith, IsPermutation}
use Rattle.std.specs.Prelude.{Option, None, Some, All, IsSome, option_to_list}
use Rattle.std.specs.List.{concat, flat_map, range_with_len}
use Rattle.std.proofs.lemmas.Bool.{lt-ltb, and_from}
use Rattle.std.proofs.lemmas.List.{length-append}
use Rattle.std.proofs.lemmas.List.Elements.{All-weaker, All-filter}
use Rattle.std.proofs.lemmas.List.FromFn.{length-range_with_len}
use Rattle.std.proofs.lemmas.List.Sorted.{length_permutation}
use Rattle.map_types.specs.declared.attr.Shape.{Shape}
use Rattle.map_types.specs.declared.call.Call.{Call}
use Rattle.map_types.specs.declared.kind.DomainId.TheVariants.{Local, Global, CpuLru, Bucket, Freelist}
use Rattle.map_types.specs.declared.kind.MapKind.{MapKind}
use Rattle.map_types.specs.declared.kind.MapKind.TheVariants.{Hash, PercpuHash, LruHash, LruPercpuHash}
use Rattle.map_types.specs.Creation.{IsShape}
use Rattle.map_types.specs.ElementLists.{times, one}
use Rattle.map_types.specs.Kind.{is_lru}
use Rattle.map_types.specs.Shape.{HasBounds}
use Rattle.map_types.proofs.CreationLemmas.{bounds_of_shape}
use Rattle.map_types.proofs.RowLemmas.{times_append}
use Rattle.place_words.specs.declared.finals.Finals.{Finals}
use Rattle.place_words.specs.declared.finals.SetFinal.{SetFinal}
use Rattle.place_words.specs.Bodies.{numbers}
use Rattle.place_words.specs.Locks.{is_lock}
use Rattle.place_words.specs.Logs.{State, new_state, run, bucket_at, freelist_at, locals_at, globals_at, own_at, final_set, final_local, where_lock, finals_of}
use Rattle.place_words.specs.SerialOrder.{IsOrderly}
use Rattle.place_words.proofs.AnyStart.{every_run}
use Rattle.place_words.proofs.Permutes.{counts_permute, numbers_count}
use Rattle.place_words.proofs.PlainLaws.{chosen_second}
use Rattle.place_words.proofs.PlainOpening.{first_kept}
use Rattle.place_words.proofs.PlainRests.{IsKept, run_keeps}
use Rattle.place_words.proofs.RestCounts.{range_first, told_none, told_length, told_sum}
use Rattle.map_report.specs.EachOnce.{EachOnce, elements_of, in_buckets, on_freelists}
use Rattle.map_report.specs.Record.{HasElements, HoldsElements}
use Rattle.map_report.specs.Serial.{has_spares}
use Rattle.map_report.proofs.ListedAtRest.{all_to, ascends, no_spares_told, run_holds}

-- each once, by the lists alone
pub each_once_from : (n : ℕ) (lists : Finals) → IsPermutation (range_with_len 0 n) (elements_of lists) → EachOnce n lists
each_once_from n lists permutes =
    let long : length (elements_of lists) ≡ length (range_with_len 0 n) = length_permutation (range_with_len 0 n) (elements_of lists) permutes in
    let parts : length (elements_of lists) ≡ length (in_buckets lists) + length (on_freelists lists) + length lists.spares =
    length-append (in_buckets lists ++ on_freelists lists) lists.spares ∙ ap (λ k. k + length lists.spares) (length-append (in_buckets lists) (on_freelists lists)) in
    record { each = permutes; total = sym parts ∙ long ∙ length-range_with_len 0 n }

joined : (lists : List (List ℕ)) → concat lists ≡ flat_map (λ (list : List ℕ). list) lists
joined [] = refl
joined (list ∷ lists) = ap (λ (rest : List ℕ). list ++ rest) (joined lists)

-- each CPU has a spare, or none has
spare_one : (spare : Option ℕ) → IsSome spare → length (option_to_list spare) ≡ 1
spare_one None some = absurd cc
spare_one (Some e) some = refl

spares_all : (spares : ℕ → Option ℕ) (from n : ℕ) → ((cpu : ℕ) → cpu < from + n → IsSome (spares cpu)) → length (flat_map (λ cpu. option_to_list (spares cpu)) (range_with_len from n)) ≡ n
spares_all spares from zero all = refl
spares_all spares from (suc n) all =
    let rest = spares_all spares (from + 1) n (λ cpu below. all cpu (omega (arith, below))) in
    omega (arith, length-append (option_to_list (spares from)) (flat_map (λ cpu. option_to_list (spares cpu)) (range_with_len (from + 1) n)), spare_one (spares from) (all from (omega arith)), rest)

module _ (shape : Shape) (bounds : HasBounds shape) (plain : is_lru shape.kind ≡ false) (state : State) (kept : IsKept shape state) (orderly : IsOrderly shape state) where
  not_shared : (b : Bool) → shape.common ≡ b → shape.common ≡ false
  not_shared true is = absurd (Rattle.std.proofs.lemmas.Bool.both_ways (is_lru shape.kind) plain (bounds.common_evicts is))
  not_shared false is = is

  apart : shape.common ≡ false
  apart = not_shared shape.common refl

  bucket_lock : (k : ℕ) → k < shape.buckets → is_lock shape (Bucket k) ≡ true
  bucket_lock k below = lt-ltb k shape.buckets below

  freelist_lock : (k : ℕ) → k < shape.cpus → is_lock shape (Freelist k) ≡ true
  freelist_lock k below = and_from (not (is_lru shape.kind)) (ltb k shape.cpus) (ap not plain) (lt-ltb k shape.cpus below)

  abbrev buckets_told : List ℕ
  buckets_told = flat_map numbers (where_lock shape Bucket (bucket_at shape state) (range_with_len 0 shape.buckets))

  abbrev freelists_told : List ℕ
  freelists_told = concat (where_lock shape Freelist (freelist_at shape state) (range_with_len 0 shape.cpus))

  abbrev spares_told : List ℕ
  spares_told = flat_map (λ cpu. option_to_list (state.spares cpu)) (range_with_len 0 shape.cpus)

  told_once : (e : ℕ) → times e (buckets_told ++ freelists_told ++ spares_told) ≡ one (ltb e shape.elements)
  told_once e =
      let in_all = told_sum shape Bucket (bucket_at shape state) numbers shape.buckets e bucket_lock in
      let free = ap (times e) (joined (where_lock shape Freelist (freelist_at shape state) (range_with_len 0 shape.cpus)))
      ∙ told_sum shape Freelist (freelist_at shape state) (λ (list : List ℕ). list) shape.cpus e freelist_lock in
      let spares = range_first (λ cpu. times e (option_to_list (state.spares cpu))) (λ cpus. times e (flat_map (λ cpu. option_to_list (state.spares cpu)) cpus)) shape.cpus refl
      (λ cpu cpus. times_append e (option_to_list (state.spares cpu)) (flat_map (λ c. option_to_list (state.spares c)) cpus)) in
      omega (arith, times_append e (buckets_told ++ freelists_told) spares_told, times_append e buckets_told freelists_told, in_all, free, spares, kept.once e)

  no_sets_told : where_lock shape (λ (one : ℕ). Global) (λ (one : ℕ). final_set (globals_at shape state)) (range_with_len 0 1) ++ where_lock shape CpuLru (λ cpu. final_set (own_at shape state cpu)) (range_with_len 0 shape.cpus) ≡ []
  no_sets_told =
      ap (λ (xs : List SetFinal). xs ++ where_lock shape CpuLru (λ cpu. final_set (own_at shape state cpu)) (range_with_len 0 shape.cpus))
      (told_none shape (λ (one : ℕ). Global) (λ (one : ℕ). final_set (globals_at shape state)) (range_with_len 0 1) (λ k. apart))
      ∙ told_none shape CpuLru (λ cpu. final_set (own_at shape state cpu)) (range_with_len 0 shape.cpus) (λ k. rw plain refl)

  spares_are : (kind : MapKind) → is_lru kind ≡ false → shape.kind ≡ kind → length spares_told ≡ cond (has_spares kind) shape.cpus 0
  spares_are Hash is kind = spares_all state.spares 0 shape.cpus (λ cpu below. orderly.spares kind cpu (omega (arith, below)))
  spares_are PercpuHash is kind = ap (length {A = ℕ}) (no_spares_told state.spares (range_with_len 0 shape.cpus) (kept.no_spares (λ hash. no_hash (sym kind ∙ hash))))
    where
      no_hash : PercpuHash ≡ Hash → ⊥
      no_hash same = absurd cc
  spares_are LruHash is kind = absurd cc
  spares_are LruPercpuHash is kind = absurd cc

  pub each_at_rest : HasElements shape (finals_of shape state)
  unfolding finals_of
  each_at_rest = record {
    lengths = record {
      buckets = told_length shape Bucket (bucket_at shape state) shape.buckets bucket_lock;
      freelists = told_length shape Freelist (freelist_at shape state) shape.cpus freelist_lock;
      spares = spares_are shape.kind plain refl;
    };
    each_once = each_once_from shape.elements _ (counts_permute _ _ (λ e. numbers_count e shape.elements ∙ sym (told_once e)));
    no_sets = no_sets_told;
    no_locals = told_none shape Local (λ cpu. final_local (locals_at shape state cpu)) (range_with_len 0 shape.cpus) (λ k. rw apart refl);
    marked = All-filter state.bits (λ (e : ℕ). e < shape.elements) (range_with_len 0 shape.elements)
        (All-weaker (λ (e : ℕ). e < 0 + shape.elements) (λ (e : ℕ). e < shape.elements) (λ e less. omega (arith, less)) (range_with_len 0 shape.elements) (all_to 0 shape.elements));
    in_order = ascends state.bits 0 shape.elements;
  }

-- what a created map that doesn't evict holds after any run in serial order
pub run_holds_each : (shape : Shape) → IsShape shape → is_lru shape.kind ≡ false → (number : ℕ) (calls : List Call) → All (λ (call : Call). call.cpu < shape.cpus) calls → HoldsElements shape (finals_of shape (run shape number calls (new_state shape)))
run_holds_each shape created plain number calls served =
    let bounds = bounds_of_shape shape created in
    let done = every_run shape created number calls served in
    let kept = run_keeps shape bounds plain number calls (new_state shape) served done.0 (first_kept shape bounds plain) in
    chosen_second (is_lru shape.kind) _ _ plain (each_at_rest shape bounds plain (run shape number calls (new_state shape)) kept done.1)

-- and a map of any kind
pub run_holds_elements : (shape : Shape) → IsShape shape → (number : ℕ) (calls : List Call) → All (λ (call : Call). call.cpu < shape.cpus) calls → HoldsElements shape (finals_of shape (run shape number calls (new_state shape)))
run_holds_elements shape created number calls served = by (is_lru shape.kind) refl
  where
    by : (lru : Bool) → is_lru shape.kind ≡ lru → HoldsElements shape (finals_of shape (run shape number calls (new_state shape)))
    by true is = run_holds shape created is number calls served
    by false is = run_holds_each shape created is number calls served
