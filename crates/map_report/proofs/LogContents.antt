-- What a run in serial order holds at the end is what its logs lead to, and each CPU's spare is there.
use Rattle.std.proofs.Common.{◌≡◌, ◌⊎◌, ℕ, zero, suc, ◌+◌, ◌<◌, ◌≤◌, Bool, true, false, not, ◌&&◌, cond, ltb, List, [], ◌∷◌, ◌++◌, length, map, refl, ap, sym, ◌∙◌, subst, arith, inl, inr}
use Rattle.std.specs.Prelude.{Option, None, Some, MatchBool, MatchOption, IsTrue, filter, slice_get, slice_index_or, option_to_list}
use Rattle.std.specs.List.{flat_map, range_with_len}
use Rattle.std.proofs.lemmas.Bool.{lt-ltb, ltb-true, and_parts, and_from, not-true}
use Rattle.std.proofs.lemmas.List.{length-append}
use Rattle.map_types.specs.declared.attr.Shape.{Shape}
use Rattle.map_types.specs.declared.kind.DomainId.{DomainId}
use Rattle.map_types.specs.declared.kind.DomainId.TheVariants.{Local, Global, CpuLru, Bucket, Freelist}
use Rattle.map_types.specs.declared.kind.MapKind.{MapKind}
use Rattle.map_types.specs.declared.kind.MapKind.TheVariants.{Hash, PercpuHash, LruHash, LruPercpuHash}
use Rattle.map_types.specs.Kind.{is_lru}
use Rattle.place_words.specs.declared.finals.LocalFinal.{LocalFinal}
use Rattle.place_words.specs.declared.finals.SetFinal.{SetFinal}
use Rattle.place_words.specs.Histories.{Content, in_bucket, on_freelist, in_locals, in_global, in_own, locals_in, global_in, own_in}
use Rattle.place_words.specs.Locals.{LocalLists}
use Rattle.place_words.specs.Locks.{is_lock}
use Rattle.place_words.specs.Logs.{State, lies_in, bucket_at, freelist_at, locals_at, globals_at, own_at, final_set, final_local, where_lock, finals_of}
use Rattle.place_words.specs.Sets.{ListSet}
use Rattle.place_words.proofs.DoneLaws.{lies_a_bucket, lies_a_freelist}
use Rattle.place_words.proofs.ListContents.{lies_locals, lies_globals, lies_own}
use Rattle.map_report.specs.Record.{HasElements, HasListedElements, HoldsElements, Tells}
use Rattle.map_report.specs.Serial.{has_spares}
use Rattle.map_report.specs.Turns.{spare_at}

-- Lists by number

filter_all : (p : ℕ → Bool) (from n : ℕ) → ((k : ℕ) → k < from + n → p k ≡ true) → filter p (range_with_len from n) ≡ range_with_len from n
filter_all p from zero all = refl
filter_all p from (suc n) all = by (p from) (all from (omega arith)) (filter_all p (from + 1) n (λ k below. all k (omega (arith, below))))
  where
    by : (b : Bool) → b ≡ true → filter p (range_with_len (from + 1) n) ≡ range_with_len (from + 1) n → cond b (from ∷ filter p (range_with_len (from + 1) n)) (filter p (range_with_len (from + 1) n)) ≡ from ∷ range_with_len (from + 1) n
    by true is rest = ap (λ (l : List ℕ). from ∷ l) rest
    by false is rest = absurd cc

map_at : {A : Type 0} (f : ℕ → A) (from n k : ℕ) → k < n → slice_get (map f (range_with_len from n)) k ≡ Some (f (from + k))
map_at f from zero k below = absurd (omega (arith, below))
map_at f from (suc n) zero below = let same : from ≡ from + 0 = omega arith in ap (λ m. Some (f m)) same
map_at f from (suc n) (suc k) below = let same : (from + 1) + k ≡ from + suc k = omega arith in map_at f (from + 1) n k (omega (arith, below)) ∙ ap (λ m. Some (f m)) same

index_at : {A : Type 0} (xs : List A) (k : ℕ) (x d : A) → slice_get xs k ≡ Some x → slice_index_or xs k d ≡ x
index_at xs k x d is = Rattle.std.proofs.lemmas.Option.get_or_from_slice_get xs k x d is

-- what is told of each lock of a sort, where the map has all of them
told_at : {A : Type 0} (shape : Shape) (lock : ℕ → DomainId) (tell : ℕ → A) (n k : ℕ) → ((j : ℕ) → j < n → is_lock shape (lock j) ≡ true) → k < n → slice_get (where_lock shape lock tell (range_with_len 0 n)) k ≡ Some (tell k)
told_at shape lock tell n k all below =
    let same : 0 + k ≡ k = omega arith in
    ap (λ (names : List ℕ). slice_get (map tell names) k) (filter_all (λ name. is_lock shape (lock name)) 0 n (λ j within. all j (omega (arith, within)))) ∙ map_at tell 0 n k below ∙ ap (λ m. Some (tell m)) same

none_told : {A : Type 0} (shape : Shape) (lock : ℕ → DomainId) (tell : ℕ → A) (names : List ℕ) → ((j : ℕ) → is_lock shape (lock j) ≡ false) → where_lock shape lock tell names ≡ []
none_told shape lock tell [] none = refl
none_told shape lock tell (name ∷ names) none = by (is_lock shape (lock name)) (none name) (none_told shape lock tell names none)
  where
    by : (b : Bool) → b ≡ false → where_lock shape lock tell names ≡ [] → map tell (cond b (name ∷ filter (λ n. is_lock shape (lock n)) names) (filter (λ n. is_lock shape (lock n)) names)) ≡ []
    by true is rest = absurd cc
    by false is rest = rest

-- Contents

told_locals : (here : Content) (lists : LocalLists) (all : List LocalFinal) (cpu : ℕ) → here ≡ in_locals lists → slice_get all cpu ≡ Some (final_local lists) → MatchOption (locals_in here) ⊥ (λ (local : LocalLists). slice_get all cpu ≡ Some (final_local local))
told_locals here lists all cpu is told = subst (λ (c : Content). MatchOption (locals_in c) ⊥ (λ (local : LocalLists). slice_get all cpu ≡ Some (final_local local))) (sym is) told

told_global : (here : Content) (set : ListSet) (all : List SetFinal) → here ≡ in_global set → slice_get all 0 ≡ Some (final_set set) → MatchOption (global_in here) ⊥ (λ (one : ListSet). slice_get all 0 ≡ Some (final_set one))
told_global here set all is told = subst (λ (c : Content). MatchOption (global_in c) ⊥ (λ (one : ListSet). slice_get all 0 ≡ Some (final_set one))) (sym is) told

told_own : (here : Content) (set : ListSet) (all : List SetFinal) (cpu : ℕ) → here ≡ in_own set → slice_get all cpu ≡ Some (final_set set) → MatchOption (own_in here) ⊥ (λ (one : ListSet). slice_get all cpu ≡ Some (final_set one))
told_own here set all cpu is told = subst (λ (c : Content). MatchOption (own_in c) ⊥ (λ (one : ListSet). slice_get all cpu ≡ Some (final_set one))) (sym is) told

pub tells : (shape : Shape) (state : State) (lock : DomainId) → IsTrue (is_lock shape lock) → Tells (finals_of shape state) lock (lies_in shape state lock)
unfolding finals_of
tells shape state (Local cpu) is =
    let parts = and_parts shape.common (ltb cpu shape.cpus) is in
    told_locals (lies_in shape state (Local cpu)) (locals_at shape state cpu) (finals_of shape state).locals cpu (lies_locals shape state cpu)
    (told_at shape Local (λ on. final_local (locals_at shape state on)) shape.cpus cpu (λ j below. and_from shape.common (ltb j shape.cpus) parts.0 (lt-ltb j shape.cpus below)) (ltb-true cpu shape.cpus parts.1))
tells shape state Global is =
    let first : where_lock shape (λ (one : ℕ). Global) (λ one. final_set (globals_at shape state)) (range_with_len 0 1) ≡ final_set (globals_at shape state) ∷ [] =
    ap (map (λ (one : ℕ). final_set (globals_at shape state))) (filter_all (λ (name : ℕ). is_lock shape Global) 0 1 (λ k below. is)) in
    told_global (lies_in shape state Global) (globals_at shape state) (finals_of shape state).sets (lies_globals shape state)
    (ap (λ (sets : List SetFinal). slice_get (sets ++ where_lock shape CpuLru (λ cpu. final_set (own_at shape state cpu)) (range_with_len 0 shape.cpus)) 0) first)
tells shape state (CpuLru cpu) is =
    let parts = and_parts (is_lru shape.kind && not shape.common) (ltb cpu shape.cpus) is in
    let apart : shape.common ≡ false = not-true shape.common (and_parts (is_lru shape.kind) (not shape.common) parts.0).1 in
    told_own (lies_in shape state (CpuLru cpu)) (own_at shape state cpu) (finals_of shape state).sets cpu (lies_own shape state cpu)
    (ap (λ (sets : List SetFinal). slice_get (sets ++ where_lock shape CpuLru (λ on. final_set (own_at shape state on)) (range_with_len 0 shape.cpus)) cpu) (none_told shape (λ (one : ℕ). Global) (λ one. final_set (globals_at shape state)) (range_with_len 0 1) (λ j. apart))
    ∙ told_at shape CpuLru (λ on. final_set (own_at shape state on)) shape.cpus cpu (λ j below. and_from (is_lru shape.kind && not shape.common) (ltb j shape.cpus) parts.0 (lt-ltb j shape.cpus below)) (ltb-true cpu shape.cpus parts.1))
tells shape state (Bucket bucket) is =
    ap in_bucket (index_at (where_lock shape Bucket (bucket_at shape state) (range_with_len 0 shape.buckets)) bucket (bucket_at shape state bucket) []
    (told_at shape Bucket (bucket_at shape state) shape.buckets bucket (λ j below. lt-ltb j shape.buckets below) (ltb-true bucket shape.buckets is)))
    ∙ sym (lies_a_bucket shape state bucket)
tells shape state (Freelist cpu) is =
    let parts = and_parts (not (is_lru shape.kind)) (ltb cpu shape.cpus) is in
    ap on_freelist (index_at (where_lock shape Freelist (freelist_at shape state) (range_with_len 0 shape.cpus)) cpu (freelist_at shape state cpu) []
    (told_at shape Freelist (freelist_at shape state) shape.cpus cpu (λ j below. and_from (not (is_lru shape.kind)) (ltb j shape.cpus) parts.0 (lt-ltb j shape.cpus below)) (ltb-true cpu shape.cpus parts.1)))
    ∙ sym (lies_a_freelist shape state cpu)

-- Spares

spares_from : (ℕ → Option ℕ) → ℕ → ℕ → List ℕ
spares_from spares from n = flat_map (λ cpu. option_to_list (spares cpu)) (range_with_len from n)

few_spares : (spares : ℕ → Option ℕ) (from n : ℕ) → length (spares_from spares from n) ≤ n
unfolding spares_from
few_spares spares from zero = omega arith
few_spares spares from (suc n) = by (spares from) (few_spares spares (from + 1) n)
  where
    by : (spare : Option ℕ) → length (spares_from spares (from + 1) n) ≤ n → length (option_to_list spare ++ spares_from spares (from + 1) n) ≤ suc n
    by None rest = omega (arith, rest)
    by (Some e) rest = omega (arith, rest)

-- each CPU has one
all_spares : (spares : ℕ → Option ℕ) (from n k : ℕ) → length (spares_from spares from n) ≡ n → k < n → slice_get (spares_from spares from n) k ≡ spares (from + k)
unfolding spares_from
all_spares spares from zero k full below = absurd (omega (arith, below))
all_spares spares from (suc n) zero full below = by (spares from) refl full
  where
    by : (spare : Option ℕ) → spares from ≡ spare → length (option_to_list spare ++ spares_from spares (from + 1) n) ≡ suc n → slice_get (option_to_list spare ++ spares_from spares (from + 1) n) 0 ≡ spares (from + 0)
    by None is full = absurd (omega (arith, full, few_spares spares (from + 1) n))
    by (Some e) is full = let same : from ≡ from + 0 = omega arith in sym is ∙ ap spares same
all_spares spares from (suc n) (suc k) full below = by (spares from) full (all_spares spares (from + 1) n k)
  where
    by : (spare : Option ℕ) → length (option_to_list spare ++ spares_from spares (from + 1) n) ≡ suc n → (length (spares_from spares (from + 1) n) ≡ n → k < n → slice_get (spares_from spares (from + 1) n) k ≡ spares ((from + 1) + k))
        → slice_get (option_to_list spare ++ spares_from spares (from + 1) n) (suc k) ≡ spares (from + suc k)
    by None full rest = absurd (omega (arith, full, few_spares spares (from + 1) n))
    by (Some e) full rest = let same : (from + 1) + k ≡ from + suc k = omega arith in rest (omega (arith, full)) (omega (arith, below)) ∙ ap spares same

-- none has
no_spares : (spares : ℕ → Option ℕ) (from n k : ℕ) → length (spares_from spares from n) ≡ 0 → k < n → spares (from + k) ≡ None
unfolding spares_from
no_spares spares from zero k empty below = absurd (omega (arith, below))
no_spares spares from (suc n) zero empty below = by (spares from) refl empty
  where
    by : (spare : Option ℕ) → spares from ≡ spare → length (option_to_list spare ++ spares_from spares (from + 1) n) ≡ 0 → spares (from + 0) ≡ None
    by None is empty = let same : from + 0 ≡ from = omega arith in ap spares same ∙ is
    by (Some e) is empty = absurd (omega (arith, empty))
no_spares spares from (suc n) (suc k) empty below =
    let same : from + suc k ≡ (from + 1) + k = omega arith in
    let none : length (spares_from spares (from + 1) n) ≡ 0 = omega (arith, empty, length-append (option_to_list (spares from)) (spares_from spares (from + 1) n)) in
    ap spares same ∙ no_spares spares (from + 1) n k none (omega (arith, below))

all_or_none : (spares : ℕ → Option ℕ) (cpus cpu : ℕ) → (length (spares_from spares 0 cpus) ≡ cpus) ⊎ (length (spares_from spares 0 cpus) ≡ 0) → cpu < cpus → slice_get (spares_from spares 0 cpus) cpu ≡ spares cpu
all_or_none spares cpus cpu (inl full) below = let same : 0 + cpu ≡ cpu = omega arith in all_spares spares 0 cpus cpu full below ∙ ap spares same
all_or_none spares cpus cpu (inr empty) below =
    let same : cpu ≡ 0 + cpu = omega arith in
    Rattle.std.proofs.lemmas.Option.slice_get_past (spares_from spares 0 cpus) cpu (omega (arith, empty)) ∙ sym (ap spares same ∙ no_spares spares 0 cpus cpu empty below)

counted : (kind : MapKind) (cpus n : ℕ) → n ≡ cond (has_spares kind) cpus 0 → (n ≡ cpus) ⊎ (n ≡ 0)
counted Hash cpus n is = inl is
counted PercpuHash cpus n is = inr is
counted LruHash cpus n is = inr is
counted LruPercpuHash cpus n is = inr is

-- where the map holds what it should, what is told of spares is each CPU's spare
pub spares_told : (shape : Shape) (state : State) (cpu : ℕ) → HoldsElements shape (finals_of shape state) → cpu < shape.cpus → spare_at (finals_of shape state) cpu ≡ state.spares cpu
unfolding finals_of spares_from
spares_told shape state cpu holds within = all_or_none state.spares shape.cpus cpu (by (is_lru shape.kind) holds) within
  where
    by : (lru : Bool) → MatchBool lru (HasListedElements shape (finals_of shape state)) (HasElements shape (finals_of shape state)) → (length (finals_of shape state).spares ≡ shape.cpus) ⊎ (length (finals_of shape state).spares ≡ 0)
    by true listed = inr (ap (length {A = ℕ}) listed.no_spares)
    by false elements = counted shape.kind shape.cpus _ elements.lengths.spares
