-- What a closed table hands out of the map, list by list.
use Rattle.std.proofs.Common.{◌≡◌, ℕ, zero, suc, ◌+◌, ◌<◌, ◌≤◌, Bool, true, false, not, ◌&&◌, nat_lt, List, [], ◌∷◌, ◌++◌, length, get_or, map, refl, ap, sym, ◌∙◌, arith, Option}
use Rattle.std.specs.Prelude.{filter, slice_get, option_map, option_to_list}
use Rattle.std.specs.List.{flat_map, range_with_len}
use Rattle.std.proofs.lemmas.List.FromFn.{length-map-range_with_len, get_or-map-range_with_len}
use Rattle.map_types.specs.declared.attr.Shape.{Shape}
use Rattle.map_types.specs.declared.kind.DomainId.{DomainId}
use Rattle.map_types.specs.declared.kind.DomainId.TheVariants.{Local, Global, CpuLru, Bucket, Freelist}
use Rattle.map_types.specs.Kind.{is_lru}
use Rattle.map_types.specs.Stored.{Stored}
use Rattle.place_words.specs.declared.finals.SetFinal.{SetFinal}
use Rattle.place_words.specs.declared.history.Entry.{Entry}
use Rattle.place_words.specs.Histories.{in_bucket, on_freelist, content}
use Rattle.place_words.specs.Locks.{is_lock, lock_number}
use Rattle.place_words.specs.Logs.{State, bucket_at, freelist_at, locals_at, globals_at, own_at, final_set, final_local, where_lock, finals_of}
use Rattle.place_words.proofs.DoneLaws.{lies_a_bucket, lies_a_freelist}
use Rattle.place_words.proofs.RestCounts.{filter_range}
use Rattle.place_table.specs.declared.view.Ended.{Ended}
use Rattle.place_table.specs.Closing.{ClosedView, IsLeft, state_left}
use Rattle.place_table.specs.Leaving.{spares_in}
use Rattle.place_table.specs.Passes.{spare_of}
use Rattle.place_table.proofs.Leaves.{passes_below, where_none}

-- the locks of one sort, where the map has all of them
all_there : (shape : Shape) (lock : ℕ → DomainId) (n : ℕ) → ((k : ℕ) → k < n → is_lock shape (lock k) ≡ true) → filter (λ k. is_lock shape (lock k)) (range_with_len 0 n) ≡ range_with_len 0 n
all_there shape lock n there = filter_range (λ k. is_lock shape (lock k)) 0 n (λ k less. there k (omega arith))

where_counted : {A : Type 0} (shape : Shape) (lock : ℕ → DomainId) (tell : ℕ → A) (n : ℕ) → ((k : ℕ) → k < n → is_lock shape (lock k) ≡ true) → length (where_lock shape lock tell (range_with_len 0 n)) ≡ n
where_counted shape lock tell n there = ap (λ (names : List ℕ). length (map tell names)) (all_there shape lock n there) ∙ length-map-range_with_len tell 0 n

where_at : {A : Type 0} (shape : Shape) (lock : ℕ → DomainId) (tell : ℕ → A) (n k : ℕ) (d : A) → ((k : ℕ) → k < n → is_lock shape (lock k) ≡ true) → k < n → get_or (where_lock shape lock tell (range_with_len 0 n)) k d ≡ tell k
where_at shape lock tell n k d there less =
    ap (λ (names : List ℕ). get_or (map tell names) k d) (all_there shape lock n there) ∙ get_or-map-range_with_len tell 0 n k k d less (omega arith)

has_freelist : (shape : Shape) → is_lru shape.kind ≡ false → (cpu : ℕ) → cpu < shape.cpus → is_lock shape (Freelist cpu) ≡ true
has_freelist shape plain cpu less = ap (λ (b : Bool). not b && nat_lt cpu shape.cpus) plain ∙ passes_below cpu shape.cpus less

has_set : (shape : Shape) → is_lru shape.kind ≡ true → shape.common ≡ false → (cpu : ℕ) → cpu < shape.cpus → is_lock shape (CpuLru cpu) ≡ true
has_set shape evicts apart cpu less =
    ap (λ (b : Bool). (b && not shape.common) && nat_lt cpu shape.cpus) evicts ∙ ap (λ (b : Bool). not b && nat_lt cpu shape.cpus) apart ∙ passes_below cpu shape.cpus less

no_global_set : (shape : Shape) (state : State) (sets : List SetFinal) → shape.common ≡ false → where_lock shape (λ one. Global) (λ one. final_set (globals_at shape state)) (range_with_len 0 1) ++ sets ≡ sets
no_global_set shape state sets apart =
    ap (λ (globals : List SetFinal). globals ++ sets) (where_none shape (λ one. Global) (λ one. final_set (globals_at shape state)) (range_with_len 0 1) (λ one. apart))

-- ---- spares

numbers_from : (get : ℕ → Option ℕ) (numbers : List ℕ) (a n : ℕ) → length numbers ≤ n → ((i : ℕ) → get (a + i) ≡ slice_get numbers i) → flat_map (λ i. option_to_list (get i)) (range_with_len a n) ≡ numbers
numbers_from get [] a zero few each = refl
numbers_from get (number ∷ numbers) a zero few each = absurd (omega arith)
numbers_from get [] a (suc n) few each =
    ap (λ (one : Option ℕ). option_to_list one ++ flat_map (λ i. option_to_list (get i)) (range_with_len (a + 1) n)) (ap get (omega arith) ∙ each 0)
    ∙ numbers_from get [] (a + 1) n (omega arith) (λ i. ap get (omega arith) ∙ each (suc i))
numbers_from get (number ∷ numbers) a (suc n) few each =
    ap (λ (one : Option ℕ). option_to_list one ++ flat_map (λ i. option_to_list (get i)) (range_with_len (a + 1) n)) (ap get (omega arith) ∙ each 0)
    ∙ ap (λ (rest : List ℕ). number ∷ rest) (numbers_from get numbers (a + 1) n (omega arith) (λ i. ap get (omega arith) ∙ each (suc i)))

-- spares that are those of a list, CPU by CPU
pub spares_listed : (shape : Shape) (spares : List (Option Stored)) (numbers : List ℕ) → length numbers ≤ shape.cpus → ((cpu : ℕ) → option_map (λ (body : Stored). body.element) (spare_of cpu spares) ≡ slice_get numbers cpu) → spares_in shape spares ≡ numbers
spares_listed shape spares numbers few each =
    numbers_from (λ cpu. option_map (λ (body : Stored). body.element) (spare_of cpu spares)) numbers 0 shape.cpus few
    (λ cpu. ap (λ (c : ℕ). option_map (λ (body : Stored). body.element) (spare_of c spares)) (let plain : 0 + cpu ≡ cpu = omega arith in plain) ∙ each cpu)

-- ---- list by list

module _ {shape : Shape} {log : ℕ → List Entry} {lost bit : ℕ → Bool} {strands_lost : Bool} {strands : List Ended} {spares : List (Option Stored)} {closed : ClosedView} (left : IsLeft shape log lost bit strands_lost strands spares closed) where
  abbrev now : State
  now = state_left shape log bit spares

  -- buckets
  pub buckets_counted : length closed.finals.buckets ≡ shape.buckets
  unfolding finals_of
  buckets_counted = ap (λ f. length f.buckets) left.finals_are ∙ where_counted shape Bucket (bucket_at shape now) shape.buckets (λ bucket less. passes_below bucket shape.buckets less)

  pub bucket_left : (bucket : ℕ) → bucket < shape.buckets → get_or closed.finals.buckets bucket [] ≡ bucket_at shape now bucket
  unfolding finals_of
  bucket_left bucket less =
      ap (λ f. get_or f.buckets bucket []) left.finals_are ∙ where_at shape Bucket (bucket_at shape now) shape.buckets bucket [] (λ k within. passes_below k shape.buckets within) less

  pub buckets_are : (bucket : ℕ) → bucket < shape.buckets → in_bucket (get_or closed.finals.buckets bucket []) ≡ content shape (Bucket bucket) (log (lock_number shape (Bucket bucket)))
  buckets_are bucket less = ap in_bucket (bucket_left bucket less) ∙ sym (lies_a_bucket shape now bucket)

  -- freelists, of a map that doesn't evict
  pub freelists_counted : is_lru shape.kind ≡ false → length closed.finals.freelists ≡ shape.cpus
  unfolding finals_of
  freelists_counted plain = ap (λ f. length f.freelists) left.finals_are ∙ where_counted shape Freelist (freelist_at shape now) shape.cpus (has_freelist shape plain)

  pub freelists_are : is_lru shape.kind ≡ false → (cpu : ℕ) → cpu < shape.cpus → on_freelist (get_or closed.finals.freelists cpu []) ≡ content shape (Freelist cpu) (log (lock_number shape (Freelist cpu)))
  unfolding finals_of
  freelists_are plain cpu less =
      ap (λ f. on_freelist (get_or f.freelists cpu [])) left.finals_are
      ∙ ap on_freelist (where_at shape Freelist (freelist_at shape now) shape.cpus cpu [] (has_freelist shape plain) less)
      ∙ sym (lies_a_freelist shape now cpu)

  pub no_freelists : is_lru shape.kind ≡ true → closed.finals.freelists ≡ []
  unfolding finals_of
  no_freelists evicts =
      ap (λ f. f.freelists) left.finals_are ∙ where_none shape Freelist (freelist_at shape now) (range_with_len 0 shape.cpus) (λ cpu. ap (λ (b : Bool). not b && nat_lt cpu shape.cpus) evicts)

  pub sets_are : is_lru shape.kind ≡ true → shape.common ≡ false → (cpu : ℕ) (d : SetFinal) → cpu < shape.cpus → get_or closed.finals.sets cpu d ≡ final_set (own_at shape now cpu)
  unfolding finals_of
  sets_are evicts apart cpu d less =
      let tell : ℕ → SetFinal = λ cpu. final_set (own_at shape now cpu) in
      ap (λ f. get_or f.sets cpu d) left.finals_are
      ∙ ap (λ (sets : List SetFinal). get_or sets cpu d) (no_global_set shape now (where_lock shape CpuLru tell (range_with_len 0 shape.cpus)) apart)
      ∙ where_at shape CpuLru tell shape.cpus cpu d (has_set shape evicts apart) less

  pub no_sets : is_lru shape.kind ≡ false → shape.common ≡ false → closed.finals.sets ≡ []
  unfolding finals_of
  no_sets plain apart =
      let tell : ℕ → SetFinal = λ cpu. final_set (own_at shape now cpu) in
      ap (λ f. f.sets) left.finals_are
      ∙ no_global_set shape now (where_lock shape CpuLru tell (range_with_len 0 shape.cpus)) apart
      ∙ where_none shape CpuLru tell (range_with_len 0 shape.cpus) (λ cpu. ap (λ (b : Bool). (b && not shape.common) && nat_lt cpu shape.cpus) plain)

  pub no_locals : shape.common ≡ false → closed.finals.locals ≡ []
  unfolding finals_of
  no_locals apart =
      ap (λ f. f.locals) left.finals_are ∙ where_none shape Local (λ cpu. final_local (locals_at shape now cpu)) (range_with_len 0 shape.cpus) (λ cpu. ap (λ (b : Bool). b && nat_lt cpu shape.cpus) apart)

  -- spares and bits
  pub spares_are : closed.finals.spares ≡ spares_in shape spares
  unfolding finals_of
  spares_are = ap (λ f. f.spares) left.finals_are

  pub marked_are : closed.finals.marked ≡ filter bit (range_with_len 0 shape.elements)
  unfolding finals_of
  marked_are = ap (λ f. f.marked) left.finals_are
