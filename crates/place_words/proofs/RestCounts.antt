-- Where the elements of a map that evicts are between calls: each is on one list, and each is in a bucket or free, once.
use Rattle.std.proofs.Common.{◌≡◌, ℕ, zero, suc, ◌+◌, ◌<◌, ◌≤◌, Bool, true, false, cond, ◌&&◌, eqb, ltb, List, [], ◌∷◌, ◌++◌, map, length, refl, ap, ◌∙◌, ⊎_elim, arith}
use Rattle.std.specs.Prelude.{filter}
use Rattle.std.specs.List.{flat_map, range_with_len}
use Rattle.std.proofs.lemmas.Bool.{cases_eq, lt-ltb, ne_eqb, eq-eqb, cond-true, cond-false}
use Rattle.std.proofs.lemmas.List.{length-map}
use Rattle.std.proofs.lemmas.List.FromFn.{length-range_with_len}
use Rattle.map_types.specs.declared.attr.Shape.{Shape}
use Rattle.map_types.specs.declared.kind.DomainId.{DomainId}
use Rattle.map_types.specs.declared.kind.DomainId.TheVariants.{Local, Global, CpuLru, Bucket}
use Rattle.map_types.specs.declared.row.Row.{Row}
use Rattle.map_types.specs.ElementLists.{times, one}
use Rattle.map_types.specs.Kind.{is_lru}
use Rattle.map_types.specs.Listed.{elements_of}
use Rattle.map_types.specs.Shape.{HasBounds}
use Rattle.map_types.proofs.RowLemmas.{times_append}
use Rattle.key_hash.specs.Bucket.{bucket_number}
use Rattle.key_hash.proofs.Buckets.{bucket_number-lt}
use Rattle.place_words.specs.Bodies.{numbers}
use Rattle.place_words.specs.Histories.{Content, in_bucket, on_freelist, in_locals, in_global, in_own}
use Rattle.place_words.specs.Locks.{is_lock}
use Rattle.place_words.specs.Logs.{State, lies_in, bucket_at, where_lock}
use Rattle.place_words.specs.RowMoves.{rows_of}
use Rattle.place_words.specs.Takings.{listed_rows}
use Rattle.place_words.proofs.EvictingDone.{IsAtRest}
use Rattle.place_words.proofs.ListSums.{list_locks, locks_below, sum_over}
use Rattle.place_words.proofs.RowCounts.{any, weight, rows_more, rows_append, rows_any}
use Rattle.place_words.proofs.Settled.{is_of, elements_on, rows_on, listed}

-- Sums over the first numbers

abbrev pub sum_first : (ℕ → ℕ) → ℕ → ℕ
sum_first f zero = 0
sum_first f (suc n) = f n + sum_first f n

sum_both : (f g : ℕ → ℕ) (n : ℕ) → sum_first (λ k. f k + g k) n ≡ sum_first f n + sum_first g n
sum_both f g zero = refl
sum_both f g (suc n) = omega (arith, sum_both f g n)

sum_alike : (f g : ℕ → ℕ) (n : ℕ) → ((k : ℕ) → f k ≡ g k) → sum_first f n ≡ sum_first g n
sum_alike f g zero same = refl
sum_alike f g (suc n) same = omega (arith, same n, sum_alike f g n same)

pub sum_zero : (n : ℕ) → sum_first (λ k. 0) n ≡ 0
sum_zero zero = refl
sum_zero (suc n) = omega (arith, sum_zero n)

sum_past : (n at : ℕ) → n ≤ at → sum_first (λ k. one (eqb at k)) n ≡ 0
sum_past zero at past = refl
sum_past (suc n) at past =
    let apart : one (eqb at n) ≡ 0 = ap one (ne_eqb at n (λ same. omega (arith, same, past))) in omega (arith, apart, sum_past n at (omega (arith, past)))

-- one number is below the bound once
sum_at : (n at : ℕ) → at < n → sum_first (λ k. one (eqb at k)) n ≡ 1
sum_at zero at below = absurd (omega (arith, below))
sum_at (suc n) at below =
    ⊎_elim
    (λ (same : at ≡ n). let here : one (eqb at n) ≡ 1 = ap one (eq-eqb at n same) in omega (arith, here, sum_past n at (omega (arith, same))))
    (λ (other : at ≡ n → ⊥). let apart : one (eqb at n) ≡ 0 = ap one (ne_eqb at n other) in omega (arith, apart, sum_at n at (omega (arith, below, other))))
    (cases_eq at n)

-- a range from its end
range_sum : (f : ℕ → ℕ) (all : List ℕ → ℕ) (from n : ℕ) → (all [] ≡ 0) → ((x : ℕ) (xs : List ℕ) → all (x ∷ xs) ≡ f x + all xs) → all (range_with_len from (suc n)) ≡ all (range_with_len from n) + f (from + n)
range_sum f all from zero nil more =
    let same : f (from + 0) ≡ f from = ap f (let plain : from + 0 ≡ from = omega arith in plain) in omega (arith, more from [], nil, same)
range_sum f all from (suc n) nil more =
    let rest = range_sum f all (from + 1) n nil more in
    let same : f ((from + 1) + n) ≡ f (from + suc n) = ap f (let plain : (from + 1) + n ≡ from + suc n = omega arith in plain) in
    omega (arith, more from (range_with_len (from + 1) (suc n)), more from (range_with_len (from + 1) n), rest, same)

pub range_first : (f : ℕ → ℕ) (all : List ℕ → ℕ) (n : ℕ) → (all [] ≡ 0) → ((x : ℕ) (xs : List ℕ) → all (x ∷ xs) ≡ f x + all xs) → all (range_with_len 0 n) ≡ sum_first f n
range_first f all zero nil more = nil
range_first f all (suc n) nil more =
    let same : f (0 + n) ≡ f n = ap f (let plain : 0 + n ≡ n = omega arith in plain) in omega (arith, range_sum f all 0 n nil more, range_first f all n nil more, same)

-- What is told of the locks of a sort

pub filter_range : (p : ℕ → Bool) (from n : ℕ) → ((k : ℕ) → k < from + n → p k ≡ true) → filter p (range_with_len from n) ≡ range_with_len from n
filter_range p from zero all = refl
filter_range p from (suc n) all = cond-true (p from) _ _ (all from (omega arith)) ∙ ap (λ (l : List ℕ). from ∷ l) (filter_range p (from + 1) n (λ k below. all k (omega (arith, below))))

pub filter_none : (p : ℕ → Bool) (xs : List ℕ) → ((k : ℕ) → p k ≡ false) → filter p xs ≡ []
filter_none p [] none = refl
filter_none p (x ∷ xs) none = cond-false (p x) _ _ (none x) ∙ filter_none p xs none

told_is : {A : Type 0} (shape : Shape) (lock : ℕ → DomainId) (tell : ℕ → A) (n : ℕ) → ((k : ℕ) → k < n → is_lock shape (lock k) ≡ true) → where_lock shape lock tell (range_with_len 0 n) ≡ map tell (range_with_len 0 n)
told_is shape lock tell n all = ap (map tell) (filter_range (λ k. is_lock shape (lock k)) 0 n (λ k below. all k (omega (arith, below))))

pub told_none : {A : Type 0} (shape : Shape) (lock : ℕ → DomainId) (tell : ℕ → A) (names : List ℕ) → ((k : ℕ) → is_lock shape (lock k) ≡ false) → where_lock shape lock tell names ≡ []
told_none shape lock tell names none = ap (map tell) (filter_none (λ k. is_lock shape (lock k)) names none)

pub told_length : {A : Type 0} (shape : Shape) (lock : ℕ → DomainId) (tell : ℕ → A) (n : ℕ) → ((k : ℕ) → k < n → is_lock shape (lock k) ≡ true) → length (where_lock shape lock tell (range_with_len 0 n)) ≡ n
told_length shape lock tell n all = ap length (told_is shape lock tell n all) ∙ length-map (range_with_len 0 n) tell ∙ length-range_with_len 0 n

pub told_sum : {A : Type 0} (shape : Shape) (lock : ℕ → DomainId) (tell : ℕ → A) (parts : A → List ℕ) (n e : ℕ) → ((k : ℕ) → k < n → is_lock shape (lock k) ≡ true)
    → times e (flat_map parts (where_lock shape lock tell (range_with_len 0 n))) ≡ sum_first (λ k. times e (parts (tell k))) n
told_sum shape lock tell parts n e all =
    ap (λ (xs : List _). times e (flat_map parts xs)) (told_is shape lock tell n all)
    ∙ range_first (λ k. times e (parts (tell k))) (λ xs. times e (flat_map parts (map tell xs))) n refl (λ x xs. times_append e (parts (tell x)) (flat_map parts (map tell xs)))

sum_locks : (f : Content → ℕ) (contents : DomainId → Content) (lock : ℕ → DomainId) (g : ℕ → ℕ) (n : ℕ) → ((k : ℕ) → k < n → g k ≡ f (contents (lock k))) → sum_first g n ≡ sum_over f contents (locks_below lock n)
sum_locks f contents lock g zero same = refl
sum_locks f contents lock g (suc n) same = omega (arith, same n (omega arith), sum_locks f contents lock g n (λ k below. same k (omega (arith, below))))

-- Buckets: each row is of one of them

module _ (shape : Shape) (bounds : HasBounds shape) (e : ℕ) where
  rows_spread : (rows : List Row) → sum_first (λ bucket. rows_of e (is_of shape bucket) rows) shape.buckets ≡ rows_of e any rows
  rows_spread [] = sum_zero shape.buckets
  rows_spread (row ∷ rows) =
      let at : ℕ = bucket_number row.hash shape.buckets in
      let split = sum_alike (λ bucket. rows_of e (is_of shape bucket) (row ∷ rows)) (λ bucket. weight e (is_of shape bucket) row + rows_of e (is_of shape bucket) rows) shape.buckets (λ bucket. rows_more e (is_of shape bucket) row rows) in
      let apart = sum_both (λ bucket. weight e (is_of shape bucket) row) (λ bucket. rows_of e (is_of shape bucket) rows) shape.buckets in
      omega (arith, split, apart, rows_spread rows, weights (eqb row.element e) at (bucket_number-lt row.hash shape.buckets bounds.buckets_power), rows_more e any row rows)
    where
      weights : (b : Bool) (at : ℕ) → at < shape.buckets → sum_first (λ bucket. cond (b && eqb at bucket) 1 0) shape.buckets ≡ cond (b && true) 1 0
      weights true at below = sum_alike (λ bucket. cond (eqb at bucket) 1 0) (λ bucket. one (eqb at bucket)) shape.buckets (λ bucket. either (eqb at bucket)) ∙ sum_at shape.buckets at below
        where
          either : (b : Bool) → cond b 1 0 ≡ one b
          either true = refl
          either false = refl
      weights false at below = sum_zero shape.buckets

  listed_spread : (contents : DomainId → Content) (locks : List DomainId) → sum_first (λ bucket. sum_over (rows_on e (is_of shape bucket)) contents locks) shape.buckets ≡ sum_over (rows_on e any) contents locks
  listed_spread contents [] = sum_zero shape.buckets
  listed_spread contents (lock ∷ locks) =
      sum_both (λ bucket. rows_on e (is_of shape bucket) (contents lock)) (λ bucket. sum_over (rows_on e (is_of shape bucket)) contents locks) shape.buckets
      ∙ omega (arith, rows_spread (listed_rows (contents lock)), listed_spread contents locks)

  -- what is in buckets is what is listed
  pub buckets_count : (state : State) → IsAtRest shape (lies_in shape state) → times e (flat_map numbers (where_lock shape Bucket (bucket_at shape state) (range_with_len 0 shape.buckets))) ≡ listed shape (lies_in shape state) e any
  buckets_count state rest_now =
      told_sum shape Bucket (bucket_at shape state) numbers shape.buckets e (λ k below. lt-ltb k shape.buckets below)
      ∙ sum_alike (λ bucket. times e (numbers (bucket_at shape state bucket))) (λ bucket. listed shape (lies_in shape state) e (is_of shape bucket)) shape.buckets
      (λ bucket. omega (arith, rest_now.placed e bucket, none_held (eqb 0 bucket)))
      ∙ listed_spread (lies_in shape state) (list_locks shape)
    where
      none_held : (b : Bool) → cond b 0 0 ≡ zero
      none_held true = refl
      none_held false = refl

-- Lists

-- how often an element is free under a lock
abbrev pub free_on : ℕ → Content → ℕ
free_on e (in_bucket bodies) = times e (numbers bodies)
free_on e (on_freelist stack) = times e stack
free_on e (in_locals lists) = times e lists.free
free_on e (in_global set) = times e set.free
free_on e (in_own set) = times e set.free

free_and_listed : (e : ℕ) (content : Content) → free_on e content + rows_on e any content ≡ elements_on e content
free_and_listed e (in_bucket bodies) = omega arith
free_and_listed e (on_freelist stack) = omega arith
free_and_listed e (in_locals lists) = omega (arith, times_append e lists.free (elements_of lists.pending), rows_any e lists.pending)
free_and_listed e (in_global set) =
    omega (arith, times_append e set.free (elements_of set.lists.active ++ elements_of set.lists.inactive), times_append e (elements_of set.lists.active) (elements_of set.lists.inactive), rows_append e any set.lists.active set.lists.inactive, rows_any e set.lists.active, rows_any e set.lists.inactive)
free_and_listed e (in_own set) =
    omega (arith, times_append e set.free (elements_of set.lists.active ++ elements_of set.lists.inactive), times_append e (elements_of set.lists.active) (elements_of set.lists.inactive), rows_append e any set.lists.active set.lists.inactive, rows_any e set.lists.active, rows_any e set.lists.inactive)

all_split : (e : ℕ) (contents : DomainId → Content) (locks : List DomainId) → sum_over (free_on e) contents locks + sum_over (rows_on e any) contents locks ≡ sum_over (elements_on e) contents locks
all_split e contents [] = refl
all_split e contents (lock ∷ locks) = omega (arith, free_and_listed e (contents lock), all_split e contents locks)

-- each element is in a bucket or free, once
pub bucketed_or_free : (shape : Shape) → HasBounds shape → (state : State) → IsAtRest shape (lies_in shape state) → (e : ℕ)
    → times e (flat_map numbers (where_lock shape Bucket (bucket_at shape state) (range_with_len 0 shape.buckets))) + sum_over (free_on e) (lies_in shape state) (list_locks shape) ≡ one (ltb e shape.elements)
bucketed_or_free shape bounds state rest_now e =
    omega (arith, buckets_count shape bounds e state rest_now, all_split e (lies_in shape state) (list_locks shape), rest_now.once e)

-- What is told of the list locks adds up to what lies under them, where it is told of each as of its content.
module _ {A B : Type 0} (shape : Shape) (lru : is_lru shape.kind ≡ true) (contents : DomainId → Content) (f : Content → ℕ) (e : ℕ)
    (tell_global : ℕ → A) (tell_own : ℕ → A) (tell_local : ℕ → B) (set_parts : A → List ℕ) (local_parts : B → List ℕ)
    (global_told : (k : ℕ) → times e (set_parts (tell_global k)) ≡ f (contents Global)) (own_told : (cpu : ℕ) → times e (set_parts (tell_own cpu)) ≡ f (contents (CpuLru cpu))) (local_told : (cpu : ℕ) → times e (local_parts (tell_local cpu)) ≡ f (contents (Local cpu))) where
  abbrev of_sets : List A
  of_sets = where_lock shape (λ (one : ℕ). Global) tell_global (range_with_len 0 1) ++ where_lock shape CpuLru tell_own (range_with_len 0 shape.cpus)

  abbrev of_all_locals : List B
  of_all_locals = where_lock shape Local tell_local (range_with_len 0 shape.cpus)

  sets_apart : times e (flat_map set_parts of_sets) ≡ times e (flat_map set_parts (where_lock shape (λ (one : ℕ). Global) tell_global (range_with_len 0 1))) + times e (flat_map set_parts (where_lock shape CpuLru tell_own (range_with_len 0 shape.cpus)))
  sets_apart =
      ap (times e) (Rattle.std.proofs.lemmas.Grind.flat_map-append set_parts (where_lock shape (λ (one : ℕ). Global) tell_global (range_with_len 0 1)) (where_lock shape CpuLru tell_own (range_with_len 0 shape.cpus)))
      ∙ times_append e (flat_map set_parts (where_lock shape (λ (one : ℕ). Global) tell_global (range_with_len 0 1))) (flat_map set_parts (where_lock shape CpuLru tell_own (range_with_len 0 shape.cpus)))

  pub lists_told : times e (flat_map set_parts of_sets ++ flat_map local_parts of_all_locals) ≡ sum_over f contents (list_locks shape)
  lists_told = by shape.common refl
    where
      by : (common : Bool) → shape.common ≡ common → times e (flat_map set_parts of_sets ++ flat_map local_parts of_all_locals) ≡ sum_over f contents (cond common (Global ∷ locks_below Local shape.cpus) (locks_below CpuLru shape.cpus))
      by true is =
          let no_own : where_lock shape CpuLru tell_own (range_with_len 0 shape.cpus) ≡ [] = told_none shape CpuLru tell_own (range_with_len 0 shape.cpus) (λ k. rw (lru, is) refl) in
          let globals = told_sum shape (λ (one : ℕ). Global) tell_global set_parts 1 e (λ k below. is) in
          let locals = told_sum shape Local tell_local local_parts shape.cpus e (λ k below. rw (is, lt-ltb k shape.cpus below) refl) in
          let own : times e (flat_map set_parts (where_lock shape CpuLru tell_own (range_with_len 0 shape.cpus))) ≡ 0 = ap (λ (xs : List A). times e (flat_map set_parts xs)) no_own in
          let whole = times_append e (flat_map set_parts of_sets) (flat_map local_parts of_all_locals) in
          let sets : times e (flat_map set_parts of_sets) ≡ times e (flat_map set_parts (where_lock shape (λ (one : ℕ). Global) tell_global (range_with_len 0 1))) + times e (flat_map set_parts (where_lock shape CpuLru tell_own (range_with_len 0 shape.cpus))) = sets_apart in
          omega (arith, whole, sets, own, globals, global_told 0, locals, sum_locks f contents Local (λ cpu. times e (local_parts (tell_local cpu))) shape.cpus (λ k below. local_told k))
      by false is =
          let no_global : where_lock shape (λ (one : ℕ). Global) tell_global (range_with_len 0 1) ≡ [] = told_none shape (λ (one : ℕ). Global) tell_global (range_with_len 0 1) (λ k. is) in
          let no_local : of_all_locals ≡ [] = told_none shape Local tell_local (range_with_len 0 shape.cpus) (λ k. rw is refl) in
          let own = told_sum shape CpuLru tell_own set_parts shape.cpus e (λ k below. rw (lru, is, lt-ltb k shape.cpus below) refl) in
          let globals : times e (flat_map set_parts (where_lock shape (λ (one : ℕ). Global) tell_global (range_with_len 0 1))) ≡ 0 = ap (λ (xs : List A). times e (flat_map set_parts xs)) no_global in
          let locals : times e (flat_map local_parts of_all_locals) ≡ 0 = ap (λ (xs : List B). times e (flat_map local_parts xs)) no_local in
          let whole = times_append e (flat_map set_parts of_sets) (flat_map local_parts of_all_locals) in
          omega (arith, whole, sets_apart, globals, locals, own, sum_locks f contents CpuLru (λ cpu. times e (set_parts (tell_own cpu))) shape.cpus (λ k below. own_told k))
