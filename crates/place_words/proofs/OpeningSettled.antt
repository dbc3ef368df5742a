-- A new map that evicts is settled: each element is free on one list, and no bucket has one.
use Rattle.std.proofs.Common.{◌≡◌, ◌⊎◌, ℕ, zero, suc, ◌+◌, ◌*◌, ◌/◌, ◌%◌, ◌<◌, ◌≤◌, Bool, true, false, cond, not, ◌&&◌, eqb, ltb, List, [], ◌∷◌, ◌++◌, refl, ap, ◌∙◌, sym, ⊎_elim, inl, inr, arith}
use Rattle.std.specs.Prelude.{filter}
use Rattle.std.proofs.Math.Nat.{suc-mul, zero-mul, div-add-mod, div-eq_of_lt-le}
use Rattle.std.proofs.lemmas.Bool.{cond-true, cond-false, both_ways, cases_lt, lt-ltb, le-ltb, and_parts}
use Rattle.map_types.specs.declared.attr.Shape.{Shape}
use Rattle.map_types.specs.declared.kind.DomainId.{DomainId}
use Rattle.map_types.specs.declared.kind.DomainId.TheVariants.{Local, Global, CpuLru, Bucket, Freelist}
use Rattle.map_types.specs.declared.kind.MapKind.{MapKind}
use Rattle.map_types.specs.declared.kind.MapKind.TheVariants.{Hash, PercpuHash, LruHash, LruPercpuHash}
use Rattle.map_types.specs.ElementLists.{times, one}
use Rattle.map_types.specs.Kind.{is_lru}
use Rattle.map_types.specs.Shape.{HasBounds}
use Rattle.map_types.proofs.RowLemmas.{by_test, times_append}
use Rattle.place_words.specs.Histories.{opening_content, replayed, AllAllowed}
use Rattle.place_words.specs.Locks.{is_lock}
use Rattle.place_words.specs.Logs.{lies_in, new_state}
use Rattle.place_words.specs.Openings.{is_free, opening_stack, opening_owner, opening_pushed, opening_free}
use Rattle.place_words.specs.Shares.{share_first, share_count, pushed_from}
use Rattle.place_words.specs.Takings.{set_of}
use Rattle.place_words.proofs.BucketLaws.{times_more}
use Rattle.place_words.proofs.EvictingDone.{IsAtRest}
use Rattle.place_words.proofs.ListSums.{list_locks, locks_below, sum_over}
use Rattle.place_words.proofs.PlacedLaws.{AreLegal}
use Rattle.place_words.proofs.Settled.{elements_on, rows_on, is_of, IsFit}

-- Elements that were pushed in order

pushed_count : (a n e : ℕ) → one (ltb e a) + times e (pushed_from a n) ≡ one (ltb e (a + n))
pushed_count a zero e = let same : a + 0 ≡ a = omega arith in ap (λ k. one (ltb e a) + 0) same ∙ let plain : one (ltb e a) + 0 ≡ one (ltb e a) = omega arith in plain ∙ ap (λ k. one (ltb e k)) (sym same)
pushed_count a (suc n) e =
    let rest = pushed_count a n e in
    let more = times_more e (a + n) (pushed_from a n) in
    let one_more : a + suc n ≡ suc (a + n) = omega arith in
    let step : one (ltb e (a + n)) + times e ((a + n) ∷ []) ≡ one (ltb e (suc (a + n))) = next_count (a + n) in
    omega (arith, rest, more, step, ap (λ k. one (ltb e k)) one_more)
  where
    next_count : (k : ℕ) → one (ltb e k) + times e (k ∷ []) ≡ one (ltb e (suc k))
    next_count k =
        by_test k e (λ b. one (ltb e k) + cond b 1 0 ≡ one (ltb e (suc k)))
        (λ same. let before : one (ltb e k) ≡ 0 = ap one (le-ltb e k (omega (arith, same))) in let after : one (ltb e (suc k)) ≡ 1 = ap one (lt-ltb e (suc k) (omega (arith, same))) in omega (arith, before, after))
        (λ other. ⊎_elim
        (λ (less : e < k). let before : one (ltb e k) ≡ 1 = ap one (lt-ltb e k less) in let after : one (ltb e (suc k)) ≡ 1 = ap one (lt-ltb e (suc k) (omega (arith, less))) in omega (arith, before, after))
        (λ (more : k ≤ e). let before : one (ltb e k) ≡ 0 = ap one (le-ltb e k more) in let after : one (ltb e (suc k)) ≡ 0 = ap one (le-ltb e (suc k) (omega (arith, more, other))) in omega (arith, before, after))
        (cases_lt e k))

-- what is pushed lies between
pushed_within : (a n e : ℕ) → 1 ≤ times e (pushed_from a n) → (a ≤ e) × (e < a + n)
pushed_within a n e some = by (cases_lt e a) (cases_lt e (a + n))
  where
    by : (e < a) ⊎ (a ≤ e) → (e < a + n) ⊎ (a + n ≤ e) → (a ≤ e) × (e < a + n)
    by (inl low) high = let low_one : one (ltb e a) ≡ 1 = ap one (lt-ltb e a low) in absurd (omega (arith, some, pushed_count a n e, low_one, most (ltb e (a + n))))
      where
        most : (b : Bool) → one b ≤ 1
        most true = omega arith
        most false = omega arith
    by (inr from) (inl below) = (from, below)
    by (inr from) (inr past) = let none : one (ltb e (a + n)) ≡ 0 = ap one (le-ltb e (a + n) past) in absurd (omega (arith, some, pushed_count a n e, none))

share_next : (elements cpus c : ℕ) → share_first elements cpus (suc c) ≡ share_first elements cpus c + share_count elements cpus c
share_next elements cpus c =
    let q = elements / cpus in
    let more : suc c * q ≡ c * q + q = suc-mul c q in
    ⊎_elim
    (λ (less : c < elements % cpus). rw (lt-ltb c (elements % cpus) less) (omega arith))
    (λ (past : elements % cpus ≤ c). rw (le-ltb c (elements % cpus) past) (omega arith))
    (cases_lt c (elements % cpus))

pub share_all : (elements cpus : ℕ) → 1 ≤ cpus → share_first elements cpus cpus ≡ elements
share_all elements cpus some =
    let parts = div-add-mod elements cpus in
    let below : elements % cpus < cpus = omega arith in
    omega arith

-- a CPU's share has what lies between its first element and that of the next CPU
pub stack_count : (shape : Shape) (c e : ℕ) → one (ltb e (share_first shape.elements shape.cpus c)) + times e (opening_stack shape c) ≡ one (ltb e (share_first shape.elements shape.cpus (suc c)))
unfolding opening_stack
stack_count shape c e = pushed_count (share_first shape.elements shape.cpus c) (share_count shape.elements shape.cpus c) e ∙ ap (λ k. one (ltb e k)) (sym (share_next shape.elements shape.cpus c))

-- no element is a spare on a map that evicts
all_kept : (p : ℕ → Bool) (xs : List ℕ) → ((e : ℕ) → p e ≡ true) → filter p xs ≡ xs
all_kept p [] passes = refl
all_kept p (x ∷ xs) passes = ap (λ (b : Bool). cond b (x ∷ filter p xs) (filter p xs)) (passes x) ∙ ap (λ (l : List ℕ). x ∷ l) (all_kept p xs passes)

owner_free : (shape : Shape) (kind : MapKind) (e : ℕ) → is_lru kind ≡ true → is_free (opening_owner shape kind e) ≡ true
unfolding opening_owner
owner_free shape Hash e is = absurd cc
owner_free shape PercpuHash e is = absurd cc
owner_free shape LruHash e is = refl
owner_free shape LruPercpuHash e is = refl

free_is : (shape : Shape) (lock : DomainId) → is_lru shape.kind ≡ true → is_lock shape lock ≡ true → opening_free shape lock ≡ opening_pushed shape lock
unfolding opening_free
free_is shape lock lru is = cond-true (is_lock shape lock) _ _ is ∙ all_kept (λ e. is_free (opening_owner shape shape.kind e)) (opening_pushed shape lock) (λ e. owner_free shape shape.kind e lru)

free_none : (shape : Shape) (lock : DomainId) → is_lock shape lock ≡ false → opening_free shape lock ≡ []
unfolding opening_free
free_none shape lock is = cond-false (is_lock shape lock) _ _ is

sets_free : (e : ℕ) (free : List ℕ) → times e (free ++ ([] ++ [])) ≡ times e free
sets_free e free = omega (arith, times_append e free [])

own_lock : (shape : Shape) (cpu : ℕ) → is_lru shape.kind ≡ true → shape.common ≡ false → cpu < shape.cpus → is_lock shape (CpuLru cpu) ≡ true
own_lock shape cpu lru apart within = rw (lru, apart, lt-ltb cpu shape.cpus within) refl

-- Own sets: each CPU has its share

module _ (shape : Shape) (bounds : HasBounds shape) (lru : is_lru shape.kind ≡ true) where
  abbrev first : ℕ → ℕ
  first c = share_first shape.elements shape.cpus c

  own_free : (c e : ℕ) → shape.common ≡ false → c < shape.cpus → elements_on e (opening_content shape (CpuLru c)) ≡ times e (opening_stack shape c)
  own_free c e apart within = sets_free e (opening_free shape (CpuLru c)) ∙ ap (times e) (free_is shape (CpuLru c) lru (own_lock shape c lru apart within))

  own_counts : (n e : ℕ) → shape.common ≡ false → n ≤ shape.cpus → sum_over (elements_on e) (opening_content shape) (locks_below CpuLru n) ≡ one (ltb e (first n))
  own_counts zero e apart few = let nothing : first 0 ≡ 0 = (let none = zero-mul (shape.elements / shape.cpus) in omega arith) in sym (ap (λ k. one (ltb e k)) nothing ∙ ap one (le-ltb e 0 (omega arith)))
  own_counts (suc n) e apart few = omega (arith, own_free n e apart (omega (arith, few)), own_counts n e apart (omega (arith, few)), stack_count shape n e)

  local_counts : (n e : ℕ) → sum_over (elements_on e) (opening_content shape) (locks_below Local n) ≡ 0
  local_counts zero e = refl
  local_counts (suc n) e = omega (arith, local_counts n e)

  global_free : (e : ℕ) → shape.common ≡ true → elements_on e (opening_content shape Global) ≡ one (ltb e shape.elements)
  global_free e shared =
      let whole : 0 + shape.elements ≡ shape.elements = omega arith in
      let none : one (ltb e 0) ≡ 0 = ap one (le-ltb e 0 (omega arith)) in
      let counts = pushed_count 0 shape.elements e in
      let same : one (ltb e (0 + shape.elements)) ≡ one (ltb e shape.elements) = ap (λ k. one (ltb e k)) whole in
      sets_free e (opening_free shape Global) ∙ ap (times e) (free_is shape Global lru shared) ∙ omega (arith, none, counts, same)

  opening_once : (e : ℕ) → sum_over (elements_on e) (opening_content shape) (list_locks shape) ≡ one (ltb e shape.elements)
  opening_once e = by shape.common refl
    where
      by : (b : Bool) → shape.common ≡ b → sum_over (elements_on e) (opening_content shape) (cond b (Global ∷ locks_below Local shape.cpus) (locks_below CpuLru shape.cpus)) ≡ one (ltb e shape.elements)
      by true is = omega (arith, global_free e is, local_counts shape.cpus e)
      by false is = own_counts shape.cpus e is (omega arith) ∙ ap (λ k. one (ltb e k)) (share_all shape.elements shape.cpus bounds.some_cpu)

  rows_none : (locks : List DomainId) (e : ℕ) (of : ℕ → Bool) → sum_over (rows_on e of) (opening_content shape) locks ≡ 0
  rows_none [] e of = refl
  rows_none (Local c ∷ locks) e of = omega (arith, rows_none locks e of)
  rows_none (Global ∷ locks) e of = omega (arith, rows_none locks e of)
  rows_none (CpuLru c ∷ locks) e of = omega (arith, rows_none locks e of)
  rows_none (Bucket b ∷ locks) e of = omega (arith, rows_none locks e of)
  rows_none (Freelist c ∷ locks) e of = omega (arith, rows_none locks e of)

  lru_elements : shape.elements ≡ shape.capacity
  lru_elements = bounds.spares_of_others (λ is. absurd (no_hash shape.kind is lru))
    where
      no_hash : (kind : MapKind) → kind ≡ Hash → is_lru kind ≡ true → ⊥
      no_hash kind is evicts = let plain : is_lru kind ≡ false = ap is_lru is in both_ways (is_lru kind) plain evicts

  even : shape.common ≡ false → shape.elements % shape.cpus ≡ 0
  even apart = ap (λ k. k % shape.cpus) lru_elements ∙ bounds.equal_shares lru apart

  own_element : (c e : ℕ) → shape.common ≡ false → 1 ≤ times e (opening_stack shape c) → set_of shape e ≡ c
  unfolding opening_stack
  own_element c e apart some =
      let within = pushed_within (first c) (share_count shape.elements shape.cpus c) e some in
      let q : ℕ = shape.elements / shape.cpus in
      let none = even apart in
      let no_more : ltb c (shape.elements % shape.cpus) ≡ false = le-ltb c (shape.elements % shape.cpus) (omega (arith, none)) in
      let count_is : share_count shape.elements shape.cpus c ≡ q = ap (λ (b : Bool). q + cond b 1 0) no_more ∙ omega arith in
      let first_is : first c ≡ c * q = omega (arith, none) in
      let next_is : (c + 1) * q ≡ c * q + q = ap (λ (x : ℕ). x * q) (let one_more : c + 1 ≡ suc c = omega arith in one_more) ∙ suc-mul c q in
      div-eq_of_lt-le q (omega (arith, within.0, first_is)) (omega (arith, within.1, first_is, count_is, next_is))

  own_fit : (cpu : ℕ) → IsFit shape (CpuLru cpu) (opening_content shape (CpuLru cpu))
  own_fit cpu e some = by (is_lock shape (CpuLru cpu)) refl
    where
      some_free : 1 ≤ times e (opening_free shape (CpuLru cpu))
      some_free = omega (arith, some, sets_free e (opening_free shape (CpuLru cpu)))

      no_common : (b : Bool) → not b ≡ true → b ≡ false
      no_common true is = absurd cc
      no_common false is = refl

      by : (b : Bool) → is_lock shape (CpuLru cpu) ≡ b → set_of shape e ≡ cpu
      by true is =
          let first_parts = and_parts (is_lru shape.kind && not shape.common) (ltb cpu shape.cpus) is in
          let apart = no_common shape.common (and_parts (is_lru shape.kind) (not shape.common) first_parts.0).1 in
          let free : times e (opening_free shape (CpuLru cpu)) ≡ times e (opening_stack shape cpu) = ap (times e) (free_is shape (CpuLru cpu) lru is) in
          own_element cpu e apart (omega (arith, some_free, free))
      by false is = let free : times e (opening_free shape (CpuLru cpu)) ≡ 0 = ap (times e) (free_none shape (CpuLru cpu) is) in absurd (omega (arith, some_free, free))

  opening_fit : (lock : DomainId) → IsFit shape lock (opening_content shape lock)
  opening_fit (Local cpu) = λ within. within
  opening_fit Global = tt
  opening_fit (CpuLru cpu) = own_fit cpu
  opening_fit (Bucket bucket) = tt
  opening_fit (Freelist cpu) = tt

  opening_settled : IsAtRest shape (opening_content shape)
  opening_settled = record {
    fit = opening_fit;
    once = opening_once;
    placed = λ e bucket. none (eqb 0 bucket) ∙ sym (rows_none (list_locks shape) e (is_of shape bucket));
  }
    where
      none : (b : Bool) → 0 + cond b 0 0 ≡ zero
      none true = refl
      none false = refl

  -- a new map, and its histories
  pub first_rests : IsAtRest shape (lies_in shape (new_state shape))
  unfolding replayed
  first_rests = opening_settled

  pub first_legal : AreLegal shape (new_state shape)
  unfolding AllAllowed
  first_legal lock = tt
