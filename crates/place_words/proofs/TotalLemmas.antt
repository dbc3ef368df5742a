-- Free elements, elements in buckets and elements in hands are all elements.
use Rattle.std.proofs.Common.{◌≡◌, ℕ, zero, suc, ◌+◌, ◌<◌, ◌≤◌, Bool, true, false, ◌&&◌, cond, eqb, ltb, List, [], ◌∷◌, ◌++◌, length, refl, ap, ◌∙◌, sym, subst, ⊎_elim, append-nil, arith}
use Rattle.std.specs.Prelude.{IsTrue}
use Rattle.std.proofs.lemmas.Bool.{cases_eq, cases_lt, eq-eqb, ne_eqb, lt-ltb, le-ltb}
use Rattle.map_types.specs.declared.attr.Shape.{Shape}
use Rattle.map_types.specs.declared.kind.DomainId.{DomainId}
use Rattle.map_types.specs.declared.kind.DomainId.TheVariants.{Local, Global, CpuLru, Bucket, Freelist}
use Rattle.map_types.specs.Kind.{is_lru}
use Rattle.place_words.specs.declared.owner.Owner.{Owner}
use Rattle.place_words.specs.declared.owner.Owner.TheVariants as owners
use Rattle.place_words.specs.Locks.{is_lock, lock_number, lock_named, lock_count}
use Rattle.place_words.proofs.LockLemmas.{named_by_number, number_of_named, number_within}
use Rattle.map_types.specs.ElementLists.{one, times}
use Rattle.map_types.proofs.RowLemmas.{by_test}
use Rattle.place_words.specs.Openings.{is_free}
use Rattle.place_words.specs.State.{State, rows, HasOnlyItsLists}
use Rattle.place_words.specs.Places.{ElementPlace, under_lock, carried, lies_at, is_in_bucket, has_row, MayOwn, MayLie, MayLieUnder, Placed}
use Rattle.place_words.specs.Totals.{sum_below, is_in_hand, free_total, bucket_total, hand_total}
use Rattle.place_words.proofs.ElementLemmas.{times_cons_same}
use Rattle.place_words.proofs.FrameLemmas.{counted}

-- Sums

pub sum_same : (n : ℕ) (f g : ℕ → ℕ) → ((k : ℕ) → k < n → f k ≡ g k) → sum_below n f ≡ sum_below n g
sum_same zero f g same = refl
sum_same (suc n) f g same =
    let rest = sum_same n f g (λ k below. same k (omega arith)) in
    let last = same n (omega arith) in
    omega arith

pub sum_zero : (n : ℕ) → sum_below n (λ _. 0) ≡ 0
sum_zero zero = refl
sum_zero (suc n) = let rest = sum_zero n in omega arith

pub sum_ones : (n : ℕ) → sum_below n (λ _. 1) ≡ n
sum_ones zero = refl
sum_ones (suc n) = let rest = sum_ones n in omega arith

pub sum_add : (n : ℕ) (f g : ℕ → ℕ) → sum_below n (λ k. f k + g k) ≡ sum_below n f + sum_below n g
sum_add zero f g = refl
sum_add (suc n) f g = let rest = sum_add n f g in omega arith

pub sum_swap : (n m : ℕ) (f : ℕ → ℕ → ℕ) → sum_below n (λ i. sum_below m (λ j. f i j)) ≡ sum_below m (λ j. sum_below n (λ i. f i j))
sum_swap zero m f = sym (sum_zero m)
sum_swap (suc n) m f =
    let rest = sum_swap n m f in
    let add = sum_add m (λ j. sum_below n (λ i. f i j)) (λ j. f n j) in
    omega arith

-- a number is hit once, where it is below n
pub sum_past : (n x : ℕ) → n ≤ x → sum_below n (λ k. one (eqb x k)) ≡ 0
sum_past zero x past = refl
sum_past (suc n) x past =
    let rest = sum_past n x (omega arith) in
    let last = ap one (ne_eqb x n (λ is. omega arith)) in
    omega arith

pub sum_hit : (n x : ℕ) → x < n → sum_below n (λ k. one (eqb x k)) ≡ 1
sum_hit zero x below = absurd (omega arith)
sum_hit (suc n) x below =
    ⊎_elim
    (λ (is : x ≡ n).
    let rest = sum_past n x (omega arith) in
    let last = ap one (eq-eqb x n is) in
    omega arith)
    (λ (other : x ≡ n → ⊥).
    let rest = sum_hit n x (omega arith) in
    let last = ap one (ne_eqb x n other) in
    omega arith)
    (cases_eq x n)

-- how long a list of numbers below n is
pub length_counts : (n : ℕ) (xs : List ℕ) → ((e : ℕ) → n ≤ e → times e xs ≡ 0) → length xs ≡ sum_below n (λ e. times e xs)
length_counts n [] none = sym (sum_zero n)
length_counts n (x ∷ xs) none =
    let real : x < n = ⊎_elim (λ (below : x < n). below) (λ (past : n ≤ x). let here = none x past in let more = times_cons_same x xs in absurd (omega arith)) (cases_lt x n) in
    let rest = length_counts n xs (λ e past. fewer e (none e past)) in
    let split = sum_same n (λ e. times e (x ∷ xs)) (λ e. one (eqb x e) + times e xs) (λ e _. parts e) in
    let add = sum_add n (λ e. one (eqb x e)) (λ e. times e xs) in
    let hit = sum_hit n x real in
    omega arith
  where
    fewer : (e : ℕ) → times e (x ∷ xs) ≡ 0 → times e xs ≡ 0
    fewer e =
        by_test x e (λ b. cond b (suc (times e xs)) (times e xs) ≡ 0 → times e xs ≡ 0) (λ _ is. absurd (omega arith)) (λ _ is. is)

    parts : (e : ℕ) → times e (x ∷ xs) ≡ one (eqb x e) + times e xs
    parts e = by_test x e (λ b. cond b (suc (times e xs)) (times e xs) ≡ one b + times e xs) (λ _. omega arith) (λ _. omega arith)

-- an element is free, in a bucket or in a hand
abbrev is_bucketed : Owner → Bool
is_bucketed owners.Free = false
is_bucketed (owners.Bucket bucket) = true
is_bucketed (owners.Hand cpu) = false

one_of_three : (o : Owner) → one (is_free o) + one (is_bucketed o) + one (is_in_hand o) ≡ 1
one_of_three owners.Free = refl
one_of_three (owners.Bucket bucket) = refl
one_of_three (owners.Hand cpu) = refl

lock_under : (shape : Shape) (e : ℕ) (lock : DomainId) → MayLieUnder shape e lock → IsTrue (is_lock shape lock)
lock_under shape e (Local cpu) may = may
lock_under shape e Global may = may
lock_under shape e (CpuLru cpu) may = may.0
lock_under shape e (Bucket bucket) may = absurd may
lock_under shape e (Freelist cpu) may = may

-- one of the locks has a free element
free_once : (shape : Shape) (e : ℕ) (o : Owner) (p : ElementPlace) → MayLie shape e o p → sum_below (lock_count shape) (λ k. one (is_free o && lies_at k p)) ≡ one (is_free o)
free_once shape e owners.Free (under_lock j) may =
    let within = number_within shape (lock_named shape j) (lock_under shape e _ may) in
    let same = number_of_named shape j in
    sum_hit (lock_count shape) j (omega arith)
free_once shape e owners.Free (carried cpu) may = absurd cc
free_once shape e (owners.Bucket bucket) p may = sum_zero (lock_count shape)
free_once shape e (owners.Hand cpu) p may = sum_zero (lock_count shape)

bucket_once : (shape : Shape) (o : Owner) → MayOwn shape o → sum_below shape.buckets (λ b. one (is_in_bucket b o)) ≡ one (is_bucketed o)
bucket_once shape owners.Free may = sum_zero shape.buckets
bucket_once shape (owners.Bucket bucket) may = sum_hit shape.buckets bucket may
bucket_once shape (owners.Hand cpu) may = sum_zero shape.buckets

module _ (shape : Shape) (s : State) (p : Placed shape s) where
  free_is_total : free_total shape s ≡ sum_below shape.elements (λ e. one (is_free (s.owner e)))
  free_is_total =
      sum_same (lock_count shape) (λ k. length (s.lists k).free) (λ k. sum_below shape.elements (λ e. times e (s.lists k).free)) (λ k _. length_counts shape.elements (s.lists k).free (λ e past. p.placed.free k e ∙ ap (λ b. one (b && (is_free (s.owner e) && lies_at k (p.place e)))) (le-ltb e shape.elements past)))
      ∙ (sum_swap (lock_count shape) shape.elements (λ k e. times e (s.lists k).free)
      ∙ sum_same shape.elements (λ e. sum_below (lock_count shape) (λ k. times e (s.lists k).free)) (λ e. one (is_free (s.owner e))) (λ e real. sum_same (lock_count shape) (λ k. times e (s.lists k).free) (λ k. one (is_free (s.owner e) && lies_at k (p.place e))) (λ k _. p.placed.free k e ∙ counted shape.elements e _ real) ∙ free_once shape e (s.owner e) (p.place e) (p.placed.places e real)))

  -- a bucket's list
  pub bucket_list : (bucket e : ℕ) → bucket < shape.buckets → times e (s.lists (lock_number shape (Bucket bucket))).first ≡ one (ltb e shape.elements && is_in_bucket bucket (s.owner e))
  bucket_list bucket e there =
      let k = lock_number shape (Bucket bucket) in
      let named = named_by_number shape (Bucket bucket) (lt-ltb bucket shape.buckets there) in
      let fit : HasOnlyItsLists (Bucket bucket) (s.lists k) = subst (λ (d : DomainId). HasOnlyItsLists d (s.lists k)) named (p.placed.fit k) in
      let same : rows (s.lists k) ≡ (s.lists k).first = ap (λ (xs : List ℕ). (s.lists k).first ++ xs) fit.1 ∙ append-nil (s.lists k).first in
      ap (times e) (sym same) ∙ (p.placed.rows k e ∙ ap (λ (d : DomainId). one (ltb e shape.elements && has_row (is_lru shape.kind) d (s.owner e) (lies_at k (p.place e)))) named)

  bucket_is_total : bucket_total shape s ≡ sum_below shape.elements (λ e. one (is_bucketed (s.owner e)))
  bucket_is_total =
      let list : ℕ → List ℕ = λ b. (s.lists (lock_number shape (Bucket b))).first in
      sum_same shape.buckets (λ b. length (s.lists (lock_number shape (Bucket b))).first) (λ b. sum_below shape.elements (λ e. times e (s.lists (lock_number shape (Bucket b))).first)) (λ b there. length_counts shape.elements (s.lists (lock_number shape (Bucket b))).first (λ e past. bucket_list b e there ∙ ap (λ t. one (t && is_in_bucket b (s.owner e))) (le-ltb e shape.elements past)))
      ∙ (sum_swap shape.buckets shape.elements (λ b e. times e (s.lists (lock_number shape (Bucket b))).first)
      ∙ sum_same shape.elements (λ e. sum_below shape.buckets (λ b. times e (s.lists (lock_number shape (Bucket b))).first)) (λ e. one (is_bucketed (s.owner e))) (λ e real. sum_same shape.buckets (λ b. times e (s.lists (lock_number shape (Bucket b))).first) (λ b. one (is_in_bucket b (s.owner e))) (λ b there. bucket_list b e there ∙ counted shape.elements e _ real) ∙ bucket_once shape (s.owner e) (p.placed.owners e real)))

  pub totals : free_total shape s + bucket_total shape s + hand_total shape s ≡ shape.elements
  totals =
      let n = shape.elements in
      let free = free_is_total in
      let buckets = bucket_is_total in
      let each = sum_same n (λ e. one (is_free (s.owner e)) + one (is_bucketed (s.owner e)) + one (is_in_hand (s.owner e))) (λ _. 1) (λ e _. one_of_three (s.owner e)) in
      let ones = sum_ones n in
      let two = sum_add n (λ e. one (is_free (s.owner e)) + one (is_bucketed (s.owner e))) (λ e. one (is_in_hand (s.owner e))) in
      let first = sum_add n (λ e. one (is_free (s.owner e))) (λ e. one (is_bucketed (s.owner e))) in
      omega arith
