-- No two locks have one number.
use Rattle.std.proofs.Common.{◌≡◌, ℕ, ◌+◌, ◌-◌, ◌<◌, ◌≤◌, true, false, eqb, ltb, refl, ap, ◌∙◌, sym, subst, ⊎_elim, arith}
use Rattle.std.specs.Prelude.{IsTrue}
use Rattle.std.proofs.lemmas.Bool.{cases_Bool, and_parts, ltb-true, ltb-false, eqb-true}
use Rattle.std.proofs.lemmas.Bool.Decides.{nat_tests}
use Rattle.map_types.specs.declared.attr.Shape.{Shape}
use Rattle.map_types.specs.declared.kind.DomainId.{DomainId}
use Rattle.map_types.specs.declared.kind.DomainId.TheVariants.{Local, Global, CpuLru, Bucket, Freelist}
use Rattle.place_words.specs.Locks.{is_lock, lock_number, lock_named, lock_count, first_set, first_bucket, first_freelist, is_same_lock}

below : (k n : ℕ) → k < n → ltb k n ≡ true
below k n less = grind (arith, nat_tests)

not_below : (k n : ℕ) → n ≤ k → ltb k n ≡ false
not_below k n past = grind (arith, nat_tests)

same : (k n : ℕ) → k ≡ n → eqb k n ≡ true
same k n is = grind (arith, nat_tests)

differs : (k n : ℕ) → n < k → eqb k n ≡ false
differs k n more = grind (arith, nat_tests)

-- the number of a lock names it
pub named_by_number : (shape : Shape) (lock : DomainId) → IsTrue (is_lock shape lock) → lock_named shape (lock_number shape lock) ≡ lock
unfolding lock_named
named_by_number shape (Local cpu) is =
    let within : ltb cpu shape.cpus ≡ true = (and_parts shape.common (ltb cpu shape.cpus) is).1 in rw within refl
named_by_number shape Global is =
    rw (not_below shape.cpus shape.cpus (omega arith), same shape.cpus shape.cpus refl) refl
named_by_number shape (CpuLru cpu) is =
    let within : cpu < shape.cpus = ltb-true cpu shape.cpus (and_parts _ (ltb cpu shape.cpus) is).1 in
    let k = first_set shape + cpu in
    let back : k - first_set shape ≡ cpu = omega arith in
    rw (not_below k shape.cpus (omega arith), differs k shape.cpus (omega arith), below k (first_bucket shape) (omega arith), back) refl
named_by_number shape (Bucket bucket) is =
    let within : bucket < shape.buckets = ltb-true bucket shape.buckets is in
    let k = first_bucket shape + bucket in
    let back : k - first_bucket shape ≡ bucket = omega arith in
    rw (not_below k shape.cpus (omega arith), differs k shape.cpus (omega arith), not_below k (first_bucket shape) (omega arith), below k (first_freelist shape) (omega arith), back) refl
named_by_number shape (Freelist cpu) is =
    let k = first_freelist shape + cpu in
    let back : k - first_freelist shape ≡ cpu = omega arith in
    rw (not_below k shape.cpus (omega arith), differs k shape.cpus (omega arith), not_below k (first_bucket shape) (omega arith), not_below k (first_freelist shape) (omega arith), back) refl

-- the lock that a number names has that number
pub number_of_named : (shape : Shape) (k : ℕ) → lock_number shape (lock_named shape k) ≡ k
unfolding lock_named
number_of_named shape k =
    ⊎_elim
    (λ (local : ltb k shape.cpus ≡ true). rw local refl)
    (λ (no_local : ltb k shape.cpus ≡ false).
    let past_locals : shape.cpus ≤ k = ltb-false k shape.cpus no_local in
    ⊎_elim
    (λ (global : eqb k shape.cpus ≡ true). rw (no_local, global) (grind (arith, nat_tests)))
    (λ (no_global : eqb k shape.cpus ≡ false).
    let past_global : first_set shape ≤ k = grind (arith, nat_tests) in
    ⊎_elim
    (λ (set : ltb k (first_bucket shape) ≡ true). rw (no_local, no_global, set) (omega arith))
    (λ (no_set : ltb k (first_bucket shape) ≡ false).
    let past_sets : first_bucket shape ≤ k = ltb-false k (first_bucket shape) no_set in
    ⊎_elim
    (λ (bucket : ltb k (first_freelist shape) ≡ true). rw (no_local, no_global, no_set, bucket) (omega arith))
    (λ (no_bucket : ltb k (first_freelist shape) ≡ false).
    let past_buckets : first_freelist shape ≤ k = ltb-false k (first_freelist shape) no_bucket in
    rw (no_local, no_global, no_set, no_bucket) (omega arith))
    (cases_Bool (ltb k (first_freelist shape))))
    (cases_Bool (ltb k (first_bucket shape))))
    (cases_Bool (eqb k shape.cpus)))
    (cases_Bool (ltb k shape.cpus))

-- two numbers that name one lock are one
pub one_number : (shape : Shape) (j k : ℕ) → lock_named shape j ≡ lock_named shape k → j ≡ k
one_number shape j k is =
    sym (number_of_named shape j) ∙ (ap (lock_number shape) is ∙ number_of_named shape k)

-- the number of a lock is below the count
pub number_within : (shape : Shape) (lock : DomainId) → IsTrue (is_lock shape lock) → lock_number shape lock < lock_count shape
number_within shape (Local cpu) is =
    let within : cpu < shape.cpus = ltb-true cpu shape.cpus (and_parts shape.common (ltb cpu shape.cpus) is).1 in omega arith
number_within shape Global is = omega arith
number_within shape (CpuLru cpu) is =
    let within : cpu < shape.cpus = ltb-true cpu shape.cpus (and_parts _ (ltb cpu shape.cpus) is).1 in omega arith
number_within shape (Bucket bucket) is =
    let within : bucket < shape.buckets = ltb-true bucket shape.buckets is in omega arith
number_within shape (Freelist cpu) is =
    let within : cpu < shape.cpus = ltb-true cpu shape.cpus (and_parts _ (ltb cpu shape.cpus) is).1 in omega arith

-- the number of each lock is that of its name
pub named_at : (shape : Shape) (lock named : DomainId) → IsTrue (is_lock shape lock) → lock ≡ named → lock_named shape (lock_number shape named) ≡ lock
named_at shape lock named is same_lock =
    subst (λ (other : DomainId). lock_named shape (lock_number shape other) ≡ lock) same_lock (named_by_number shape lock is)

-- the test for one lock
pub same_lock : (lock : DomainId) → is_same_lock lock lock ≡ true
same_lock (Local cpu) = same cpu cpu refl
same_lock Global = refl
same_lock (CpuLru cpu) = same cpu cpu refl
same_lock (Bucket bucket) = same bucket bucket refl
same_lock (Freelist cpu) = same cpu cpu refl

pub one_lock : (lock other : DomainId) → is_same_lock lock other ≡ true → lock ≡ other
one_lock (Local c) (Local d) is = ap Local (eqb-true c d is)
one_lock (Local c) Global is = cc
one_lock (Local c) (CpuLru d) is = cc
one_lock (Local c) (Bucket d) is = cc
one_lock (Local c) (Freelist d) is = cc
one_lock Global (Local d) is = cc
one_lock Global Global is = refl
one_lock Global (CpuLru d) is = cc
one_lock Global (Bucket d) is = cc
one_lock Global (Freelist d) is = cc
one_lock (CpuLru c) (Local d) is = cc
one_lock (CpuLru c) Global is = cc
one_lock (CpuLru c) (CpuLru d) is = ap CpuLru (eqb-true c d is)
one_lock (CpuLru c) (Bucket d) is = cc
one_lock (CpuLru c) (Freelist d) is = cc
one_lock (Bucket c) (Local d) is = cc
one_lock (Bucket c) Global is = cc
one_lock (Bucket c) (CpuLru d) is = cc
one_lock (Bucket c) (Bucket d) is = ap Bucket (eqb-true c d is)
one_lock (Bucket c) (Freelist d) is = cc
one_lock (Freelist c) (Local d) is = cc
one_lock (Freelist c) Global is = cc
one_lock (Freelist c) (CpuLru d) is = cc
one_lock (Freelist c) (Bucket d) is = cc
one_lock (Freelist c) (Freelist d) is = ap Freelist (eqb-true c d is)

pub other_lock : (lock other : DomainId) → (lock ≡ other → ⊥) → is_same_lock lock other ≡ false
other_lock lock other apart = ⊎_elim (λ (is : is_same_lock lock other ≡ true). absurd (apart (one_lock lock other is))) (λ (no_one : is_same_lock lock other ≡ false). no_one) (cases_Bool (is_same_lock lock other))
