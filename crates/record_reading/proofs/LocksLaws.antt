-- The locks of a map: each has a number of 32 bits, and stands once.
use Rattle.std.proofs.Common.{◌≡◌, ℕ, zero, suc, ◌<◌, ◌+◌, ◌&&◌, not, nat_lt, Bool, true, false, List, [], ◌∷◌, map, filter, arith}
use Rattle.std.specs.List.{range_with_len}
use Rattle.std.proofs.lemmas.Bool.{and_parts, cond_both, ltb-true}
use Rattle.map_types.specs.declared.attr.Shape.{Shape}
use Rattle.map_types.specs.declared.kind.DomainId.{DomainId}
use Rattle.map_types.specs.declared.kind.DomainId.TheVariants.{Local, Global, CpuLru, Bucket, Freelist}
use Rattle.map_types.specs.Kind.{is_lru}
use Rattle.map_types.specs.Shape.{HasBounds}
use Rattle.place_words.specs.Locks.{is_lock, lock_named, lock_count, is_same_lock}
use Rattle.place_words.proofs.LockLemmas.{one_number, other_lock}
use Rattle.map_report.specs.Record.{locks_of}
use Rattle.record_reading.specs.Readers.{AllFit}
use Rattle.record_shape.specs.ShapedParts.{LockFits}
use Rattle.record_reading.proofs.BucketLaws.{NameFits, Small}

-- each lock stands once
abbrev pub Distinct : List DomainId → Type 0
Distinct [] = Unit {0}
Distinct (lock ∷ locks) = AllFit (λ other. is_same_lock other lock ≡ false) locks × Distinct locks

name_fits : (shape : Shape) → HasBounds shape → (lock : DomainId) → is_lock shape lock ≡ true → NameFits lock
name_fits shape bounds (Local cpu) is = omega (arith, ltb-true cpu shape.cpus (and_parts shape.common (nat_lt cpu shape.cpus) is).1, bounds.cpus_bounded)
name_fits shape bounds Global is = tt
name_fits shape bounds (CpuLru cpu) is = omega (arith, ltb-true cpu shape.cpus (and_parts (is_lru shape.kind && not shape.common) (nat_lt cpu shape.cpus) is).1, bounds.cpus_bounded)
name_fits shape bounds (Bucket bucket) is = omega (arith, ltb-true bucket shape.buckets is, bounds.buckets_bounded)
name_fits shape bounds (Freelist cpu) is = omega (arith, ltb-true cpu shape.cpus (and_parts (not (is_lru shape.kind)) (nat_lt cpu shape.cpus) is).1, bounds.cpus_bounded)

pub small_of : (shape : Shape) → HasBounds shape → Small shape
small_of shape bounds = record { elements = omega (arith, bounds.elements_bounded); cpus = omega (arith, bounds.cpus_bounded); names = name_fits shape bounds }

module _ (shape : Shape) (bounds : HasBounds shape) where
  abbrev has : ℕ → Bool
  has k = is_lock shape (lock_named shape k)

  abbrev named : List ℕ → List DomainId
  named numbers = map (lock_named shape) numbers

  later_apart : (k first count : ℕ) → k < first → AllFit (λ other. is_same_lock other (lock_named shape k) ≡ false) (named (filter has (range_with_len first count)))
  later_apart k first zero less = tt
  later_apart k first (suc count) less =
      cond_both (has first) (first ∷ filter has (range_with_len (first + 1) count)) (filter has (range_with_len (first + 1) count)) (λ l. AllFit (λ other. is_same_lock other (lock_named shape k) ≡ false) (named l))
      (λ is. (other_lock (lock_named shape first) (lock_named shape k) (λ same. let e = one_number shape first k same in omega arith), later_apart k (first + 1) count (omega arith)))
      (λ is_not. later_apart k (first + 1) count (omega arith))

  distinct : (first count : ℕ) → Distinct (named (filter has (range_with_len first count)))
  distinct first zero = tt
  distinct first (suc count) =
      cond_both (has first) (first ∷ filter has (range_with_len (first + 1) count)) (filter has (range_with_len (first + 1) count)) (λ l. Distinct (named l))
      (λ is. (later_apart first (first + 1) count (omega arith), distinct (first + 1) count)) (λ is_not. distinct (first + 1) count)

  names : (first count : ℕ) → AllFit (LockFits shape) (named (filter has (range_with_len first count)))
  names first zero = tt
  names first (suc count) =
      cond_both (has first) (first ∷ filter has (range_with_len (first + 1) count)) (filter has (range_with_len (first + 1) count)) (λ l. AllFit (LockFits shape) (named l))
      (λ is. (is, names (first + 1) count)) (λ is_not. names (first + 1) count)

  pub locks_distinct : Distinct (locks_of shape)
  locks_distinct = distinct 0 (lock_count shape)

  pub locks_fit : AllFit (LockFits shape) (locks_of shape)
  locks_fit = names 0 (lock_count shape)
