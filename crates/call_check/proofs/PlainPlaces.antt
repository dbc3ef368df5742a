-- Where the histories of a map stand that doesn't evict.
use Rattle.std.proofs.Common.{◌≡◌, ℕ, zero, suc, ◌+◌, ◌-◌, ◌<◌, ◌≤◌, Bool, true, false, cond, ltb, List, [], length, get_or, refl, ap, sym, ◌∙◌, inl, inr, arith}
use Rattle.std.specs.Prelude.{◌&&◌, not, map}
use Rattle.std.proofs.lemmas.Bool.{and_parts, both_ways, cases_eq, cases_lt, eq-eqb, le-ltb, lt-ltb, ltb-true, ne_eqb}
use Rattle.std.proofs.lemmas.Option.{get_or_from_slice_get}
use Rattle.map_types.specs.Kind.{is_lru}
use Rattle.map_types.specs.declared.attr.Shape.{Shape}
use Rattle.map_types.specs.declared.kind.DomainId.{DomainId}
use Rattle.map_types.specs.declared.kind.DomainId.TheVariants.{Local, Global, CpuLru, Bucket, Freelist}
use Rattle.place_words.specs.declared.history.LockHistory.{LockHistory}
use Rattle.place_words.specs.Locks.{first_bucket, first_freelist, first_set, is_lock, lock_named, lock_number}
use Rattle.place_words.proofs.LockLemmas.{named_by_number}
use Rattle.map_report.specs.Record.{entries_of, locks_of}
use Rattle.record_shape.specs.WellShaped.{lock_of}
use Rattle.call_check.specs.StrandPlaces.{place_of}
use Rattle.call_check.proofs.Places.{history_at, place_more}
use Rattle.trace_check.specs.Strand.{entries_at, history_place}

module _ (shape : Shape) (plain : is_lru shape.kind ≡ false) (apart : shape.common ≡ false) where
  no_lock : (n : ℕ) → n < first_bucket shape → is_lock shape (lock_named shape n) ≡ false
  unfolding lock_named
  no_lock n below = elim (cases_lt n shape.cpus) [
    | inl local ↦ rw (lt-ltb n shape.cpus local) (ap (λ (b : Bool). b && ltb n shape.cpus) apart)
    | inr past ↦ elim (cases_eq n shape.cpus) [
      | inl global ↦ rw (le-ltb n shape.cpus past, eq-eqb n shape.cpus global) apart
      | inr other ↦ rw (le-ltb n shape.cpus past, ne_eqb n shape.cpus other, lt-ltb n (first_bucket shape) below) (ap (λ (b : Bool). (b && not shape.common) && ltb (n - first_set shape) shape.cpus) plain)
    ]
  ]

  none_before : (n : ℕ) → n ≤ first_bucket shape → place_of shape n ≡ 0
  none_before zero most = refl
  none_before (suc n) most =
      let next : n + 1 ≡ suc n = omega arith in
      let none : ◌≡◌ {A = ℕ} (cond (is_lock shape (lock_named shape n)) 1 0) 0 = ap (λ (b : Bool). cond b 1 0) (no_lock n (omega (arith, most))) in
      ap (place_of shape) (sym next) ∙ omega (arith, place_more shape n, none, none_before n (omega (arith, most)))

  at_bucket : (b : ℕ) → b ≤ shape.buckets → place_of shape (first_bucket shape + b) ≡ b
  at_bucket zero most = let none : first_bucket shape + 0 ≡ first_bucket shape = omega arith in ap (place_of shape) none ∙ none_before (first_bucket shape) (omega arith)
  at_bucket (suc b) most =
      let next : first_bucket shape + suc b ≡ first_bucket shape + b + 1 = omega arith in
      let is : is_lock shape (Bucket b) ≡ true = lt-ltb b shape.buckets (omega (arith, most)) in
      let one : ◌≡◌ {A = ℕ} (cond (is_lock shape (lock_named shape (first_bucket shape + b))) 1 0) 1 = ap (λ (b : Bool). cond b 1 0) (ap (is_lock shape) (named_by_number shape (Bucket b) is) ∙ is) in
      ap (place_of shape) next ∙ omega (arith, place_more shape (first_bucket shape + b), one, at_bucket b (omega (arith, most)))

  at_freelist : (c : ℕ) → c ≤ shape.cpus → place_of shape (first_freelist shape + c) ≡ shape.buckets + c
  at_freelist zero most =
      let none : first_freelist shape + 0 ≡ first_bucket shape + shape.buckets = omega arith in
      ap (place_of shape) none ∙ omega (arith, at_bucket shape.buckets (omega arith))
  at_freelist (suc c) most =
      let next : first_freelist shape + suc c ≡ first_freelist shape + c + 1 = omega arith in
      let is : is_lock shape (Freelist c) ≡ true = ap (λ (b : Bool). not b && ltb c shape.cpus) plain ∙ lt-ltb c shape.cpus (omega (arith, most)) in
      let one : ◌≡◌ {A = ℕ} (cond (is_lock shape (lock_named shape (first_freelist shape + c))) 1 0) 1 = ap (λ (b : Bool). cond b 1 0) (ap (is_lock shape) (named_by_number shape (Freelist c) is) ∙ is) in
      ap (place_of shape) next ∙ omega (arith, place_more shape (first_freelist shape + c), one, at_freelist c (omega (arith, most)))

  place_is : (lock : DomainId) → is_lock shape lock ≡ true → history_place shape.buckets lock ≡ place_of shape (lock_number shape lock)
  place_is (Local cpu) is = absurd (both_ways shape.common apart (and_parts shape.common (ltb cpu shape.cpus) is).0)
  place_is Global is = absurd (both_ways shape.common apart is)
  place_is (CpuLru cpu) is = absurd (both_ways (is_lru shape.kind) plain (and_parts (is_lru shape.kind) (not shape.common) (and_parts (is_lru shape.kind && not shape.common) (ltb cpu shape.cpus) is).0).0)
  place_is (Bucket b) is = let within = ltb-true b shape.buckets is in sym (at_bucket b (omega (arith, within)))
  place_is (Freelist c) is = let within = ltb-true c shape.cpus (and_parts (not (is_lru shape.kind)) (ltb c shape.cpus) is).1 in sym (at_freelist c (omega (arith, within)))

  module _ (histories : List LockHistory) (locks : map lock_of histories ≡ locks_of shape) (lock : DomainId) (is : is_lock shape lock ≡ true) where
    pub place_there : history_place shape.buckets lock < length histories
    place_there = let at = history_at shape histories locks lock is in omega (arith, at.within, place_is lock is)

    pub entries_there : entries_at shape.buckets histories lock ≡ entries_of histories lock
    entries_there =
        let at = history_at shape histories locks lock is in
        let none : LockHistory = record { lock = lock; entries = [] } in
        ap (λ (h : LockHistory). h.entries) (ap (λ (n : ℕ). get_or histories n none) (place_is lock is)
        ∙ get_or_from_slice_get histories (place_of shape (lock_number shape lock)) at.history none at.there)
        ∙ sym at.entries_are
