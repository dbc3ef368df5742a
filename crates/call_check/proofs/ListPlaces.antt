-- On a map that evicts the histories of locks of lists come first.
use Rattle.std.proofs.Common.{◌≡◌, ℕ, zero, suc, ◌+◌, ◌-◌, ◌<◌, ◌≤◌, Bool, true, false, cond, eqb, ltb, List, length, get_or, map, refl, ap, sym, ◌∙◌, subst, arith, inl, inr}
use Rattle.std.specs.Prelude.{◌&&◌, not}
use Rattle.std.proofs.lemmas.Bool.{and_parts, both_ways, cases_lt, eq-eqb, lt-ltb, ltb-true}
use Rattle.std.proofs.lemmas.Option.{get_or_from_slice_get}
use Rattle.map_types.specs.declared.attr.Shape.{Shape}
use Rattle.map_types.specs.declared.kind.DomainId.{DomainId}
use Rattle.map_types.specs.declared.kind.DomainId.TheVariants.{Local, Global, CpuLru, Bucket, Freelist}
use Rattle.map_types.specs.Kind.{is_lru}
use Rattle.place_words.specs.declared.history.LockHistory.{LockHistory}
use Rattle.place_words.specs.Locks.{first_bucket, first_freelist, first_set, is_lock, lock_named, lock_number}
use Rattle.place_words.specs.Named.{entries_of}
use Rattle.place_words.proofs.LockLemmas.{named_by_number}
use Rattle.map_report.specs.Record.{locks_of}
use Rattle.record_shape.specs.WellShaped.{lock_of}
use Rattle.call_check.specs.StrandPlaces.{place_of}
use Rattle.call_check.proofs.Places.{HistoryAt, history_at, place_more}
use Rattle.call_check.specs.GoneTables.{list_place}
use Rattle.call_check.specs.Judged.{is_list_lock}

module _ (shape : Shape) where
  local_is : shape.common ≡ true → (cpu : ℕ) → cpu < shape.cpus → is_lock shape (Local cpu) ≡ true
  local_is common cpu less = let within : ltb cpu shape.cpus ≡ true = lt-ltb cpu shape.cpus less in rw (common, within) refl

  local_place : shape.common ≡ true → (n : ℕ) → n ≤ shape.cpus → place_of shape n ≡ n
  local_place common zero less = refl
  local_place common (suc n) less =
      let next : suc n ≡ n + 1 = omega arith in
      let more = ap (place_of shape) next ∙ place_more shape n in
      let is = local_is common n (omega (arith, less)) in
      let one : ◌≡◌ {A = ℕ} (cond (is_lock shape (lock_named shape n)) 1 0) 1 = ap (λ (lock : DomainId). cond (is_lock shape lock) 1 0) (named_by_number shape (Local n) is) ∙ ap (λ (t : Bool). cond t 1 0) is in
      omega (arith, more, one, local_place common n (omega (arith, less)))

  none_low : shape.common ≡ false → (n : ℕ) → n < first_set shape → is_lock shape (lock_named shape n) ≡ false
  unfolding lock_named
  none_low apart n less = by (ltb n shape.cpus) (eqb n shape.cpus) refl refl
    where
      by : (b c : Bool) → ltb n shape.cpus ≡ b → eqb n shape.cpus ≡ c
          → is_lock shape (cond b (Local n) (cond c Global (cond (ltb n (first_bucket shape)) (CpuLru (n - first_set shape)) (cond (ltb n (first_freelist shape)) (Bucket (n - first_bucket shape)) (Freelist (n - first_freelist shape)))))) ≡ false
      by true c low at = rw apart refl
      by false true low at = apart
      by false false low at = absurd (past low at)
        where
          past : ltb n shape.cpus ≡ false → eqb n shape.cpus ≡ false → ⊥
          past low at = elim (cases_lt n shape.cpus) [
            | inl below ↦ both_ways (ltb n shape.cpus) low (lt-ltb n shape.cpus below)
            | inr above ↦ let same : n ≡ shape.cpus = omega (arith, above, less) in both_ways (eqb n shape.cpus) at (eq-eqb n shape.cpus same)
          ]

  low_place : shape.common ≡ false → (n : ℕ) → n ≤ first_set shape → place_of shape n ≡ 0
  low_place apart zero less = refl
  low_place apart (suc n) less =
      let next : suc n ≡ n + 1 = omega arith in
      let more = ap (place_of shape) next ∙ place_more shape n in
      let none : ◌≡◌ {A = ℕ} (cond (is_lock shape (lock_named shape n)) 1 0) 0 = ap (λ (b : Bool). cond b 1 0) (none_low apart n (omega (arith, less))) in
      omega (arith, more, none, low_place apart n (omega (arith, less)))

  own_place : is_lru shape.kind ≡ true → shape.common ≡ false → (cpu : ℕ) → cpu ≤ shape.cpus → place_of shape (first_set shape + cpu) ≡ cpu
  own_place evicts apart zero less = let same : first_set shape + 0 ≡ first_set shape = omega arith in ap (place_of shape) same ∙ low_place apart (first_set shape) (omega arith)
  own_place evicts apart (suc cpu) less =
      let next : first_set shape + suc cpu ≡ (first_set shape + cpu) + 1 = omega arith in
      let more = ap (place_of shape) next ∙ place_more shape (first_set shape + cpu) in
      let within : ltb cpu shape.cpus ≡ true = lt-ltb cpu shape.cpus (omega (arith, less)) in
      let is : is_lock shape (CpuLru cpu) ≡ true = rw (evicts, apart, within) refl in
      let one : ◌≡◌ {A = ℕ} (cond (is_lock shape (lock_named shape (first_set shape + cpu))) 1 0) 1 = ap (λ (lock : DomainId). cond (is_lock shape lock) 1 0) (named_by_number shape (CpuLru cpu) is) ∙ ap (λ (t : Bool). cond t 1 0) is in
      omega (arith, more, one, own_place evicts apart cpu (omega (arith, less)))

  not_false : (b : Bool) → not b ≡ true → b ≡ false
  not_false false is = refl
  not_false true is = sym is

  pub listed_place : (lock : DomainId) → is_list_lock lock ≡ true → is_lock shape lock ≡ true → place_of shape (lock_number shape lock) ≡ list_place shape lock
  listed_place (Local cpu) lists is = let both = and_parts shape.common (ltb cpu shape.cpus) is in local_place both.0 cpu (omega (arith, ltb-true cpu shape.cpus both.1))
  listed_place Global lists is = local_place is shape.cpus (omega arith)
  listed_place (CpuLru cpu) lists is =
      let both = and_parts (is_lru shape.kind && not shape.common) (ltb cpu shape.cpus) is in
      let evicts = and_parts (is_lru shape.kind) (not shape.common) both.0 in
      own_place evicts.0 (not_false shape.common evicts.1) cpu (omega (arith, ltb-true cpu shape.cpus both.1))
  listed_place (Bucket bucket) lists is = absurd (both_ways false refl lists)
  listed_place (Freelist cpu) lists is = absurd (both_ways false refl lists)

  pub list_history : (histories : List LockHistory) → map lock_of histories ≡ locks_of shape → (lock : DomainId) → is_list_lock lock ≡ true → is_lock shape lock ≡ true → HistoryAt histories (list_place shape lock) lock
  list_history histories locks lock lists is = subst (λ (place : ℕ). HistoryAt histories place lock) (listed_place lock lists is) (history_at shape histories locks lock is)

  -- the history of a CPU's local lists stands at the CPU's number
  pub local_read : (histories : List LockHistory) → map lock_of histories ≡ locks_of shape → shape.common ≡ true → (cpu : ℕ) → cpu < shape.cpus → (d : LockHistory)
      → (cpu < length histories) × ((get_or histories cpu d).entries ≡ entries_of histories (Local cpu))
  local_read histories locks common cpu less d =
      let at = list_history histories locks (Local cpu) refl (local_is common cpu less) in
      (at.within, ap (λ (h : LockHistory). h.entries) (get_or_from_slice_get histories cpu at.history d at.there) ∙ sym at.entries_are)

  pub some_local : (b : Bool) (cpu : ℕ) → shape.common ≡ b → cpu < cond b shape.cpus 0 → (shape.common ≡ true) × (cpu < shape.cpus)
  some_local true cpu is less = (is, less)
  some_local false cpu is less = absurd (omega (arith, less))
