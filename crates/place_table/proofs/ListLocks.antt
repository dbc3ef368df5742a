-- Sums over the locks of lists of a map that evicts, and where an element lies under them.
use Rattle.std.proofs.Common.{◌≡◌, ℕ, zero, suc, ◌+◌, ◌<◌, Bool, true, false, cond, not, ◌&&◌, eqb, ltb, List, [], ◌∷◌, ◌++◌, refl, ap, sym, ◌∙◌, append-nil, arith}
use Rattle.std.specs.Prelude.{IsTrue}
use Rattle.std.specs.List.{AllByRecursion}
use Rattle.std.proofs.lemmas.Bool.{both_ways, eqb-true, eqb-false, lt-ltb, ltb-true, and_parts, and_from, not-true}
use Rattle.map_types.specs.declared.attr.Shape.{Shape}
use Rattle.map_types.specs.declared.kind.DomainId.{DomainId}
use Rattle.map_types.specs.declared.kind.DomainId.TheVariants.{Local, Global, CpuLru, Bucket, Freelist}
use Rattle.map_types.specs.ElementLists.{one, times}
use Rattle.map_types.specs.Kind.{is_lru}
use Rattle.map_types.specs.Listed.{elements_of}
use Rattle.place_words.specs.Bodies.{numbers}
use Rattle.place_words.specs.Histories.{Content, in_bucket, on_freelist, in_locals, in_global, in_own}
use Rattle.place_words.specs.Locks.{is_lock, is_same_lock, lock_named, lock_number}
use Rattle.place_words.proofs.ListSums.{locks_below, list_locks, sum_over, how_often, own_once, local_once, global_once}
use Rattle.place_words.proofs.LockLemmas.{named_by_number, number_of_named, same_lock, other_lock}
use Rattle.place_words.proofs.Settled.{elements_on}
use Rattle.place_words.specs.Places.{MayLieUnder}
use Rattle.place_words.specs.State.{rows}
use Rattle.place_table.specs.Contents.{lists_of}
use Rattle.place_table.specs.Idle.{IsListLock}
use Rattle.place_table.proofs.Worlds.{by_bool}

-- Sums over the locks of lists

pub each_below : (P : DomainId → Type 0) (lock : ℕ → DomainId) (n : ℕ) → ((k : ℕ) → k < n → P (lock k)) → AllByRecursion P (locks_below lock n)
each_below P lock zero holds = tt
each_below P lock (suc n) holds = (holds n (omega arith), each_below P lock n (λ k less. holds k (omega (arith, less))))

-- how much lies under all of them, where something lies under one alone
pub sum_where : (f : Content → ℕ) (contents : DomainId → Content) (home : DomainId) (some : Bool) (locks : List DomainId) → AllByRecursion (λ (lock : DomainId). f (contents lock) ≡ one (some && is_same_lock home lock)) locks
    → sum_over f contents locks ≡ cond some (how_often home locks) 0
sum_where f contents home true [] each = refl
sum_where f contents home false [] each = refl
sum_where f contents home true (lock ∷ locks) each = omega (arith, each.0, sum_where f contents home true locks each.1)
sum_where f contents home false (lock ∷ locks) each = omega (arith, each.0, sum_where f contents home false locks each.1)

pub sum_nothing : (f : Content → ℕ) (contents : DomainId → Content) (locks : List DomainId) → AllByRecursion (λ (lock : DomainId). f (contents lock) ≡ 0) locks → sum_over f contents locks ≡ 0
sum_nothing f contents [] none = refl
sum_nothing f contents (lock ∷ locks) none = omega (arith, none.0, sum_nothing f contents locks none.1)

pub and_true : (real : Bool) → (real && true) ≡ real
and_true true = refl
and_true false = refl

pub listed_here : (real free here : Bool) → one (real && (free && here)) + one (real && (not free && here)) ≡ one (real && here)
listed_here true true true = refl
listed_here true true false = refl
listed_here true false true = refl
listed_here true false false = refl
listed_here false free here = refl

pub once_of : (some : Bool) (often : ℕ) → often ≡ 1 → cond some often 0 ≡ one some
once_of true often is = is
once_of false often is = refl

-- where it lies, by the lock and by its number
pub lies_by : (shape : Shape) (k : ℕ) (lock : DomainId) → IsTrue (is_lock shape lock) → eqb k (lock_number shape lock) ≡ is_same_lock (lock_named shape k) lock
lies_by shape k lock there =
    by_bool (eqb k (lock_number shape lock)) (λ b. eqb k (lock_number shape lock) ≡ b → b ≡ is_same_lock (lock_named shape k) lock)
    (λ _ is. sym (ap (λ (l : DomainId). is_same_lock l lock) (ap (lock_named shape) (eqb-true k (lock_number shape lock) is) ∙ named_by_number shape lock there) ∙ same_lock lock))
    (λ _ is. sym (other_lock (lock_named shape k) lock (λ same. eqb-false k (lock_number shape lock) is (sym (number_of_named shape k) ∙ ap (lock_number shape) same))))
    refl

module _ (shape : Shape) (lru : is_lru shape.kind ≡ true) where
  pub each_list_lock : (P : DomainId → Type 0) → ((lock : DomainId) → IsListLock shape lock → P lock) → AllByRecursion P (list_locks shape)
  each_list_lock P holds = by shape.common refl
    where
      by : (common : Bool) → shape.common ≡ common → AllByRecursion P (cond common (Global ∷ locks_below Local shape.cpus) (locks_below CpuLru shape.cpus))
      by true shared = (holds Global shared, each_below P Local shape.cpus (λ cpu less. holds (Local cpu) (and_from shape.common (ltb cpu shape.cpus) shared (lt-ltb cpu shape.cpus less))))
      by false apart =
          each_below P CpuLru shape.cpus
          (λ cpu less. holds (CpuLru cpu) (and_from (is_lru shape.kind && not shape.common) (ltb cpu shape.cpus) (and_from (is_lru shape.kind) (not shape.common) lru (ap not apart)) (lt-ltb cpu shape.cpus less)))

  -- an element lies under one of them
  pub home_once : (e : ℕ) (lock : DomainId) → MayLieUnder shape e lock → how_often lock (list_locks shape) ≡ 1
  home_once e (Local cpu) under = let parts = and_parts shape.common (ltb cpu shape.cpus) under in local_once shape cpu parts.0 (ltb-true cpu shape.cpus parts.1)
  home_once e Global under = global_once shape under
  home_once e (CpuLru cpu) under =
      let parts = and_parts (is_lru shape.kind && not shape.common) (ltb cpu shape.cpus) under.0 in
      own_once shape cpu (not-true shape.common (and_parts (is_lru shape.kind) (not shape.common) parts.0).1) (ltb-true cpu shape.cpus parts.1)
  home_once e (Bucket bucket) under = absurd under
  home_once e (Freelist cpu) under = absurd (both_ways (not (is_lru shape.kind)) (ap not lru) (and_parts (not (is_lru shape.kind)) (ltb cpu shape.cpus) under).0)

-- What lies under such a lock, as lists

pub all_as_lists : (e : ℕ) (content : Content) → elements_on e content ≡ times e ((lists_of content).free ++ rows (lists_of content))
all_as_lists e (in_bucket bodies) = ap (times e) (sym (append-nil (numbers bodies)))
all_as_lists e (on_freelist stack) = ap (times e) (sym (append-nil stack))
all_as_lists e (in_locals lists) = ap (λ (pending : List ℕ). times e (lists.free ++ pending)) (sym (append-nil (elements_of lists.pending)))
all_as_lists e (in_global set) = refl
all_as_lists e (in_own set) = refl
