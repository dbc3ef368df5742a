-- Sums over the locks of lists: how much there is in all of what lies under each of them.
use Rattle.std.proofs.Common.{◌≡◌, ℕ, zero, suc, ◌+◌, ◌<◌, ◌≤◌, Bool, true, false, cond, eqb, List, [], ◌∷◌, refl, ap, ⊎_elim, arith}
use Rattle.std.specs.Prelude.{if◌then◌else◌}
use Rattle.std.proofs.lemmas.Bool.{cases_eq, ne_eqb, eq-eqb}
use Rattle.map_types.specs.declared.attr.Shape.{Shape}
use Rattle.map_types.specs.declared.kind.DomainId.{DomainId}
use Rattle.map_types.specs.declared.kind.DomainId.TheVariants.{Local, Global, CpuLru, Bucket}
use Rattle.map_types.specs.ElementLists.{one}
pub use Rattle.place_words.specs.AtRest.{locks_below, list_locks, sum_over}
use Rattle.place_words.specs.Histories.{Content}
use Rattle.place_words.specs.Locks.{is_same_lock}
use Rattle.place_words.proofs.LockLemmas.{one_lock}

-- the sum without what lies under one lock
abbrev pub sum_others : (Content → ℕ) → (DomainId → Content) → DomainId → List DomainId → ℕ
sum_others f contents lock [] = 0
sum_others f contents lock (other ∷ locks) = (if is_same_lock lock other then 0 else f (contents other)) + sum_others f contents lock locks

-- how often a lock is among these
abbrev pub how_often : DomainId → List DomainId → ℕ
how_often lock [] = 0
how_often lock (other ∷ locks) = one (is_same_lock lock other) + how_often lock locks

module _ (f : Content → ℕ) (contents : DomainId → Content) (lock : DomainId) where
  none_step : (other : DomainId) (same : Bool) (often all others : ℕ) → one same + often ≡ 0 → (often ≡ 0 → all ≡ others) → f (contents other) + all ≡ cond same 0 (f (contents other)) + others
  none_step other true often all others none rest = absurd (omega (arith, none))
  none_step other false often all others none rest = omega (arith, rest (omega (arith, none)))

  pub sum_none : (locks : List DomainId) → how_often lock locks ≡ 0 → sum_over f contents locks ≡ sum_others f contents lock locks
  sum_none [] none = refl
  sum_none (other ∷ locks) none = none_step other (is_same_lock lock other) (how_often lock locks) _ _ none (sum_none locks)

  once_step : (other : DomainId) (same : Bool) (often all others : ℕ) → is_same_lock lock other ≡ same → one same + often ≡ 1 → (often ≡ 0 → all ≡ others) → (often ≡ 1 → all ≡ f (contents lock) + others)
      → f (contents other) + all ≡ f (contents lock) + (cond same 0 (f (contents other)) + others)
  once_step other true often all others is once none rest =
      let here : f (contents lock) ≡ f (contents other) = ap (λ l. f (contents l)) (one_lock lock other is) in
      omega (arith, here, none (omega (arith, once)))
  once_step other false often all others is once none rest = omega (arith, rest (omega (arith, once)))

  pub sum_once : (locks : List DomainId) → how_often lock locks ≡ 1 → sum_over f contents locks ≡ f (contents lock) + sum_others f contents lock locks
  sum_once [] once = absurd (omega (arith, once))
  sum_once (other ∷ locks) once = once_step other (is_same_lock lock other) (how_often lock locks) _ _ refl once (sum_none locks) (sum_once locks)

-- the others stay where what lies there stays
others_step : (same : Bool) (here now rest rest_now : ℕ) → (same ≡ false → here ≡ now) → rest ≡ rest_now → cond same 0 here + rest ≡ cond same 0 now + rest_now
others_step true here now rest rest_now is others = omega (arith, others)
others_step false here now rest rest_now is others = omega (arith, is refl, others)

pub others_stay : (f : Content → ℕ) (contents now : DomainId → Content) (lock : DomainId) → ((other : DomainId) → is_same_lock lock other ≡ false → contents other ≡ now other) → (locks : List DomainId)
    → sum_others f contents lock locks ≡ sum_others f now lock locks
others_stay f contents now lock stay [] = refl
others_stay f contents now lock stay (other ∷ locks) =
    others_step (is_same_lock lock other) (f (contents other)) (f (now other)) (sum_others f contents lock locks) (sum_others f now lock locks) (λ apart. ap f (stay other apart)) (others_stay f contents now lock stay locks)

fewer_step : (same : Bool) (few many rest rest_many : ℕ) → few ≤ many → rest ≤ rest_many → cond same 0 few + rest ≤ cond same 0 many + rest_many
fewer_step true few many rest rest_many less others = omega (arith, others)
fewer_step false few many rest rest_many less others = omega (arith, less, others)

pub others_fewer : (f g : Content → ℕ) (contents : DomainId → Content) (lock : DomainId) → ((content : Content) → f content ≤ g content) → (locks : List DomainId)
    → sum_others f contents lock locks ≤ sum_others g contents lock locks
others_fewer f g contents lock less [] = omega arith
others_fewer f g contents lock less (other ∷ locks) =
    fewer_step (is_same_lock lock other) (f (contents other)) (g (contents other)) _ _ (less (contents other)) (others_fewer f g contents lock less locks)

-- Where a lock stands

module _ (lock : ℕ → DomainId) (tells : (a b : ℕ) → is_same_lock (lock a) (lock b) ≡ eqb a b) where
  choice_of : (a b : ℕ) → one (is_same_lock (lock a) (lock b)) ≡ one (eqb a b)
  choice_of a b = ap one (tells a b)

  not_below : (cpu n : ℕ) → n ≤ cpu → how_often (lock cpu) (locks_below lock n) ≡ 0
  not_below cpu zero past = refl
  not_below cpu (suc n) past =
      let apart : one (eqb cpu n) ≡ 0 = ap one (ne_eqb cpu n (λ is. omega (arith, is, past))) in
      omega (arith, choice_of cpu n, apart, not_below cpu n (omega (arith, past)))

  pub once_below : (cpu n : ℕ) → cpu < n → how_often (lock cpu) (locks_below lock n) ≡ 1
  once_below cpu zero below = absurd (omega (arith, below))
  once_below cpu (suc n) below =
      ⊎_elim
      (λ (is : cpu ≡ n).
      let here : one (eqb cpu n) ≡ 1 = ap one (eq-eqb cpu n is) in
      omega (arith, choice_of cpu n, here, not_below cpu n (omega (arith, is))))
      (λ (other : cpu ≡ n → ⊥).
      let apart : one (eqb cpu n) ≡ 0 = ap one (ne_eqb cpu n other) in
      omega (arith, choice_of cpu n, apart, once_below cpu n (omega (arith, below, other))))
      (cases_eq cpu n)

pub none_below : (lock : ℕ → DomainId) (other : DomainId) → ((cpu : ℕ) → is_same_lock other (lock cpu) ≡ false) → (n : ℕ) → how_often other (locks_below lock n) ≡ 0
none_below lock other apart zero = refl
none_below lock other apart (suc n) =
    let here : one (is_same_lock other (lock n)) ≡ 0 = ap one (apart n) in
    omega (arith, here, none_below lock other apart n)

-- a bucket's lock is none of them
pub no_bucket : (shape : Shape) (bucket : ℕ) → how_often (Bucket bucket) (list_locks shape) ≡ 0
no_bucket shape bucket = by shape.common
  where
    by : (common : Bool) → how_often (Bucket bucket) (cond common (Global ∷ locks_below Local shape.cpus) (locks_below CpuLru shape.cpus)) ≡ 0
    by true = omega (arith, none_below Local (Bucket bucket) (λ cpu. refl) shape.cpus)
    by false = none_below CpuLru (Bucket bucket) (λ cpu. refl) shape.cpus

-- each list lock stands there once
pub own_once : (shape : Shape) (cpu : ℕ) → shape.common ≡ false → cpu < shape.cpus → how_often (CpuLru cpu) (list_locks shape) ≡ 1
own_once shape cpu apart below = by shape.common apart
  where
    by : (common : Bool) → common ≡ false → how_often (CpuLru cpu) (cond common (Global ∷ locks_below Local shape.cpus) (locks_below CpuLru shape.cpus)) ≡ 1
    by true is = absurd cc
    by false is = once_below CpuLru (λ a b. refl) cpu shape.cpus below

pub local_once : (shape : Shape) (cpu : ℕ) → shape.common ≡ true → cpu < shape.cpus → how_often (Local cpu) (list_locks shape) ≡ 1
local_once shape cpu shared below = by shape.common shared
  where
    by : (common : Bool) → common ≡ true → how_often (Local cpu) (cond common (Global ∷ locks_below Local shape.cpus) (locks_below CpuLru shape.cpus)) ≡ 1
    by true is = omega (arith, once_below Local (λ a b. refl) cpu shape.cpus below)
    by false is = absurd cc

pub global_once : (shape : Shape) → shape.common ≡ true → how_often Global (list_locks shape) ≡ 1
global_once shape shared = by shape.common shared
  where
    by : (common : Bool) → common ≡ true → how_often Global (cond common (Global ∷ locks_below Local shape.cpus) (locks_below CpuLru shape.cpus)) ≡ 1
    by true is = omega (arith, none_below Local Global (λ cpu. refl) shape.cpus)
    by false is = absurd cc
