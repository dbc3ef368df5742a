-- A state of the core of which the lists are known, and in which one CPU alone holds locks: what each step of that CPU makes of
-- it.
use Rattle.std.proofs.Common.{◌≡◌, ◌≢◌, ℕ, ◌<◌, Bool, true, false, cond, List, [], ◌∷◌, Option, None, Some, refl, ◌∙◌, sym, subst, ⊎_elim, arith}
use Rattle.std.specs.Prelude.{IsTrue, IsFalse, if◌then◌else◌}
use Rattle.std.proofs.lemmas.Bool.{cases_Bool, cond-true, cond-false}
use Rattle.map_types.specs.declared.attr.Shape.{Shape}
use Rattle.map_types.specs.declared.kind.DomainId.{DomainId}
use Rattle.map_types.specs.declared.kind.DomainId.TheVariants.{Bucket}
use Rattle.map_types.specs.Kind.{is_lru}
use Rattle.map_types.specs.Shape.{HasBounds}
use Rattle.map_types.specs.ElementLists.{one, times, IsIn}
use Rattle.place_words.specs.declared.owner.Owner.TheVariants as owners
use Rattle.place_words.specs.Locks.{rank_of, is_lock, lock_number, lock_named, is_same_lock}
use Rattle.place_words.proofs.LockLemmas.{same_lock, one_lock}
use Rattle.place_words.specs.declared.step.Lists.{Lists}
use Rattle.place_words.specs.declared.step.Step.{Step}
use Rattle.place_words.specs.declared.step.Step.TheVariants as steps
use Rattle.place_words.specs.Places.{Placed}
use Rattle.place_words.specs.State.{State, rows, is_bucket, HasOnlyItsLists, HasCursorInside}
use Rattle.place_words.specs.Steps.{IsEnabled, after, lists_under, with_free, without_free, with_row, without_row, IsLockHome}
pub use Rattle.core_runs.proofs.Ties.{with_lists, with_holder, lists_here, lists_else, put_named, IsTiedBy, DidBy}
use Rattle.core_runs.proofs.Ties.{under_by, held_by, free_by, take_by, claim_by, attach_by, detach_by, settle_by, give_by, give_same_by}

-- the CPU that holds a lock, where it holds these
abbrev pub holder_of : ℕ → List DomainId → DomainId → Option ℕ
holder_of cpu [] lock = None
holder_of cpu (one ∷ held) lock = if is_same_lock one lock then Some cpu else holder_of cpu held lock

-- each of these locks is taken before one of this rank
abbrev pub AreBelow : ℕ → List DomainId → Type 0
AreBelow rank [] = Unit {0}
AreBelow rank (one ∷ held) = (rank_of one < rank) × AreBelow rank held

-- The CPU holds these locks, the last first, and nobody holds another; these are the lists; and each element that is known to be
-- in the hand of a CPU is in it.
pub record IsTied (shape : Shape) (cpu : ℕ) (held : List DomainId) (lists : DomainId → Lists) (Known : ℕ → ℕ → Type 0) (s : State) : Type 0 where
  pub holders : (k : ℕ) → s.holder k ≡ holder_of cpu held (lock_named shape k)
  pub lists_are : (k : ℕ) → s.lists k ≡ lists (lock_named shape k)
  pub placed : Placed shape s
  pub known : (c e : ℕ) → Known c e → (e < shape.elements) × (s.owner e ≡ owners.Hand c)

-- a step may be done, and leads to such a state
pub record Did (shape : Shape) (cpu : ℕ) (held : List DomainId) (lists : DomainId → Lists) (Known : ℕ → ℕ → Type 0) (s : State) (step : Step) : Type 0 where
  pub enabled : IsEnabled shape s step
  pub tied : IsTied shape cpu held lists Known (after shape s step)

-- who holds a lock is the CPU, and such a lock is below
held_below : (cpu rank : ℕ) (held : List DomainId) (lock : DomainId) (c : ℕ) → AreBelow rank held → holder_of cpu held lock ≡ Some c → rank_of lock < rank
held_below cpu rank [] lock c below is = absurd cc
held_below cpu rank (one ∷ held) lock c below is =
    ⊎_elim
    (λ (same : is_same_lock one lock ≡ true). subst (λ (l : DomainId). rank_of l < rank) (one_lock one lock same) below.0)
    (λ (other : is_same_lock one lock ≡ false). held_below cpu rank held lock c below.1 (sym (cond-false (is_same_lock one lock) (Some cpu) (holder_of cpu held lock) other) ∙ is))
    (cases_Bool (is_same_lock one lock))

pub not_held : (cpu : ℕ) (held : List DomainId) (lock : DomainId) → AreBelow (rank_of lock) held → holder_of cpu held lock ≡ None
not_held cpu held lock below = go (holder_of cpu held lock) refl
  where
    go : (h : Option ℕ) → holder_of cpu held lock ≡ h → h ≡ None
    go None is = refl
    go (Some c) is = absurd (let less = held_below cpu (rank_of lock) held lock c below is in omega (arith, less))

pub held_first : (cpu : ℕ) (held : List DomainId) (lock : DomainId) → holder_of cpu (lock ∷ held) lock ≡ Some cpu
held_first cpu held lock = cond-true (is_same_lock lock lock) (Some cpu) (holder_of cpu held lock) (same_lock lock)

-- of one CPU: a state tied by what it holds, and back
pub by_one : {shape : Shape} {cpu : ℕ} {held : List DomainId} {lists : DomainId → Lists} {Known : ℕ → ℕ → Type 0} {s : State} → IsTied shape cpu held lists Known s → IsTiedBy shape (holder_of cpu held) lists Known s
by_one tied = record { holders = tied.holders; lists_are = tied.lists_are; placed = tied.placed; known = tied.known }

did_one : {shape : Shape} {cpu : ℕ} {held : List DomainId} {lists : DomainId → Lists} {Known : ℕ → ℕ → Type 0} {s : State} {step : Step} → DidBy shape (holder_of cpu held) lists Known s step → Did shape cpu held lists Known s step
did_one did = record { enabled = did.enabled; tied = record { holders = did.tied.holders; lists_are = did.tied.lists_are; placed = did.tied.placed; known = did.tied.known } }

module _ {shape : Shape} (bounds : HasBounds shape) {cpu : ℕ} (within : cpu < shape.cpus) {held : List DomainId} {lists : DomainId → Lists} {Known : ℕ → ℕ → Type 0} {s : State} (tied : IsTied shape cpu held lists Known s) where
  -- what lies under a lock
  pub under : (lock : DomainId) → IsTrue (is_lock shape lock) → lists_under shape s lock ≡ lists lock
  under lock is = under_by bounds within (by_one tied) lock is

  pub held_there : (lock : DomainId) → IsTrue (is_lock shape lock) → holder_of cpu held lock ≡ Some cpu → s.holder (lock_number shape lock) ≡ Some cpu
  held_there lock is mine = held_by bounds within (by_one tied) lock is mine

  -- a free element is one of the map's, and free
  pub free_real : (lock : DomainId) (e : ℕ) → IsTrue (is_lock shape lock) → IsIn e (lists lock).free → (e < shape.elements) × (s.owner e ≡ owners.Free)
  free_real lock e is inside = free_by bounds within (by_one tied) lock e is inside

  -- Take
  pub take_tied : (lock : DomainId) → IsTrue (is_lock shape lock) → AreBelow (rank_of lock) held → Did shape cpu (lock ∷ held) lists Known s (steps.Take cpu lock)
  take_tied lock is below = did_one (take_by bounds within (by_one tied) lock is (not_held cpu held lock below) (λ other mine. held_below cpu (rank_of lock) held other cpu below mine))

  -- Claim
  pub claim_tied : (lock : DomainId) (e : ℕ) (rest : List ℕ) (new : Lists) (Later : ℕ → ℕ → Type 0) → IsTrue (is_lock shape lock) → holder_of cpu held lock ≡ Some cpu
      → (lists lock).free ≡ e ∷ rest → with_row lock e (without_free e (lists lock)) ≡ new → ((c x : ℕ) → Later c x → (x ≡ e → c ≡ cpu) × (x ≢ e → Known c x))
      → Did shape cpu held (with_lists lock new lists) Later s (steps.Claim cpu e lock)
  claim_tied lock e rest new Later is mine free made from = did_one (claim_by bounds within (by_one tied) lock e rest new Later is mine free made from)

  -- Attach
  pub attach_tied : (bucket e : ℕ) (new : Lists) (Later : ℕ → ℕ → Type 0) → IsTrue (is_lock shape (Bucket bucket)) → holder_of cpu held (Bucket bucket) ≡ Some cpu → Known cpu e
      → (IsTrue (is_lru shape.kind) → IsLockHome (s.home e)) → with_row (Bucket bucket) e (lists (Bucket bucket)) ≡ new → ((c x : ℕ) → Later c x → Known c x × (x ≢ e))
      → Did shape cpu held (with_lists (Bucket bucket) new lists) Later s (steps.Attach cpu e bucket)
  attach_tied bucket e new Later is mine hand home made from = did_one (attach_by bounds within (by_one tied) bucket e new Later is mine hand home made from)

  -- Detach
  pub detach_tied : (bucket e : ℕ) (new : Lists) (Later : ℕ → ℕ → Type 0) → IsTrue (is_lock shape (Bucket bucket)) → holder_of cpu held (Bucket bucket) ≡ Some cpu
      → IsIn e (lists (Bucket bucket)).first → without_row e (lists (Bucket bucket)) ≡ new → ((c x : ℕ) → Later c x → (x ≡ e → c ≡ cpu) × (x ≢ e → Known c x))
      → Did shape cpu held (with_lists (Bucket bucket) new lists) Later s (steps.Detach cpu e bucket)
  detach_tied bucket e new Later is mine inside made from = did_one (detach_by bounds within (by_one tied) bucket e new Later is mine inside made from)

  -- Settle
  pub settle_tied : (lock : DomainId) (e : ℕ) (new : Lists) (Later : ℕ → ℕ → Type 0) → IsTrue (is_lock shape lock) → IsFalse (is_bucket lock) → holder_of cpu held lock ≡ Some cpu → Known cpu e
      → (IsTrue (is_lru shape.kind) → IsIn e (rows (lists lock))) → with_free e (without_row e (lists lock)) ≡ new → ((c x : ℕ) → Later c x → Known c x × (x ≢ e))
      → Did shape cpu held (with_lists lock new lists) Later s (steps.Settle cpu e lock)
  settle_tied lock e new Later is list mine hand listed made from = did_one (settle_by bounds within (by_one tied) lock e new Later is list mine hand listed made from)

-- Give: then the CPU holds the others as before
forgotten : (cpu : ℕ) (held : List DomainId) (lock other : DomainId) (b : Bool) → AreBelow (rank_of lock) held → is_same_lock lock other ≡ b → cond b None (cond b (Some cpu) (holder_of cpu held other)) ≡ holder_of cpu held other
forgotten cpu held lock other true below same = subst (λ (l : DomainId). None ≡ holder_of cpu held l) (one_lock lock other same) (sym (not_held cpu held lock below))
forgotten cpu held lock other false below apart = refl

given_one : {shape : Shape} {cpu : ℕ} {held : List DomainId} {lists : DomainId → Lists} {Known : ℕ → ℕ → Type 0} {s : State} {step : Step} (lock : DomainId) → AreBelow (rank_of lock) held
    → DidBy shape (with_holder lock None (holder_of cpu (lock ∷ held))) lists Known s step → Did shape cpu held lists Known s step
given_one {shape = shape} {cpu = cpu} {held = held} lock below did = record {
  enabled = did.enabled;
  tied = record {
    holders = λ k. did.tied.holders k ∙ forgotten cpu held lock (lock_named shape k) (is_same_lock lock (lock_named shape k)) below refl;
    lists_are = did.tied.lists_are;
    placed = did.tied.placed;
    known = did.tied.known;
  };
}

module _ {shape : Shape} (bounds : HasBounds shape) {cpu : ℕ} (within : cpu < shape.cpus) {held : List DomainId} {lists : DomainId → Lists} {Known : ℕ → ℕ → Type 0} {s : State} (lock : DomainId) (tied : IsTied shape cpu (lock ∷ held) lists Known s) where
  pub give_tied : (new : Lists) → IsTrue (is_lock shape lock) → AreBelow (rank_of lock) held → HasOnlyItsLists lock new → ((e : ℕ) → times e new.free ≡ times e (lists lock).free)
      → ((e : ℕ) → times e (rows new) ≡ times e (rows (lists lock))) → HasCursorInside new → Did shape cpu held (with_lists lock new lists) Known s (steps.Give cpu lock new)
  give_tied new is below fit free row cursor = given_one lock below (give_by bounds within lock (held_first cpu held lock) (by_one tied) new is fit free row cursor)

  -- lists that are given back as they are
  pub give_same : (new : Lists) → IsTrue (is_lock shape lock) → AreBelow (rank_of lock) held → lists lock ≡ new → Did shape cpu held (with_lists lock new lists) Known s (steps.Give cpu lock new)
  give_same new is below same = given_one lock below (give_same_by bounds within lock (held_first cpu held lock) (by_one tied) new is same)
