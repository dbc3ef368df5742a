-- Each element is in one place.
use Rattle.std.specs.Prelude.{◌≡◌, ◌≢◌, ℕ, ◌<◌, ◌/◌, IsTrue, IsFalse, List, ◌++◌}
use Rattle.map_types.specs.declared.attr.Shape.{Shape}
use Rattle.map_types.specs.declared.kind.DomainId.{DomainId}
use Rattle.map_types.specs.declared.kind.DomainId.TheVariants.{CpuLru, Bucket}
use Rattle.map_types.specs.Kind.{is_lru}
use Rattle.place_words.specs.declared.home.Home.TheVariants as homes
use Rattle.place_words.specs.declared.owner.Owner.TheVariants as owners
use Rattle.place_words.specs.Locks.{is_lock, lock_named}
use Rattle.place_words.specs.declared.step.Lists.{Lists}
use Rattle.map_types.specs.ElementLists.{times, IsIn}
use Rattle.place_words.specs.State.{State, rows, is_bucket}
use Rattle.place_words.specs.Steps.{lists_under}
use Rattle.place_words.specs.Places.{OwnersExist, ListsFit, CursorsInside}

-- it stands in one of the lists, once, and in no other
pub record StandsOnce (e : ℕ) (list : ℕ → List ℕ) : Type 0 where
  pub lock : ℕ
  pub once : times e (list lock) ≡ 1
  pub nowhere_else : (k : ℕ) → k ≢ lock → times e (list k) ≡ 0

-- it stands in the list exactly where the fact holds, and then once
abbrev pub OnceWhere : Type 0 → ℕ → List ℕ → Type 0
OnceWhere Fact e list = (Fact → times e list ≡ 1) × ((Fact → ⊥) → times e list ≡ 0)

-- the free elements of a lock and the listed ones
abbrev pub all_of : Lists → List ℕ
all_of lists = lists.free ++ rows lists

-- Where each element stands, in the lists themselves, as the owners and the homes tell it.
pub record EachInOnePlace (shape : Shape) (s : State) : Type 0 where
  -- only elements stand in lists, and only under locks that the map has
  pub inside : (e k : ℕ) → IsIn e (all_of (s.lists k)) → (e < shape.elements) × IsTrue (is_lock shape (lock_named shape k))
  -- one that is free stands in one free list, once, and in no other
  pub free : (e : ℕ) → e < shape.elements → s.owner e ≡ owners.Free → StandsOnce e (λ k. (s.lists k).free)
  -- and it is neither listed nor in a bucket
  pub free_not_listed : (e k : ℕ) → s.owner e ≡ owners.Free → times e (rows (s.lists k)) ≡ 0
  -- whatever stands in a free list is an element that is free
  pub free_only : (e k : ℕ) → IsIn e (s.lists k).free → (e < shape.elements) × (s.owner e ≡ owners.Free)
  -- one is in a bucket exactly where that bucket is its owner, and then once
  pub bucket : (e bucket : ℕ) → e < shape.elements → bucket < shape.buckets → OnceWhere (s.owner e ≡ owners.Bucket bucket) e (lists_under shape s (Bucket bucket)).first
  -- the bucket or the CPU that owns an element is there
  pub owned : OwnersExist shape s.owner
  -- On a map that evicts, one stands on a lock's lists, free or listed, exactly where that lock is its home, and then once.
  pub home : IsTrue (is_lru shape.kind) → (e : ℕ) (lock : DomainId) → e < shape.elements → IsTrue (is_lock shape lock) → IsFalse (is_bucket lock) → OnceWhere (s.home e ≡ homes.In lock) e (all_of (lists_under shape s lock))
  -- a home is a lock that the map has, and no bucket
  pub home_there : (e : ℕ) (lock : DomainId) → e < shape.elements → s.home e ≡ homes.In lock → IsTrue (is_lock shape lock) × IsFalse (is_bucket lock)
  -- where its home is a hand, that hand owns it, and it is on no list
  pub carried : (e cpu : ℕ) → e < shape.elements → s.home e ≡ homes.Hand cpu → (s.owner e ≡ owners.Hand cpu) × ((k : ℕ) → times e (all_of (s.lists k)) ≡ 0)
  -- a map that evicts tells the home of each element
  pub told : IsTrue (is_lru shape.kind) → (e : ℕ) → e < shape.elements → s.home e ≢ homes.Unlisted
  -- a map that doesn't evict tells none
  pub plain : IsFalse (is_lru shape.kind) → (e : ℕ) → e < shape.elements → s.home e ≡ homes.Unlisted
  -- where each CPU has a list set of its own, the home is that of the opening
  pub own : IsTrue (is_lru shape.kind) → IsFalse shape.common → (e : ℕ) → e < shape.elements → s.home e ≡ homes.In (CpuLru (e / (shape.elements / shape.cpus)))
  -- what a lock doesn't have is empty
  pub fit : ListsFit shape s.lists
  -- a cursor is an inactive element or the mark
  pub cursors : CursorsInside s.lists
