-- Which steps of a run of the core may be done by words alone: who holds each lock, and of each element its owner and home. What
-- lies under locks isn't looked at.
use Rattle.std.specs.Prelude.{◌≡◌, ℕ, ◌<◌, ◌⊎◌, IsTrue, IsFalse, List, [], ◌∷◌, Option, None, Some}
use Rattle.map_types.specs.declared.attr.Shape.{Shape}
use Rattle.map_types.specs.declared.kind.DomainId.{DomainId}
use Rattle.map_types.specs.declared.kind.DomainId.TheVariants.{Local, Global, CpuLru, Bucket, Freelist}
use Rattle.map_types.specs.Kind.{is_lru}
use Rattle.map_types.specs.ElementLists.{put, times, IsHead}
use Rattle.place_words.specs.declared.home.Home.{Home}
use Rattle.place_words.specs.declared.home.Home.TheVariants as homes
use Rattle.place_words.specs.declared.owner.Owner.{Owner}
use Rattle.place_words.specs.declared.owner.Owner.TheVariants as owners
use Rattle.place_words.specs.Locks.{rank_of, is_lock, lock_number, lock_named}
use Rattle.place_words.specs.declared.step.Lists.{Lists}
use Rattle.place_words.specs.declared.step.Step.{Step}
use Rattle.place_words.specs.declared.step.Step.TheVariants.{Take, Give, Claim, Settle, Attach, Detach, Rehome, Mark, Clear, Glance}
use Rattle.place_words.specs.State.{State, rows, is_bucket, HasOnlyItsLists, HasCursorInside}
use Rattle.place_words.specs.Steps.{lists_under, IsLockHome, IsFreeOrInHand, after}
use Rattle.place_words.specs.Interleaving.{Event, does, sees}

pub record Words : Type 0 where
  pub holder : ℕ → Option ℕ
  pub owner : ℕ → Owner
  pub home : ℕ → Home

-- the words of a state of the core
abbrev pub words_of : State → Words
words_of s = record { holder = s.holder; owner = s.owner; home = s.home }

-- the CPU and the lock are there, and the CPU holds the lock
pub record HoldsWord (shape : Shape) (w : Words) (cpu : ℕ) (lock : DomainId) : Type 0 where
  pub is_cpu : cpu < shape.cpus
  pub is_lock : IsTrue (is_lock shape lock)
  pub held : w.holder (lock_number shape lock) ≡ Some cpu

pub record TakesWord (shape : Shape) (w : Words) (cpu : ℕ) (lock : DomainId) : Type 0 where
  pub is_cpu : cpu < shape.cpus
  pub is_lock : IsTrue (is_lock shape lock)
  pub nobody : w.holder (lock_number shape lock) ≡ None
  pub above : (j : ℕ) → w.holder j ≡ Some cpu → rank_of (lock_named shape j) < rank_of lock

-- an element in the hand is settled: on a map that evicts its home is the lock
pub record SettlesWord (shape : Shape) (w : Words) (cpu e : ℕ) (lock : DomainId) : Type 0 where
  pub holds : HoldsWord shape w cpu lock
  pub has_free_list : IsFalse (is_bucket lock)
  pub real : e < shape.elements
  pub in_hand : w.owner e ≡ owners.Hand cpu
  pub listed : IsTrue (is_lru shape.kind) → w.home e ≡ homes.In lock

pub record AttachesWord (shape : Shape) (w : Words) (cpu e bucket : ℕ) : Type 0 where
  pub holds : HoldsWord shape w cpu (Bucket bucket)
  pub real : e < shape.elements
  pub in_hand : w.owner e ≡ owners.Hand cpu
  pub not_carried : IsTrue (is_lru shape.kind) → IsLockHome (w.home e)

-- an element is in a bucket that the CPU holds
pub record InBucketWord (shape : Shape) (w : Words) (cpu e bucket : ℕ) : Type 0 where
  pub holds : HoldsWord shape w cpu (Bucket bucket)
  pub real : e < shape.elements
  pub inside : w.owner e ≡ owners.Bucket bucket

abbrev pub IsHeldWord : Shape → Words → ℕ → Home → Type 0
IsHeldWord shape w cpu homes.Unlisted = ⊥
IsHeldWord shape w cpu (homes.In lock) = HoldsWord shape w cpu lock
IsHeldWord shape w cpu (homes.Hand c) = ⊥

abbrev pub LeavesWord : Shape → Words → ℕ → Home → Type 0
LeavesWord shape w cpu homes.Unlisted = ⊥
LeavesWord shape w cpu (homes.In lock) = HoldsWord shape w cpu lock
LeavesWord shape w cpu (homes.Hand c) = c ≡ cpu

abbrev pub EntersWord : Shape → Words → ℕ → Owner → Home → Type 0
EntersWord shape w cpu owner homes.Unlisted = ⊥
EntersWord shape w cpu owner (homes.In (Local c)) = HoldsWord shape w cpu (Local c) × IsFreeOrInHand cpu owner
EntersWord shape w cpu owner (homes.In Global) = HoldsWord shape w cpu Global
EntersWord shape w cpu owner (homes.In (CpuLru c)) = ⊥
EntersWord shape w cpu owner (homes.In (Bucket bucket)) = ⊥
EntersWord shape w cpu owner (homes.In (Freelist c)) = ⊥
EntersWord shape w cpu owner (homes.Hand c) = (c ≡ cpu) × (owner ≡ owners.Hand cpu)

pub record RehomesWord (shape : Shape) (w : Words) (cpu e : ℕ) (to : Home) : Type 0 where
  pub common : IsTrue shape.common
  pub is_cpu : cpu < shape.cpus
  pub real : e < shape.elements
  pub from_there : LeavesWord shape w cpu (w.home e)
  pub to_there : EntersWord shape w cpu (w.owner e) to

-- When a step may be done as far as words tell. Each asks of a lock, or of a lock and an element; a taking besides that the locks
-- that the CPU holds are taken before this one.
unfoldable pub WordsAllow : Shape → Words → Step → Type 0
WordsAllow shape w (Take cpu lock) = TakesWord shape w cpu lock
WordsAllow shape w (Give cpu lock lists) = HoldsWord shape w cpu lock
WordsAllow shape w (Claim cpu e lock) = HoldsWord shape w cpu lock × (e < shape.elements)
WordsAllow shape w (Settle cpu e lock) = SettlesWord shape w cpu e lock
WordsAllow shape w (Attach cpu e bucket) = AttachesWord shape w cpu e bucket
WordsAllow shape w (Detach cpu e bucket) = InBucketWord shape w cpu e bucket
WordsAllow shape w (Rehome cpu e to) = RehomesWord shape w cpu e to
WordsAllow shape w (Mark cpu e bucket) = InBucketWord shape w cpu e bucket
WordsAllow shape w (Clear cpu e) = (cpu < shape.cpus) × (e < shape.elements) × (IsHeldWord shape w cpu (w.home e) ⊎ (w.owner e ≡ owners.Hand cpu))
WordsAllow shape w (Glance cpu e) = (cpu < shape.cpus) × (e < shape.elements)

abbrev pub with_holder_word : Words → ℕ → Option ℕ → Words
with_holder_word w k new = record { holder = put w.holder k new; owner = w.owner; home = w.home }

abbrev pub with_owner_word : Words → ℕ → Owner → Words
with_owner_word w e new = record { holder = w.holder; owner = put w.owner e new; home = w.home }

-- the words after a step
unfoldable pub words_after : Shape → Words → Step → Words
words_after shape w (Take cpu lock) = with_holder_word w (lock_number shape lock) (Some cpu)
words_after shape w (Give cpu lock lists) = with_holder_word w (lock_number shape lock) None
words_after shape w (Claim cpu e lock) = with_owner_word w e (owners.Hand cpu)
words_after shape w (Settle cpu e lock) = with_owner_word w e owners.Free
words_after shape w (Attach cpu e bucket) = with_owner_word w e (owners.Bucket bucket)
words_after shape w (Detach cpu e bucket) = with_owner_word w e (owners.Hand cpu)
words_after shape w (Rehome cpu e to) = record { holder = w.holder; owner = w.owner; home = put w.home e to }
words_after shape w (Mark cpu e bucket) = w
words_after shape w (Clear cpu e) = w
words_after shape w (Glance cpu e) = w

-- Each event may happen in its place, by words alone.
unfoldable pub RunsByWords : Shape → Words → List Event → Type 0
RunsByWords shape w [] = Unit {0}
RunsByWords shape w (does step ∷ events) = WordsAllow shape w step × RunsByWords shape (words_after shape w step) events
RunsByWords shape w (sees e holder ∷ events) = (w.owner e ≡ owners.Hand holder) × RunsByWords shape w events

-- What is asked of lists besides: what is claimed is the head of a free list, and what is given back has the same elements as what
-- lies there, with its cursor inside.
pub record GivesLists (shape : Shape) (s : State) (lock : DomainId) (lists : Lists) : Type 0 where
  pub fit : HasOnlyItsLists lock lists
  pub same_free : (e : ℕ) → times e lists.free ≡ times e (lists_under shape s lock).free
  pub same_rows : (e : ℕ) → times e (rows lists) ≡ times e (rows (lists_under shape s lock))
  pub cursor : HasCursorInside lists

unfoldable pub ListsAllow : Shape → State → Step → Type 0
ListsAllow shape s (Take cpu lock) = Unit {0}
ListsAllow shape s (Give cpu lock lists) = GivesLists shape s lock lists
ListsAllow shape s (Claim cpu e lock) = IsHead e (lists_under shape s lock).free
ListsAllow shape s (Settle cpu e lock) = Unit {0}
ListsAllow shape s (Attach cpu e bucket) = Unit {0}
ListsAllow shape s (Detach cpu e bucket) = Unit {0}
ListsAllow shape s (Rehome cpu e to) = Unit {0}
ListsAllow shape s (Mark cpu e bucket) = Unit {0}
ListsAllow shape s (Clear cpu e) = Unit {0}
ListsAllow shape s (Glance cpu e) = Unit {0}

unfoldable pub RunsByLists : Shape → State → List Event → Type 0
RunsByLists shape s [] = Unit {0}
RunsByLists shape s (does step ∷ events) = ListsAllow shape s step × RunsByLists shape (after shape s step) events
RunsByLists shape s (sees e holder ∷ events) = RunsByLists shape s events
