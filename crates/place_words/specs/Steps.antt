-- The steps: when each may be done, and what it changes.
use Rattle.std.specs.Prelude.{◌≡◌, ℕ, ◌<◌, ◌≤◌, Bool, true, false, ◌==◌, ◌⊎◌, IsTrue, IsFalse, ⊤, List, [], ◌∷◌, Option, None, Some, if◌then◌else◌}
use Rattle.map_types.specs.declared.attr.Shape.{Shape}
use Rattle.map_types.specs.declared.kind.DomainId.{DomainId}
use Rattle.map_types.specs.declared.kind.DomainId.TheVariants.{Local, Global, CpuLru, Bucket, Freelist}
use Rattle.map_types.specs.Kind.{is_lru}
use Rattle.place_words.specs.declared.home.Home.{Home}
use Rattle.place_words.specs.declared.home.Home.TheVariants as homes
use Rattle.place_words.specs.declared.owner.Owner.{Owner}
use Rattle.place_words.specs.declared.owner.Owner.TheVariants as owners
use Rattle.place_words.specs.Locks.{rank_of, is_lock, lock_number, lock_named}
use Rattle.place_words.specs.declared.step.Lists.{Lists}
use Rattle.place_words.specs.declared.step.Step.{Step}
use Rattle.place_words.specs.declared.step.Step.TheVariants.{Take, Give, Claim, Settle, Attach, Detach, Rehome, Mark, Clear, Glance}
use Rattle.map_types.specs.ElementLists.{put, times, IsIn, IsHead, without, neighbour}
use Rattle.place_words.specs.Openings.{is_free}
use Rattle.place_words.specs.State.{State, rows, is_bucket, HasOnlyItsLists, HasCursorInside}

-- what lies under a lock
abbrev pub lists_under : Shape → State → DomainId → Lists
lists_under shape s lock = s.lists (lock_number shape lock)

-- the CPU and the lock are there, and the CPU holds the lock
pub record Holds (shape : Shape) (s : State) (cpu : ℕ) (lock : DomainId) : Type 0 where
  pub is_cpu : cpu < shape.cpus
  pub is_lock : IsTrue (is_lock shape lock)
  pub held : s.holder (lock_number shape lock) ≡ Some cpu

-- Lists that change by one element

abbrev pub with_free : ℕ → Lists → Lists
with_free e lists = record { free = e ∷ lists.free; first = lists.first; second = lists.second; cursor = lists.cursor }

abbrev pub without_free : ℕ → Lists → Lists
without_free e lists =
    record { free = without e lists.free; first = lists.first; second = lists.second; cursor = lists.cursor }

-- A new row goes to the head of pending, of inactive, or of the bucket. A freelist has none.
abbrev pub with_row : DomainId → ℕ → Lists → Lists
with_row (Local cpu) e lists =
    record { free = lists.free; first = e ∷ lists.first; second = lists.second; cursor = lists.cursor }
with_row Global e lists =
    record { free = lists.free; first = lists.first; second = e ∷ lists.second; cursor = lists.cursor }
with_row (CpuLru cpu) e lists =
    record { free = lists.free; first = lists.first; second = e ∷ lists.second; cursor = lists.cursor }
with_row (Bucket bucket) e lists =
    record { free = lists.free; first = e ∷ lists.first; second = lists.second; cursor = lists.cursor }
with_row (Freelist cpu) e lists = lists

-- a cursor at an element that leaves moves to its neighbour towards the head, or to the mark
abbrev pub cursor_without : ℕ → Option ℕ → List ℕ → Option ℕ
cursor_without e None inactive = None
cursor_without e (Some x) inactive = if x == e then neighbour e inactive else Some x

abbrev pub without_row : ℕ → Lists → Lists
without_row e lists = record {
  free = lists.free;
  first = without e lists.first;
  second = without e lists.second;
  cursor = cursor_without e lists.cursor lists.second;
}

-- Take: nobody holds the lock, and its rank is above the ranks of all that the CPU holds.
pub record CanTake (shape : Shape) (s : State) (cpu : ℕ) (lock : DomainId) : Type 0 where
  pub is_cpu : cpu < shape.cpus
  pub is_lock : IsTrue (is_lock shape lock)
  pub nobody : s.holder (lock_number shape lock) ≡ None
  pub above : (j : ℕ) → s.holder j ≡ Some cpu → rank_of (lock_named shape j) < rank_of lock

abbrev pub taken : Shape → State → ℕ → DomainId → State
taken shape s cpu lock = record {
  holder = put s.holder (lock_number shape lock) (Some cpu);
  lists = s.lists;
  owner = s.owner;
  home = s.home;
  bit = s.bit;
}

-- Give: the lists given back have the same elements free, and the same elements listed or in the bucket, each once.
pub record CanGive (shape : Shape) (s : State) (cpu : ℕ) (lock : DomainId) (lists : Lists) : Type 0 where
  pub holds : Holds shape s cpu lock
  pub fit : HasOnlyItsLists lock lists
  pub same_free : (e : ℕ) → times e lists.free ≡ times e (lists_under shape s lock).free
  pub same_rows : (e : ℕ) → times e (rows lists) ≡ times e (rows (lists_under shape s lock))
  pub free_once : (e : ℕ) → times e lists.free ≤ 1
  pub rows_once : (e : ℕ) → times e (rows lists) ≤ 1
  pub cursor : HasCursorInside lists

abbrev pub given : Shape → State → DomainId → Lists → State
given shape s lock lists = record {
  holder = put s.holder (lock_number shape lock) None;
  lists = put s.lists (lock_number shape lock) lists;
  owner = s.owner;
  home = s.home;
  bit = s.bit;
}

-- an element with a new owner, and what then lies under a lock
abbrev pub with_owner : Shape → State → ℕ → Owner → DomainId → Lists → State
with_owner shape s e owner lock lists = record {
  holder = s.holder;
  lists = put s.lists (lock_number shape lock) lists;
  owner = put s.owner e owner;
  home = s.home;
  bit = s.bit;
}

-- Claim: the element is the head of the lock's free list. It comes to the CPU's hand, and on a map that evicts it is
-- listed from then on.
pub record CanClaim (shape : Shape) (s : State) (cpu : ℕ) (e : ℕ) (lock : DomainId) : Type 0 where
  pub holds : Holds shape s cpu lock
  pub real : e < shape.elements
  pub head : IsHead e (lists_under shape s lock).free

abbrev pub claimed : Shape → State → ℕ → ℕ → DomainId → State
claimed shape s cpu e lock =
    with_owner shape s e (owners.Hand cpu) lock (with_row lock e (without_free e (lists_under shape s lock)))

-- Settle: the lock has a free list, and the element is in the CPU's hand. On a map that evicts it is listed under the lock.
pub record CanSettle (shape : Shape) (s : State) (cpu : ℕ) (e : ℕ) (lock : DomainId) : Type 0 where
  pub holds : Holds shape s cpu lock
  pub has_free_list : IsFalse (is_bucket lock)
  pub real : e < shape.elements
  pub in_hand : s.owner e ≡ owners.Hand cpu
  pub listed : IsTrue (is_lru shape.kind) → IsIn e (rows (lists_under shape s lock))

abbrev pub settled : Shape → State → ℕ → DomainId → State
settled shape s e lock =
    with_owner shape s e owners.Free lock (with_free e (without_row e (lists_under shape s lock)))

-- the home is a lock
abbrev pub IsLockHome : Home → Type 0
IsLockHome homes.Unlisted = ⊥
IsLockHome (homes.In lock) = ⊤
IsLockHome (homes.Hand cpu) = ⊥

-- Attach: the element is in the CPU's hand, and isn't carried.
pub record CanAttach (shape : Shape) (s : State) (cpu : ℕ) (e : ℕ) (bucket : ℕ) : Type 0 where
  pub holds : Holds shape s cpu (Bucket bucket)
  pub real : e < shape.elements
  pub in_hand : s.owner e ≡ owners.Hand cpu
  pub not_carried : IsTrue (is_lru shape.kind) → IsLockHome (s.home e)

abbrev pub attached : Shape → State → ℕ → ℕ → State
attached shape s e bucket =
    with_owner shape s e (owners.Bucket bucket) (Bucket bucket) (with_row (Bucket bucket) e (lists_under shape s (Bucket bucket)))

-- Detach and Mark: the element is in a bucket that the CPU holds.
pub record IsInHeldBucket (shape : Shape) (s : State) (cpu : ℕ) (e : ℕ) (bucket : ℕ) : Type 0 where
  pub holds : Holds shape s cpu (Bucket bucket)
  pub real : e < shape.elements
  pub inside : IsIn e (lists_under shape s (Bucket bucket)).first

abbrev pub detached : Shape → State → ℕ → ℕ → ℕ → State
detached shape s cpu e bucket =
    with_owner shape s e (owners.Hand cpu) (Bucket bucket) (without_row e (lists_under shape s (Bucket bucket)))

abbrev pub with_bit : State → ℕ → Bool → State
with_bit s e bit = record { holder = s.holder; lists = s.lists; owner = s.owner; home = s.home; bit = put s.bit e bit }

-- the home is a lock that the CPU holds
abbrev pub IsHeldHome : Shape → State → ℕ → Home → Type 0
IsHeldHome shape s cpu homes.Unlisted = ⊥
IsHeldHome shape s cpu (homes.In lock) = Holds shape s cpu lock
IsHeldHome shape s cpu (homes.Hand c) = ⊥

-- Clear: the CPU holds the element's home, or has it in hand.
pub record CanClear (shape : Shape) (s : State) (cpu : ℕ) (e : ℕ) : Type 0 where
  pub is_cpu : cpu < shape.cpus
  pub real : e < shape.elements
  pub allowed : IsHeldHome shape s cpu (s.home e) ⊎ (s.owner e ≡ owners.Hand cpu)

-- Rehome: on a map whose CPUs share its lists, from a lock that the CPU holds or from its hand, to the global lists or
-- local ones that it holds, or to its hand. To local lists goes only what is free or in its hand, to its hand only what
-- is in it.
abbrev pub MayLeave : Shape → State → ℕ → Home → Type 0
MayLeave shape s cpu homes.Unlisted = ⊥
MayLeave shape s cpu (homes.In lock) = Holds shape s cpu lock
MayLeave shape s cpu (homes.Hand c) = c ≡ cpu

-- free, or in this CPU's hand
abbrev pub IsFreeOrInHand : ℕ → Owner → Type 0
IsFreeOrInHand cpu owners.Free = ⊤
IsFreeOrInHand cpu (owners.Bucket bucket) = ⊥
IsFreeOrInHand cpu (owners.Hand c) = c ≡ cpu

abbrev pub MayEnter : Shape → State → ℕ → Owner → Home → Type 0
MayEnter shape s cpu owner homes.Unlisted = ⊥
MayEnter shape s cpu owner (homes.In (Local c)) = Holds shape s cpu (Local c) × IsFreeOrInHand cpu owner
MayEnter shape s cpu owner (homes.In Global) = Holds shape s cpu Global
MayEnter shape s cpu owner (homes.In (CpuLru c)) = ⊥
MayEnter shape s cpu owner (homes.In (Bucket bucket)) = ⊥
MayEnter shape s cpu owner (homes.In (Freelist c)) = ⊥
MayEnter shape s cpu owner (homes.Hand c) = (c ≡ cpu) × (owner ≡ owners.Hand cpu)

pub record CanRehome (shape : Shape) (s : State) (cpu : ℕ) (e : ℕ) (to : Home) : Type 0 where
  pub common : IsTrue shape.common
  pub is_cpu : cpu < shape.cpus
  pub real : e < shape.elements
  pub from_there : MayLeave shape s cpu (s.home e)
  pub to_there : MayEnter shape s cpu (s.owner e) to

-- It leaves the free list where it is free, else the listed ones, and comes to the head of the like.
abbrev pub left_by : Owner → ℕ → Lists → Lists
left_by owner e lists = if is_free owner then without_free e lists else without_row e lists

abbrev pub joined_by : DomainId → Owner → ℕ → Lists → Lists
joined_by lock owner e lists = if is_free owner then with_free e lists else with_row lock e lists

abbrev pub after_leaving : Shape → Home → Owner → ℕ → (ℕ → Lists) → ℕ → Lists
after_leaving shape homes.Unlisted owner e lists = lists
after_leaving shape (homes.In lock) owner e lists =
    put lists (lock_number shape lock) (left_by owner e (lists (lock_number shape lock)))
after_leaving shape (homes.Hand cpu) owner e lists = lists

abbrev pub after_joining : Shape → Home → Owner → ℕ → (ℕ → Lists) → ℕ → Lists
after_joining shape homes.Unlisted owner e lists = lists
after_joining shape (homes.In lock) owner e lists =
    put lists (lock_number shape lock) (joined_by lock owner e (lists (lock_number shape lock)))
after_joining shape (homes.Hand cpu) owner e lists = lists

abbrev pub rehomed : Shape → State → ℕ → Home → State
rehomed shape s e to = record {
  holder = s.holder;
  lists = after_joining shape to (s.owner e) e (after_leaving shape (s.home e) (s.owner e) e s.lists);
  owner = s.owner;
  home = put s.home e to;
  bit = s.bit;
}

-- when a step may be done
abbrev pub IsEnabled : Shape → State → Step → Type 0
IsEnabled shape s (Take cpu lock) = CanTake shape s cpu lock
IsEnabled shape s (Give cpu lock lists) = CanGive shape s cpu lock lists
IsEnabled shape s (Claim cpu e lock) = CanClaim shape s cpu e lock
IsEnabled shape s (Settle cpu e lock) = CanSettle shape s cpu e lock
IsEnabled shape s (Attach cpu e bucket) = CanAttach shape s cpu e bucket
IsEnabled shape s (Detach cpu e bucket) = IsInHeldBucket shape s cpu e bucket
IsEnabled shape s (Rehome cpu e to) = CanRehome shape s cpu e to
IsEnabled shape s (Mark cpu e bucket) = IsInHeldBucket shape s cpu e bucket
IsEnabled shape s (Clear cpu e) = CanClear shape s cpu e
IsEnabled shape s (Glance cpu e) = (cpu < shape.cpus) × (e < shape.elements)

-- The state after a step. What Clear answers is the bit before it, and what Glance answers is the bit, the home or the
-- owner. A core does these steps without telling.
abbrev pub after : Shape → State → Step → State
after shape s (Take cpu lock) = taken shape s cpu lock
after shape s (Give cpu lock lists) = given shape s lock lists
after shape s (Claim cpu e lock) = claimed shape s cpu e lock
after shape s (Settle cpu e lock) = settled shape s e lock
after shape s (Attach cpu e bucket) = attached shape s e bucket
after shape s (Detach cpu e bucket) = detached shape s cpu e bucket
after shape s (Rehome cpu e to) = rehomed shape s e to
after shape s (Mark cpu e bucket) = with_bit s e true
after shape s (Clear cpu e) = with_bit s e false
after shape s (Glance cpu e) = s

-- one step leads from a state to another
pub record CoreStep (shape : Shape) (before : State) (step : Step) (now : State) : Type 0 where
  pub enabled : IsEnabled shape before step
  pub changed : now ≡ after shape before step

-- a list of steps, each of which may be done, leads from a state to another
abbrev pub Leads : Shape → State → List Step → State → Type 0
Leads shape before [] now = before ≡ now
Leads shape before (step ∷ steps) now = IsEnabled shape before step × Leads shape (after shape before step) steps now
