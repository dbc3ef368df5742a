-- Where the elements are: each is free, in one bucket or in the hand of one CPU, and on at most one list.
use Rattle.std.specs.Prelude.{◌≡◌, ℕ, ◌<◌, ◌/◌, Bool, false, not, ◌&&◌, ◌==◌, nat_lt, IsTrue, ⊤, List, if◌then◌else◌}
use Rattle.map_types.specs.declared.attr.Shape.{Shape}
use Rattle.map_types.specs.declared.kind.DomainId.{DomainId}
use Rattle.map_types.specs.declared.kind.DomainId.TheVariants.{Local, Global, CpuLru, Bucket, Freelist}
use Rattle.map_types.specs.Kind.{is_lru}
use Rattle.place_words.specs.declared.home.Home.{Home}
use Rattle.place_words.specs.declared.home.Home.TheVariants as homes
use Rattle.place_words.specs.declared.owner.Owner.{Owner}
use Rattle.place_words.specs.declared.owner.Owner.TheVariants as owners
use Rattle.place_words.specs.Locks.{is_lock, lock_named}
use Rattle.place_words.specs.declared.step.Lists.{Lists}
use Rattle.map_types.specs.ElementLists.{one, times}
use Rattle.place_words.specs.Openings.{is_free}
use Rattle.place_words.specs.State.{State, rows, HasOnlyItsLists, HasCursorInside}

-- Where an element lies: under the lock of this number, on whose lists it is or was last, or in the hand of a CPU that
-- carries it from one lock's lists to another's.
pub data ElementPlace : Type 0 where
  under_lock : ℕ → ElementPlace
  carried : ℕ → ElementPlace

abbrev pub lies_at : ℕ → ElementPlace → Bool
lies_at k (under_lock j) = j == k
lies_at k (carried cpu) = false

-- The home that is told of a place: on a map that evicts the lock or the hand, on others none.
abbrev pub home_of_place : Shape → ElementPlace → Home
home_of_place shape (under_lock k) = if is_lru shape.kind then homes.In (lock_named shape k) else homes.Unlisted
home_of_place shape (carried cpu) = if is_lru shape.kind then homes.Hand cpu else homes.Unlisted

abbrev pub is_in_bucket : ℕ → Owner → Bool
is_in_bucket bucket owners.Free = false
is_in_bucket bucket (owners.Bucket b) = b == bucket
is_in_bucket bucket (owners.Hand cpu) = false

-- Whether an element has a row under a lock: in a bucket it has one where the bucket owns it, and on the lists of a map
-- that evicts where it isn't free and lies there.
abbrev pub has_row : Bool → DomainId → Owner → Bool → Bool
has_row lru (Local cpu) owner here = lru && (not (is_free owner) && here)
has_row lru Global owner here = lru && (not (is_free owner) && here)
has_row lru (CpuLru cpu) owner here = lru && (not (is_free owner) && here)
has_row lru (Bucket bucket) owner here = is_in_bucket bucket owner
has_row lru (Freelist cpu) owner here = lru && (not (is_free owner) && here)

-- Under each lock the list has exactly the elements that stand there, each once.
abbrev pub EachOnce : ℕ → (ℕ → List ℕ) → (ℕ → ℕ → Bool) → Type 0
EachOnce elements list stands = (k e : ℕ) → times e (list k) ≡ one (nat_lt e elements && stands k e)

-- An element is free exactly where it stands in one lock's free list, once, and in no other free list.
abbrev pub FreePlaced : Shape → (ℕ → Lists) → (ℕ → Owner) → (ℕ → ElementPlace) → Type 0
FreePlaced shape lists owner place =
    EachOnce shape.elements (λ k. (lists k).free) (λ k e. is_free (owner e) && lies_at k (place e))

-- Its owner is a bucket exactly where it is in that bucket, once, and in no other. On a map that evicts it is listed
-- exactly where it is neither free nor carried, once, under the lock where it lies.
abbrev pub RowsPlaced : Shape → (ℕ → Lists) → (ℕ → Owner) → (ℕ → ElementPlace) → Type 0
RowsPlaced shape lists owner place =
    EachOnce shape.elements (λ k. rows (lists k)) (λ k e. has_row (is_lru shape.kind) (lock_named shape k) (owner e) (lies_at k (place e)))

-- the bucket or the CPU that owns an element is there
abbrev pub MayOwn : Shape → Owner → Type 0
MayOwn shape owners.Free = ⊤
MayOwn shape (owners.Bucket bucket) = bucket < shape.buckets
MayOwn shape (owners.Hand cpu) = cpu < shape.cpus

abbrev pub OwnersExist : Shape → (ℕ → Owner) → Type 0
OwnersExist shape owner = (e : ℕ) → e < shape.elements → MayOwn shape (owner e)

-- An element lies under no bucket. Where each CPU has a list set of its own, an element stays in that of its opening.
abbrev pub MayLieUnder : Shape → ℕ → DomainId → Type 0
MayLieUnder shape e (Local cpu) = IsTrue (is_lock shape (Local cpu))
MayLieUnder shape e Global = IsTrue (is_lock shape Global)
MayLieUnder shape e (CpuLru cpu) = IsTrue (is_lock shape (CpuLru cpu)) × (cpu ≡ e / (shape.elements / shape.cpus))
MayLieUnder shape e (Bucket bucket) = ⊥
MayLieUnder shape e (Freelist cpu) = IsTrue (is_lock shape (Freelist cpu))

-- Only a CPU that has an element in hand carries it, on a map whose CPUs share its lists.
abbrev pub MayLie : Shape → ℕ → Owner → ElementPlace → Type 0
MayLie shape e owner (under_lock k) = MayLieUnder shape e (lock_named shape k)
MayLie shape e owner (carried cpu) = IsTrue shape.common × (owner ≡ owners.Hand cpu)

abbrev pub PlacesRight : Shape → (ℕ → Owner) → (ℕ → ElementPlace) → Type 0
PlacesRight shape owner place = (e : ℕ) → e < shape.elements → MayLie shape e (owner e) (place e)

abbrev pub HomesTold : Shape → (ℕ → Home) → (ℕ → ElementPlace) → Type 0
HomesTold shape home place = (e : ℕ) → e < shape.elements → home e ≡ home_of_place shape (place e)

abbrev pub ListsFit : Shape → (ℕ → Lists) → Type 0
ListsFit shape lists = (k : ℕ) → HasOnlyItsLists (lock_named shape k) (lists k)

abbrev pub CursorsInside : (ℕ → Lists) → Type 0
CursorsInside lists = (k : ℕ) → HasCursorInside (lists k)

pub record PlacedAt (shape : Shape) (lists : ℕ → Lists) (owner : ℕ → Owner) (home : ℕ → Home) (place : ℕ → ElementPlace) : Type 0 where
  pub free : FreePlaced shape lists owner place
  pub rows : RowsPlaced shape lists owner place
  pub owners : OwnersExist shape owner
  pub places : PlacesRight shape owner place
  pub homes : HomesTold shape home place
  pub fit : ListsFit shape lists
  pub cursors : CursorsInside lists

-- each element has a place, and the lists, owners and homes are right by it
pub record Placed (shape : Shape) (s : State) : Type 0 where
  pub place : ℕ → ElementPlace
  pub placed : PlacedAt shape s.lists s.owner s.home place
