-- The state of a map's places: who holds each lock and what lies under it, and of each element its owner, its home and
-- its bit. Locks, elements and CPUs go by their numbers.
use Rattle.std.specs.Prelude.{◌≡◌, ℕ, Bool, true, false, ⊤, List, [], ◌++◌, Option, None, IfSome}
use Rattle.map_types.specs.declared.kind.DomainId.{DomainId}
use Rattle.map_types.specs.declared.kind.DomainId.TheVariants.{Local, Global, CpuLru, Bucket, Freelist}
use Rattle.place_words.specs.declared.home.Home.{Home}
use Rattle.place_words.specs.declared.owner.Owner.{Owner}
use Rattle.place_words.specs.declared.step.Lists.{Lists}
use Rattle.map_types.specs.ElementLists.{IsIn}

pub record State : Type 0 where
  -- of a lock: the CPU that holds it
  pub holder : ℕ → Option ℕ
  -- of a lock: what lies under it
  pub lists : ℕ → Lists
  -- of an element
  pub owner : ℕ → Owner
  pub home : ℕ → Home
  pub bit : ℕ → Bool

abbrev pub no_lists : Lists
no_lists = record { free = []; first = []; second = []; cursor = None }

-- The elements that are listed under a lock, or in a bucket.
abbrev pub rows : Lists → List ℕ
rows lists = lists.first ++ lists.second

abbrev pub is_bucket : DomainId → Bool
is_bucket (Local cpu) = false
is_bucket Global = false
is_bucket (CpuLru cpu) = false
is_bucket (Bucket bucket) = true
is_bucket (Freelist cpu) = false

-- Local lists are free and pending ones. The global lists and a list set are free, active and inactive ones. A bucket is
-- one list, and so is a freelist. What a lock doesn't have is empty.
abbrev pub HasOnlyItsLists : DomainId → Lists → Type 0
HasOnlyItsLists (Local cpu) lists = lists.second ≡ []
HasOnlyItsLists Global lists = ⊤
HasOnlyItsLists (CpuLru cpu) lists = ⊤
HasOnlyItsLists (Bucket bucket) lists = (lists.free ≡ []) × (lists.second ≡ [])
HasOnlyItsLists (Freelist cpu) lists = (lists.first ≡ []) × (lists.second ≡ [])

-- a cursor is an inactive element or the mark
abbrev pub HasCursorInside : Lists → Type 0
HasCursorInside lists = IfSome lists.cursor (λ e. IsIn e lists.second)
