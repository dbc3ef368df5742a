-- What lies under a lock: as the table has it, as histories tell it, and as lists of elements.
use Rattle.std.specs.Prelude.{◌≡◌, ◌+◌, ◌<◌, [], length, All, None}
use Rattle.map_types.specs.declared.attr.Shape.{Shape}
use Rattle.map_types.specs.declared.kind.DomainId.{DomainId}
use Rattle.map_types.specs.declared.kind.DomainId.TheVariants.{Local, Global, CpuLru, Bucket, Freelist}
use Rattle.map_types.specs.Stored.{IsSized}
use Rattle.place_words.specs.Bodies.{numbers}
use Rattle.place_words.specs.Histories as histories
use Rattle.place_words.specs.Histories.{in_bucket, on_freelist, in_locals, in_global, in_own}
use Rattle.map_types.specs.Listed.{elements_of}
use Rattle.place_words.specs.Sets.{ListSet}
use Rattle.local_lists.specs.LocalLists.{LocalView, IsLocal, local_told}
use Rattle.lru_lists.specs.Sets.{SetView, IsSet, listed}
use Rattle.place_words.specs.declared.step.Lists.{Lists}
use Rattle.place_table.specs.declared.content.Content.{Content}
use Rattle.place_table.specs.declared.content.Content.TheVariants as contents

-- a list set as histories tell it
abbrev pub set_told : SetView → ListSet
set_told set = record { lists = listed set; free = numbers set.free.bodies }

-- The set under the global lock is the one that the CPUs share, and any other is a CPU's own.
abbrev pub set_under : DomainId → ListSet → histories.Content
set_under Global set = in_global set
set_under lock set = in_own set

-- what lies under a lock, as histories tell it
abbrev pub content_told : DomainId → Content → histories.Content
content_told lock (contents.Bucket chain) = in_bucket chain.bodies
content_told lock (contents.Freelist freelist) = on_freelist (numbers freelist.bodies)
content_told lock (contents.Local lists) = in_locals (local_told lists)
content_told lock (contents.Set set) = set_under lock (set_told set)

-- as lists of elements: of local lists the first is pending, of a set active, and the second inactive
abbrev pub lists_of_set : ListSet → Lists
lists_of_set set = record {
  free = set.free;
  first = elements_of set.lists.active;
  second = elements_of set.lists.inactive;
  cursor = set.lists.cursor;
}

abbrev pub lists_of : histories.Content → Lists
lists_of (in_bucket bodies) = record { free = []; first = numbers bodies; second = []; cursor = None }
lists_of (on_freelist stack) = record { free = stack; first = []; second = []; cursor = None }
lists_of (in_locals lists) = record { free = lists.free; first = elements_of lists.pending; second = []; cursor = None }
lists_of (in_global set) = lists_of_set set
lists_of (in_own set) = lists_of_set set

-- a list set as it was created, with room for every element: no element stands on two of its lists
pub record FitsSet (shape : Shape) (set : SetView) : Type 0 where
  pub sized : All (IsSized shape) set.free.bodies
  pub bound : set.elements ≡ shape.elements
  pub room : length set.free.bodies + set.free.spare ≡ shape.elements
  pub whole : IsSet set

-- local lists as they were created, with room for every element: no element stands on both, and the next theft starts at a CPU of
-- the map
pub record FitsLocal (shape : Shape) (lists : LocalView) : Type 0 where
  pub sized : All (IsSized shape) lists.free.bodies
  pub bound : lists.elements ≡ shape.elements
  pub room : length lists.free.bodies + lists.free.spare ≡ shape.elements
  pub whole : IsLocal lists
  pub steal : lists.steal < shape.cpus

-- A bucket lies under a bucket's lock, a freelist under a freelist's, local lists under a CPU's local lock, and a list set under the
-- global lock or that of a CPU's own set, with bodies of the map's sizes. A freelist has room for every element, as it was created,
-- and so have local lists and a list set.
abbrev pub FitsLock : Shape → DomainId → Content → Type 0
FitsLock shape (Bucket bucket) (contents.Bucket chain) = All (IsSized shape) chain.bodies
FitsLock shape (Freelist cpu) (contents.Freelist freelist) = All (IsSized shape) freelist.bodies × (freelist.room ≡ shape.elements)
FitsLock shape (CpuLru cpu) (contents.Set set) = FitsSet shape set
FitsLock shape (Local cpu) (contents.Local lists) = FitsLocal shape lists
FitsLock shape Global (contents.Set set) = FitsSet shape set
FitsLock shape lock here = ⊥
