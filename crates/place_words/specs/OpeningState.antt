-- The opening of a map: where its elements are at first.
use Rattle.std.specs.Prelude.{◌≡◌, ℕ, ◌/◌, false, nat_lt, List, [], map, None, if◌then◌else◌}
use Rattle.std.specs.List.{range_with_len}
use Rattle.map_types.specs.declared.attr.Shape.{Shape}
use Rattle.map_types.specs.declared.kind.DomainId.TheVariants.{Global, CpuLru}
use Rattle.map_types.specs.Kind.{is_lru}
use Rattle.place_words.specs.declared.home.Home.{Home}
use Rattle.place_words.specs.declared.home.Home.TheVariants as homes
use Rattle.place_words.specs.declared.owner.Owner.{Owner}
use Rattle.place_words.specs.declared.owner.Owner.TheVariants as owners
use Rattle.place_words.specs.Locks.{lock_named}
use Rattle.place_words.specs.Openings.{opening_owner, opening_free}
use Rattle.place_words.specs.declared.step.Lists.{Lists}
use Rattle.place_words.specs.State.{State}

-- the owners of all elements, in order
abbrev pub AreOpeningOwners : Shape → List Owner → Type 0
AreOpeningOwners shape owners =
    owners ≡ map (opening_owner shape shape.kind) (range_with_len 0 shape.elements)

-- Where the CPUs of a map that evicts share its lists, all elements are on the global free list, pushed in order. Where
-- they don't, each has its run of them. These runs are all of one length, since the capacity is a multiple of the CPUs.
unfoldable pub opening_home : Shape → ℕ → Home
opening_home shape e =
    if shape.common then homes.In Global
    else if is_lru shape.kind then homes.In (CpuLru (e / (shape.elements / shape.cpus)))
    else homes.Unlisted

-- what lies under the lock of a number
unfoldable pub opening_lists : Shape → ℕ → Lists
opening_lists shape k =
    record { free = opening_free shape (lock_named shape k); first = []; second = []; cursor = None }

-- Nobody holds a lock, no element is listed or in a bucket, and all bits are 0. Numbers past the last element are none,
-- and count as free and unlisted.
unfoldable pub opening : Shape → State
opening shape = record {
  holder = λ k. None;
  lists = opening_lists shape;
  owner = λ e. if nat_lt e shape.elements then opening_owner shape shape.kind e else owners.Free;
  home = λ e. if nat_lt e shape.elements then opening_home shape e else homes.Unlisted;
  bit = λ e. false;
}
