-- The numbers by which owners and homes are kept. CPUs are below 16 and buckets below 131,072; other numbers are no code.
use Rattle.std.specs.Prelude.{ℕ, ◌+◌, ◌<◌}
use Rattle.map_types.specs.declared.kind.DomainId.TheVariants.{Local, Global, CpuLru, Bucket, Freelist}
use Rattle.place_words.specs.declared.home.Home.{Home}
use Rattle.place_words.specs.declared.home.Home.TheVariants as homes
use Rattle.place_words.specs.declared.owner.Owner.{Owner}
use Rattle.place_words.specs.declared.owner.Owner.TheVariants as owners

-- 0 is free, 1 + c the hand of CPU c, 32 + b bucket b
abbrev pub owner_code : Owner → ℕ
owner_code owners.Free = 0
owner_code (owners.Hand cpu) = 1 + cpu
owner_code (owners.Bucket bucket) = 32 + bucket

-- the owners that have a code: CPUs below 16, and buckets below 131,072
abbrev pub HasOwnerCode : Owner → Type 0
HasOwnerCode owners.Free = Unit {0}
HasOwnerCode (owners.Hand cpu) = cpu < 16
HasOwnerCode (owners.Bucket bucket) = bucket < 131072

-- 0 is unlisted, 1 + c the hand of CPU c, 32 + c its local lists, 64 the global lists, 96 + c its own list set
abbrev pub home_code : Home → ℕ
home_code homes.Unlisted = 0
home_code (homes.Hand cpu) = 1 + cpu
home_code (homes.In (Local cpu)) = 32 + cpu
home_code (homes.In Global) = 64
home_code (homes.In (CpuLru cpu)) = 96 + cpu
-- these two have no code, and a number only so that the function is whole
home_code (homes.In (Bucket bucket)) = 0
home_code (homes.In (Freelist cpu)) = 0

-- The homes that have a code: those of CPUs below 16, and none under a bucket or a freelist, where no element is listed.
abbrev pub HasHomeCode : Home → Type 0
HasHomeCode homes.Unlisted = Unit {0}
HasHomeCode (homes.Hand cpu) = cpu < 16
HasHomeCode (homes.In (Local cpu)) = cpu < 16
HasHomeCode (homes.In Global) = Unit {0}
HasHomeCode (homes.In (CpuLru cpu)) = cpu < 16
HasHomeCode (homes.In (Bucket bucket)) = ⊥
HasHomeCode (homes.In (Freelist cpu)) = ⊥
