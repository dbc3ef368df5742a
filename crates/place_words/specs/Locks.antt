-- The locks of a map: which there are, in which order they are taken, and their numbers.
use Rattle.std.specs.Prelude.{ℕ, ◌+◌, ◌-◌, Bool, true, false, not, ◌&&◌, ◌==◌, nat_lt, if◌then◌else◌}
use Rattle.map_types.specs.declared.attr.Shape.{Shape}
use Rattle.map_types.specs.declared.kind.DomainId.{DomainId}
use Rattle.map_types.specs.declared.kind.DomainId.TheVariants.{Local, Global, CpuLru, Bucket, Freelist}
use Rattle.map_types.specs.Kind.{is_lru}

-- Local lists are locked before the global lists or a list set, these before a bucket, a bucket before a freelist. The
-- global lists and all list sets share a rank, so that a CPU holds one of them at most.
abbrev pub rank_of : DomainId → ℕ
rank_of (Local cpu) = 1
rank_of Global = 2
rank_of (CpuLru cpu) = 2
rank_of (Bucket bucket) = 3
rank_of (Freelist cpu) = 4

-- Every map has buckets. One that doesn't evict has a freelist for each CPU. One that evicts has either lists that the
-- CPUs share, with local ones for each, or a list set for each.
abbrev pub is_lock : Shape → DomainId → Bool
is_lock shape (Local cpu) = shape.common && nat_lt cpu shape.cpus
is_lock shape Global = shape.common
is_lock shape (CpuLru cpu) = (is_lru shape.kind && not shape.common) && nat_lt cpu shape.cpus
is_lock shape (Bucket bucket) = nat_lt bucket shape.buckets
is_lock shape (Freelist cpu) = not (is_lru shape.kind) && nat_lt cpu shape.cpus

-- the number of the first list set, of the first bucket and of the first freelist
abbrev pub first_set : Shape → ℕ
first_set shape = shape.cpus + 1

abbrev pub first_bucket : Shape → ℕ
first_bucket shape = first_set shape + shape.cpus

abbrev pub first_freelist : Shape → ℕ
first_freelist shape = first_bucket shape + shape.buckets

-- every lock's number is below this one
abbrev pub lock_count : Shape → ℕ
lock_count shape = first_freelist shape + shape.cpus

-- locks are numbered in this order: local lists by CPU, the global lists, list sets by CPU, buckets, freelists by CPU
abbrev pub lock_number : Shape → DomainId → ℕ
lock_number shape (Local cpu) = cpu
lock_number shape Global = shape.cpus
lock_number shape (CpuLru cpu) = first_set shape + cpu
lock_number shape (Bucket bucket) = first_bucket shape + bucket
lock_number shape (Freelist cpu) = first_freelist shape + cpu

-- the lock of a number, for a number of a lock that the map has
unfoldable pub lock_named : Shape → ℕ → DomainId
lock_named shape k =
    if nat_lt k shape.cpus then Local k
    else if k == shape.cpus then Global
    else if nat_lt k (first_bucket shape) then CpuLru (k - first_set shape)
    else if nat_lt k (first_freelist shape) then Bucket (k - first_bucket shape)
    else Freelist (k - first_freelist shape)

-- whether two names are of one lock
abbrev pub is_same_lock : DomainId → DomainId → Bool
is_same_lock (Local c) (Local d) = c == d
is_same_lock Global Global = true
is_same_lock (CpuLru c) (CpuLru d) = c == d
is_same_lock (Bucket b) (Bucket d) = b == d
is_same_lock (Freelist c) (Freelist d) = c == d
is_same_lock lock other = false
