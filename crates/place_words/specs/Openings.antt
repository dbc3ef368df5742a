-- What lies on the free lists of a map at first, and who has the elements. The rules are those of the kernel's
-- `pcpu_freelist_populate`, `alloc_extra_elems` and `bpf_lru_populate`.
use Rattle.std.specs.Prelude.{ℕ, ◌==◌, Bool, true, false, List, [], take, filter, position, Option, None, Some, if◌then◌else◌}
use Rattle.std.specs.List.{range_with_len, flat_map}
use Rattle.map_types.specs.declared.attr.Shape.{Shape}
use Rattle.map_types.specs.declared.kind.MapKind.{MapKind}
use Rattle.map_types.specs.declared.kind.MapKind.TheVariants.{Hash, PercpuHash, LruHash, LruPercpuHash}
use Rattle.map_types.specs.declared.kind.DomainId.{DomainId}
use Rattle.map_types.specs.declared.kind.DomainId.TheVariants.{Local, Global, CpuLru, Bucket, Freelist}
use Rattle.place_words.specs.declared.owner.Owner.{Owner}
use Rattle.place_words.specs.declared.owner.Owner.TheVariants as owners
use Rattle.place_words.specs.Locks.{is_lock}
use Rattle.place_words.specs.Shares.{share_first, share_count, pushed_from}

abbrev pub is_free : Owner → Bool
is_free owners.Free = true
is_free (owners.Bucket bucket) = false
is_free (owners.Hand cpu) = false

-- a CPU's share of the elements, as it is pushed
unfoldable pub opening_stack : Shape → ℕ → List ℕ
opening_stack shape cpu = pushed_from (share_first shape.elements shape.cpus cpu) (share_count shape.elements shape.cpus cpu)

-- On a map of kind HASH, CPU 0 then pops a spare element for each CPU in turn: the first ones of its own freelist, top
-- first, and of those of the next CPUs where these run out. That CPU 0 pops is this project's own choice. Only of that kind
-- does the list mean anything.
unfoldable pub opening_spares : Shape → List ℕ
opening_spares shape = take shape.cpus (flat_map (opening_stack shape) (range_with_len 0 shape.cpus))

-- the elements that are spares at first, by CPU: only a map of kind HASH has any
abbrev pub first_spares : Shape → MapKind → List ℕ
first_spares shape Hash = opening_spares shape
first_spares shape PercpuHash = []
first_spares shape LruHash = []
first_spares shape LruPercpuHash = []

-- the owner of an element that is this CPU's spare, or nobody's
abbrev pub spare_owner : Option ℕ → Owner
spare_owner None = owners.Free
spare_owner (Some cpu) = owners.Hand cpu

unfoldable pub opening_owner : Shape → MapKind → ℕ → Owner
opening_owner shape Hash e = spare_owner (position (λ spare. spare == e) (opening_spares shape))
opening_owner shape PercpuHash e = owners.Free
opening_owner shape LruHash e = owners.Free
opening_owner shape LruPercpuHash e = owners.Free

-- the free list of a lock, as it is pushed
abbrev pub opening_pushed : Shape → DomainId → List ℕ
opening_pushed shape (Local cpu) = []
opening_pushed shape Global = pushed_from 0 shape.elements
opening_pushed shape (CpuLru cpu) = opening_stack shape cpu
opening_pushed shape (Bucket bucket) = []
opening_pushed shape (Freelist cpu) = opening_stack shape cpu

-- and without the spares
unfoldable pub opening_free : Shape → DomainId → List ℕ
opening_free shape lock =
    if is_lock shape lock then filter (λ e. is_free (opening_owner shape shape.kind e)) (opening_pushed shape lock) else []
