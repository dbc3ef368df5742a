-- What holds of each created map.
use Rattle.std.specs.Prelude.{◌≡◌, ◌≢◌, ◌+◌, ◌%◌, ◌≤◌, IsTrue, IsFalse}
use Rattle.std.specs.Int.{IsPowerOfTwo}
use Rattle.map_types.specs.declared.kind.MapKind.TheVariants.{Hash}
use Rattle.map_types.specs.declared.attr.Shape.{Shape}
use Rattle.map_types.specs.Creation.{pool_of}
use Rattle.map_types.specs.Kind.{is_lru}

-- the bounds that the limits and the rounding give
pub record HasBounds (shape : Shape) : Type 0 where
  pub some_cpu : 1 ≤ shape.cpus
  pub cpus_bounded : shape.cpus ≤ 16
  pub some_capacity : 1 ≤ shape.capacity
  pub capacity_bounded : shape.capacity ≤ 65550
  pub capacity_in_elements : shape.capacity ≤ shape.elements
  pub elements_bounded : shape.elements ≤ 65566
  pub capacity_in_buckets : shape.capacity ≤ shape.buckets
  pub buckets_bounded : shape.buckets ≤ 131072
  pub buckets_power : IsPowerOfTwo shape.buckets
  pub some_key : 1 ≤ shape.key_size
  pub key_bounded : shape.key_size ≤ 512
  pub some_value : 1 ≤ shape.value_size
  pub value_bounded : shape.value_size ≤ 4096
  pub pool_bounded : pool_of shape ≤ 268435456
  -- HASH has a spare element for each CPU, the other kinds have none
  pub spares_of_hash : shape.kind ≡ Hash → shape.elements ≡ shape.capacity + shape.cpus
  pub spares_of_others : shape.kind ≢ Hash → shape.elements ≡ shape.capacity
  -- only a map that evicts has lists to share, and where each CPU has lists of its own, all have as many keys
  pub common_evicts : IsTrue shape.common → IsTrue (is_lru shape.kind)
  pub equal_shares : IsTrue (is_lru shape.kind) → IsFalse shape.common → shape.capacity % shape.cpus ≡ 0
