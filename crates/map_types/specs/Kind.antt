-- The kinds of map.
use Rattle.std.specs.Prelude.{Bool, true, false}
use Rattle.map_types.specs.declared.kind.MapKind.{MapKind}
use Rattle.map_types.specs.declared.kind.MapKind.TheVariants.{Hash, PercpuHash, LruHash, LruPercpuHash}

-- the kinds that evict
abbrev pub is_lru : MapKind → Bool
is_lru Hash = false
is_lru PercpuHash = false
is_lru LruHash = true
is_lru LruPercpuHash = true

-- the kinds that have a value for each CPU
abbrev pub is_percpu : MapKind → Bool
is_percpu Hash = false
is_percpu PercpuHash = true
is_percpu LruHash = false
is_percpu LruPercpuHash = true
