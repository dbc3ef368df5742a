use Rattle.std.proofs.Common.{subst, sym}
use Rattle.map_types.specs.Shape.{HasBounds}
use Rattle.map_types.proofs.CreationLemmas.{bounds_of_shape}
use Rattle.lru_ops.proofs.map.LruMap.hash_of_key.Goals as goal

pub key_hash-requires-clause-bounds : goal.key_hash-requires-clause-bounds
key_hash-requires-clause-bounds c =
    subst HasBounds (sym c.shape.ensures) (bounds_of_shape c.self.inside.table.shape c.self.invariant.0)
