use Rattle.std.proofs.Common.{subst, sym}
use Rattle.key_hash.specs.Bucket.{IsPowerOfTwo}
use Rattle.map_types.specs.declared.attr.Shape.{Shape}
use Rattle.map_types.proofs.CreationLemmas.{bounds_of_shape}
use Rattle.lru_ops.proofs.map.LruMap.bucket_of_hash.Goals as goal

pub bucket_of-requires : goal.bucket_of-requires
bucket_of-requires c =
    subst (λ (s : Shape). IsPowerOfTwo s.buckets) (sym c.shape.ensures) (bounds_of_shape c.self.inside.table.shape c.self.invariant.0).buckets_power
