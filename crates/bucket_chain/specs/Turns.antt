-- What a bucket's list is before and after a turn of its lock.
use Rattle.std.specs.Prelude.{◌≡◌, ℕ, List}
use Rattle.map_types.specs.declared.attr.Shape.{Shape}
use Rattle.map_types.specs.Stored.{Stored}
use Rattle.place_words.specs.declared.bucket_part.BucketPart.{BucketPart}
use Rattle.place_words.specs.Buckets.{AllowsInBucket, bucket_after}

-- a CPU's turn may be this part there, and it left what the part leaves
pub record IsTurn (shape : Shape) (cpu : ℕ) (part : BucketPart) (before after : List Stored) : Type 0 where
  pub allowed : AllowsInBucket shape cpu part before
  pub left : after ≡ bucket_after shape cpu part before
