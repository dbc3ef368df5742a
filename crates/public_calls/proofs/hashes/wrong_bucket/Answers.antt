use Rattle.std.proofs.Common.{refl}
use Rattle.public_calls.proofs.hashes.wrong_bucket.Goals as goal

-- 4 and 8 are powers of two.
pub bucket_of-requires-else-bucket_of-of_two : goal.bucket_of-requires-else-bucket_of-of_two
bucket_of-requires-else-bucket_of-of_two c = (2, refl)

pub bucket_of-requires-else-bucket_of-of_four : goal.bucket_of-requires-else-bucket_of-of_four
bucket_of-requires-else-bucket_of-of_four c = (3, refl)
