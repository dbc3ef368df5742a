-- What crates above may cite about the number of a bucket.
use Rattle.std.proofs.Common.{ℕ, ◌<◌, arith}
use Rattle.std.proofs.lemmas.Nat.{and_mask, pow_pos}
use Rattle.key_hash.specs.Bucket.{IsPowerOfTwo, bucket_number}

-- a bucket's number is below the number of buckets
pub bucket_number-lt : (hash buckets : ℕ) → IsPowerOfTwo buckets → bucket_number hash buckets < buckets
unfolding bucket_number
bucket_number-lt hash buckets (k, e) = rw e (rw and_mask (omega (arith, pow_pos k)))
