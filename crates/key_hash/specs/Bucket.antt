-- Which bucket of a hash map a hash belongs to.
use Rattle.std.specs.Prelude.{ℕ, ◌-◌, bit_and}
pub use Rattle.std.specs.Int.{IsPowerOfTwo}

-- A map has a power of two of buckets, and the low bits of a hash are the number of its bucket
-- (the kernel's `__select_bucket`).
unfoldable pub bucket_number : ℕ → ℕ → ℕ
bucket_number hash buckets = bit_and hash (buckets - 1)
