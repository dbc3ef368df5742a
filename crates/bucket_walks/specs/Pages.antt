-- What a batch lookup gives, as a page of a map, as far as a copy rests on it. Its pairs are those of whole buckets, from one on, up
-- to the first for which there is no room, and no bucket has more elements than the map.
use Rattle.std.specs.Prelude.{◌≡◌, ℕ, ◌<◌, ◌≤◌, unwrap_or, List, [], ◌∷◌, length, Option, None, Some, Result, Ok}
use Rattle.map_types.specs.declared.attr.Shape.{Shape}
use Rattle.map_types.specs.declared.kind.Side.TheVariants.{Sys}
use Rattle.map_types.specs.declared.refusal.Errno.{Errno}
use Rattle.map_types.specs.declared.refusal.Errno.TheVariants.{Enoent, Enospc}
use Rattle.map_types.specs.Pairs.{HaveSizes}
use Rattle.map_types.specs.ValueLen.{value_len_of}
use Rattle.bucket_walks.specs.declared.read.BatchOut.{BatchOut}
use Rattle.bucket_walks.specs.declared.read.BatchOut.TheVariants.{Read}
use Rattle.bucket_walks.specs.declared.read.BatchRefusal.{BatchRefusal}

-- Why a page ends. With no stop it has a pair, and `next` is a bucket behind the start. With ENOSPC it has none, `next` is a bucket,
-- and fewer pairs were asked for than the map has elements. With ENOENT `next` is behind the last bucket. There is no other stop.
abbrev pub EndsPage : Shape → ℕ → ℕ → Option Errno → List (List ℕ × List ℕ) → ℕ → Type 0
EndsPage shape count start None (pair ∷ pairs) next = (start < next) × (next < shape.buckets)
EndsPage shape count start (Some Enospc) [] next = (start ≤ next) × (next < shape.buckets) × (count < shape.elements)
EndsPage shape count start (Some Enoent) pairs next = next ≡ shape.buckets
EndsPage shape count start stop pairs next = ⊥

-- a page of at most so many pairs, of keys and values of the map's sizes, from a bucket on
pub record IsPageFrom (shape : Shape) (count start : ℕ) (stop : Option Errno) (pairs : List (List ℕ × List ℕ)) (next : ℕ) : Type 0 where
  pub ends : EndsPage shape count start stop pairs next
  pub few : length pairs ≤ count
  pub sizes : HaveSizes shape.key_size (value_len_of shape Sys) pairs

-- A batch lookup gives such a page, where it goes over buckets at all.
abbrev pub GivesPage : Shape → ℕ → Option ℕ → Result BatchOut BatchRefusal → Type 0
GivesPage shape count start (Ok (Read stop pairs next)) = IsPageFrom shape count (unwrap_or start 0) stop pairs next
GivesPage shape count start answer = Unit {0}
