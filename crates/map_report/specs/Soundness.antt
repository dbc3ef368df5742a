-- What holds of the lists of a map that doesn't evict at each moment, whatever was called.
use Rattle.std.specs.Prelude.{◌≡◌, ℕ, List, [], length, slice_index_or}
use Rattle.std.specs.List.{AllByRecursion}
use Rattle.place_words.specs.Bodies.{HasDistinctKeys}
use Rattle.map_types.specs.declared.attr.Shape.{Shape}
use Rattle.map_types.specs.Sides.{part_count}
use Rattle.map_types.specs.Stored.{Stored, HasSizes}
use Rattle.place_words.specs.declared.finals.Finals.{Finals}
use Rattle.map_report.specs.Buckets.{bucket_of_key}
use Rattle.map_report.specs.EachOnce.{EachOnce}
use Rattle.map_report.specs.Serial.{spare_count}

-- a map has as many buckets, freelists and spares as its shape says
pub record HasLists (shape : Shape) (lists : Finals) : Type 0 where
  pub buckets : length lists.buckets ≡ shape.buckets
  pub freelists : length lists.freelists ≡ shape.cpus
  pub spares : length lists.spares ≡ spare_count shape

-- a bucket has keys that hash to it, none of them twice, each with a key and values of the map's sizes
pub record IsBucket (shape : Shape) (number : ℕ) (bucket : List Stored) : Type 0 where
  pub own : AllByRecursion (λ (stored : Stored). bucket_of_key shape stored.key ≡ number) bucket
  pub distinct : HasDistinctKeys bucket
  pub sized : AllByRecursion (HasSizes shape.key_size (part_count shape) shape.value_size) bucket

-- no list of the kinds that evict has anything
pub record HasNoLruLists (lists : Finals) : Type 0 where
  pub sets : lists.sets ≡ []
  pub locals : lists.locals ≡ []
  pub marked : lists.marked ≡ []

-- the lists of a map of this shape
pub record IsSound (shape : Shape) (lists : Finals) : Type 0 where
  pub lengths : HasLists shape lists
  pub each_once : EachOnce shape.elements lists
  pub each_bucket : (number : ℕ) → IsBucket shape number (slice_index_or lists.buckets number [])
  pub no_lru_lists : HasNoLruLists lists
