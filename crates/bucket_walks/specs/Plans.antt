-- Which walk a batch read is to make.
use Rattle.std.specs.Prelude.{◌≡◌, ◌≢◌, ℕ, ◌≤◌, min, unwrap_or, Option, None, Some, Result, Ok, Err}
use Rattle.map_types.specs.declared.attr.Shape.{Shape}
use Rattle.bucket_walks.specs.declared.read.BatchRefusal.{BatchRefusal}
use Rattle.bucket_walks.specs.declared.read.BatchRefusal.TheVariants as refusals
use Rattle.bucket_walks.specs.declared.read.Planned.{Planned}
use Rattle.bucket_walks.specs.BatchReads.{BeginsAt, IsToRead}

-- it starts there, with room for so many pairs, and at most for as many as the map has elements
pub record IsPlanned (shape : Shape) (count : ℕ) (start : Option ℕ) (planned : Planned) : Type 0 where
  pub from_is : planned.from ≡ unwrap_or start 0
  pub begins : BeginsAt shape (min count shape.elements) planned.out

-- The walk, or nothing where the count is 0, or why there is none. Want of memory comes only where a walk was to be made.
abbrev pub Plans : Shape → ℕ → Option ℕ → ℕ → Result (Option Planned) BatchRefusal → Type 0
Plans shape count start flags (Err refusals.Einval) = flags ≢ 0
Plans shape count start flags (Ok None) = (flags ≡ 0) × (count ≡ 0)
Plans shape count start flags (Err refusals.Past) = (flags ≡ 0) × (count ≢ 0) × (shape.buckets ≤ unwrap_or start 0)
Plans shape count start flags (Ok (Some planned)) = IsToRead shape count start flags × IsPlanned shape count start planned
Plans shape count start flags (Err refusals.NoMemory) = IsToRead shape count start flags
