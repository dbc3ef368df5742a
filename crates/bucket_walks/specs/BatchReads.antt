-- What a batch lookup or a walk over all elements gathers, what it reads of a bucket in one turn, and what a batch lookup reads of the buckets
-- from one on.
use Rattle.std.specs.Prelude.{◌≡◌, ◌≢◌, ℕ, ◌-◌, ◌<◌, ◌≤◌, nat_lt, unwrap_or, Bool, true, false, List, [], ◌++◌, length, map, Option, Some, Result, Ok, Err, if◌then◌else◌}
use Rattle.map_types.specs.declared.attr.Shape.{Shape}
use Rattle.map_types.specs.declared.call.Verb.{Verb}
use Rattle.map_types.specs.declared.kind.Side.{Side}
use Rattle.map_types.specs.declared.kind.Side.TheVariants.{Sys}
use Rattle.map_types.specs.declared.refusal.Errno.{Errno}
use Rattle.map_types.specs.declared.refusal.Errno.TheVariants.{Enoent, Einval}
use Rattle.map_types.specs.declared.reply.Reply.TheVariants.{Done, Refused, Batch}
use Rattle.map_types.specs.Pairs.{HaveSizes}
use Rattle.map_types.specs.Stored.{Stored}
use Rattle.map_types.specs.ValueLen.{value_len_of}
use Rattle.place_words.specs.declared.bucket_part.BucketPart.TheVariants.{Walk}
use Rattle.place_words.specs.declared.bucket_part.Walked.{Walked}
use Rattle.place_words.specs.declared.bucket_part.Walked.TheVariants.{Over, Taken}
use Rattle.place_words.specs.Buckets.{as_read}
use Rattle.place_words.specs.Walks.{Walks, buckets_from, pair_of, stopped_at}
use Rattle.place_table.specs.declared.view.Turned.{Turned}
use Rattle.place_table.specs.Calls.{Called, CalledWhole}
use Rattle.place_table.specs.Known.{turn_at}
use Rattle.place_table.specs.Passes.{PassView, TableView}
use Rattle.bucket_walks.specs.declared.read.BatchOut.{BatchOut}
use Rattle.bucket_walks.specs.declared.read.BatchOut.TheVariants.{Idle, Read}
use Rattle.bucket_walks.specs.declared.read.BatchRefusal.{BatchRefusal}
use Rattle.bucket_walks.specs.declared.read.BatchRefusal.TheVariants as refusals
use Rattle.bucket_walks.specs.Looks.{Looked, LooksInto}
use Rattle.bucket_walks.specs.Pages.{IsPageFrom}

-- the pairs that were read, of keys and values of these sizes in bytes, and how many may be read in all
pub record PairsSoFar : Type 0 where
  pub pairs : List (List ℕ × List ℕ)
  pub limit : ℕ
  pub key_size : ℕ
  pub value_size : ℕ

-- the sizes are those of a map's keys, and of its values as a side reads them; for a batch that is the system call
pub record IsOfSide (shape : Shape) (side : Side) (out : PairsSoFar) : Type 0 where
  pub keys : out.key_size ≡ shape.key_size
  pub values : out.value_size ≡ value_len_of shape side

abbrev pub IsOfMap : Shape → PairsSoFar → Type 0
IsOfMap shape out = IsOfSide shape Sys out

-- nothing was read yet, of a map's sizes
pub record BeginsAt (shape : Shape) (limit : ℕ) (out : PairsSoFar) : Type 0 where
  pub of_map : IsOfMap shape out
  pub none : out.pairs ≡ []
  pub limit_is : out.limit ≡ limit

abbrev pub with_pairs : PairsSoFar → List (List ℕ × List ℕ) → PairsSoFar
with_pairs out more = record out { pairs = out.pairs ++ more }

-- the elements of a bucket as the system call reads them on a CPU, and the keys with these values
abbrev pub all_read : Shape → ℕ → List Stored → List Stored
all_read shape cpu bodies = map (as_read shape cpu) bodies

-- what a walk with so much room reads of a bucket on a CPU: all of it, or nothing where there is no room for that
abbrev pub walked_by : Shape → ℕ → ℕ → List Stored → Walked
walked_by shape cpu room bodies = if nat_lt room (length bodies) then Over (length bodies) else Taken (all_read shape cpu bodies)

-- what was gathered, after a bucket of which this was read, and whether it was read whole
abbrev pub IsGathered : Walked → Bool → PairsSoFar → PairsSoFar → Type 0
IsGathered (Over n) whole out now = (whole ≡ false) × (now ≡ out)
IsGathered (Taken all) whole out now = (whole ≡ true) × (now ≡ with_pairs out (map pair_of all))

-- A bucket that was left has more elements than there was room for, and no more than the map. What was read of one that was taken fits
-- the room, and has the sizes of the map.
abbrev pub FitsRoom : Shape → ℕ → Walked → Type 0
FitsRoom shape room (Over n) = (room < n) × (n ≤ shape.elements)
FitsRoom shape room (Taken all) = (length all ≤ room) × HaveSizes shape.key_size (value_len_of shape Sys) (map pair_of all)

-- one turn of this bucket was made, which is told as one that read it whole, or left it where there was no room
pub record ReadsInto (t : TableView) (bucket : ℕ) (before after : PassView) (whole : Bool) (out now : PairsSoFar) : Type 0 where
  pub walked : Walked
  pub into : LooksInto t bucket before after (Walk false (out.limit - length out.pairs) walked)
  pub gathered : IsGathered walked whole out now
  pub fits : FitsRoom t.shape (out.limit - length out.pairs) walked

-- why a batch ends at this bucket, or after the last one, with these pairs
abbrev pub stop_of : Shape → ℕ → List (List ℕ × List ℕ) → Option Errno
stop_of shape next pairs = if nat_lt next shape.buckets then stopped_at pairs else Some Enoent

-- the buckets from one on were read whole, up to the first for which there was no room, and give a page
pub record ReadsOn (t : TableView) (from : ℕ) (before after : PassView) (limit : ℕ) (pairs : List (List ℕ × List ℕ)) (next : ℕ) : Type 0 where
  pub steps : List Turned
  pub told : List Turned
  pub lost : List ℕ
  pub looked : Looked t before after steps told lost
  pub trace : Walks t.shape before.cpu false limit (buckets_from t.shape from) [] (map (turn_at t.shape) told) (Batch (stop_of t.shape next pairs) pairs next)
  pub page : IsPageFrom t.shape limit from (stop_of t.shape next pairs) pairs next

-- A batch read made a trace of it, with the reply that goes with its answer. One that makes no walk changed nothing and gave no lock
-- back, and where memory wasn't found nothing was done.
abbrev pub Answers : TableView → PassView → PassView → Verb → Result BatchOut BatchRefusal → Type 0
Answers t before after verb (Ok Idle) = (after ≡ before) × CalledWhole t before after verb Done
Answers t before after verb (Ok (Read stop taken next)) = Called t before after verb (Batch stop taken next)
Answers t before after verb (Err refusals.Einval) = (after ≡ before) × CalledWhole t before after verb (Refused Einval)
Answers t before after verb (Err refusals.Past) = (after ≡ before) × CalledWhole t before after verb (Refused Enoent)
Answers t before after verb (Err refusals.NoMemory) = after ≡ before

-- a walk was to be made
abbrev pub IsToRead : Shape → ℕ → Option ℕ → ℕ → Type 0
IsToRead shape count start flags = (flags ≡ 0) × (count ≢ 0) × (unwrap_or start 0 < shape.buckets)

-- Where each answer comes. Want of memory comes only where a walk was to be made.
abbrev pub Comes : Shape → ℕ → Option ℕ → ℕ → Result BatchOut BatchRefusal → Type 0
Comes shape count start flags (Err refusals.Einval) = flags ≢ 0
Comes shape count start flags (Ok Idle) = (flags ≡ 0) × (count ≡ 0)
Comes shape count start flags (Err refusals.Past) = (flags ≡ 0) × (count ≢ 0) × (shape.buckets ≤ unwrap_or start 0)
Comes shape count start flags (Ok (Read stop taken next)) = IsToRead shape count start flags × (stop ≡ stop_of shape next taken)
Comes shape count start flags (Err refusals.NoMemory) = IsToRead shape count start flags
