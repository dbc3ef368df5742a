-- What is told of a turn on a bucket: whether it is allowed there, and where it is, what it left.
use Rattle.std.specs.Prelude.{◌≡◌, ℕ, ◌<◌, Bool, MatchBool, List, Option, None, Some}
use Rattle.map_types.specs.declared.attr.Shape.{Shape}
use Rattle.map_types.specs.declared.kind.Side.{Side}
use Rattle.map_types.specs.Stored.{Stored}
use Rattle.place_words.specs.declared.bucket_part.BucketPart.{BucketPart}
use Rattle.place_words.specs.declared.bucket_part.Put.{Put}
use Rattle.place_words.specs.declared.history.Entry.{Entry}
use Rattle.place_words.specs.declared.history.Part.{Part}
use Rattle.place_words.specs.declared.history.Part.TheVariants as parts
use Rattle.place_words.specs.Buckets.{IsAbsent, ReadsValue, AllowsPut, bucket_after_put, AllowsInBucket, bucket_after}
use Rattle.place_words.specs.Sizes.{GivesSized}

-- whether something holds
abbrev pub IsTold : Type 0 → Bool → Type 0
IsTold Fact holds = MatchBool holds Fact (Fact → ⊥)

-- where it holds, this is what is left then
abbrev pub IsDone : Type 0 → List Stored → List Stored → Bool → Type 0
IsDone Fact now after holds = MatchBool holds (Fact × (now ≡ after)) (Fact → ⊥)

abbrev pub IsBucketStep : Shape → ℕ → BucketPart → List Stored → List Stored → Bool → Type 0
IsBucketStep shape cpu part before now allowed =
    IsDone (AllowsInBucket shape cpu part before) now (bucket_after shape cpu part before) allowed

abbrev pub IsPutStep : Shape → Side → ℕ → ℕ → List ℕ → List ℕ → Put → List Stored → List Stored → Bool → Type 0
IsPutStep shape side cpu flags key value put before now allowed =
    IsDone (AllowsPut shape flags key put before) now (bucket_after_put shape side cpu key value put before) allowed

-- what a side reads of a key on a CPU: nothing where it is absent
abbrev pub AllowsRead : Shape → Side → ℕ → List ℕ → Option (ℕ × List ℕ) → List Stored → Type 0
AllowsRead shape side cpu key None bucket = IsAbsent key bucket
AllowsRead shape side cpu key (Some got) bucket = ReadsValue shape side cpu key bucket got

-- an entry of a CPU of the map, which gives keys and values of its sizes
abbrev pub PartIsSized : Shape → Part → Type 0
PartIsSized shape (parts.Bucket part) = GivesSized shape part
PartIsSized shape (parts.Free part) = Unit {0}
PartIsSized shape (parts.Local part) = Unit {0}
PartIsSized shape (parts.Global part) = Unit {0}
PartIsSized shape (parts.Own part) = Unit {0}

pub record IsSizedEntry (shape : Shape) (entry : Entry) : Type 0 where
  pub cpu : entry.cpu < shape.cpus
  pub part : PartIsSized shape entry.part
