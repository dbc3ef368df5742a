-- Which pairs a batch read and a walk over all elements tell: those of the buckets that they walk, each bucket whole at a turn of its own.
use Rattle.std.specs.Prelude.{◌≡◌, ℕ, suc, nat_lt, ◌==◌, Bool, false, List, [], ◌∷◌, ◌++◌, map, Option, None, Some, MatchBool, unwrap_or}
use Rattle.map_types.specs.declared.attr.Shape.{Shape}
use Rattle.map_types.specs.declared.kind.DomainId.TheVariants.{Bucket}
use Rattle.map_types.specs.declared.refusal.Errno.TheVariants.{Enoent, Einval}
use Rattle.map_types.specs.declared.reply.Reply.{Reply}
use Rattle.map_types.specs.declared.reply.Reply.TheVariants.{Done, Refused, Batch}
use Rattle.place_words.specs.declared.bucket_part.BucketPart.TheVariants.{Walk}
use Rattle.place_words.specs.declared.bucket_part.Walked.{Walked}
use Rattle.place_words.specs.declared.bucket_part.Walked.TheVariants.{Over, Taken}
use Rattle.place_words.specs.declared.history.Part.TheVariants as parts
use Rattle.place_words.specs.Handing.{Callback, HandsOver, handed}
use Rattle.place_words.specs.Interleaving.{Drawn}
use Rattle.place_words.specs.Walks.{buckets_from, pair_of, stopped_at}
use Rattle.one_map.specs.Laws.{one_map}
use Rattle.one_map.specs.Turns.{IsSoOn}

-- A walk of a bucket in the order of all turns: a turn of the call, on its CPU, that tells the whole bucket as the map has it there
-- (`TellsBucket`), or that there is no room for it.
pub record HasWalk (shape : Shape) (turns : List Drawn) (number cpu : ℕ) (remove : Bool) (bucket : ℕ) (result : Walked) : Type 0 where
  pub before : List Drawn
  pub drawn : Drawn
  pub later : List Drawn
  pub turns_are : turns ≡ before ++ drawn ∷ later
  pub call_is : drawn.entry.call ≡ number
  pub cpu_is : drawn.entry.cpu ≡ cpu
  pub room : ℕ
  pub lock_is : drawn.lock ≡ Bucket bucket
  pub part_is : drawn.entry.part ≡ parts.Bucket (Walk remove room result)
  pub so : IsSoOn shape cpu bucket (one_map shape before) (Walk remove room result)

-- what a batch read told before a bucket is joined with what it tells of it, and it ends where there is no room
abbrev pub AfterBucket : ℕ → List (List ℕ × List ℕ) → Reply → Walked → (List (List ℕ × List ℕ) → Type 0) → Type 0
AfterBucket bucket taken reply (Over n) GoesOnWith = reply ≡ Batch (stopped_at taken) taken bucket
AfterBucket bucket taken reply (Taken all) GoesOnWith = GoesOnWith (taken ++ map pair_of all)

-- it walks these buckets, one after another
abbrev pub ReadsBuckets : Shape → List Drawn → ℕ → ℕ → Bool → List ℕ → List (List ℕ × List ℕ) → Reply → Type 0
ReadsBuckets shape turns number cpu remove [] taken reply = reply ≡ Batch (Some Enoent) taken shape.buckets
ReadsBuckets shape turns number cpu remove (bucket ∷ buckets) taken reply =
    (result : Walked) × HasWalk shape turns number cpu remove bucket result
    × AfterBucket bucket taken reply result (λ now. ReadsBuckets shape turns number cpu remove buckets now reply)

-- a batch read tells the buckets from its start on, up to the one for which there is no room
abbrev pub IsWholeRead : Shape → List Drawn → ℕ → ℕ → Bool → ℕ → Option ℕ → ℕ → Reply → Type 0
IsWholeRead shape turns number cpu remove count start flags reply =
    MatchBool (flags == 0)
    (MatchBool (count == 0)
    (reply ≡ Done)
    (MatchBool (nat_lt (unwrap_or start 0) shape.buckets)
    (ReadsBuckets shape turns number cpu remove (buckets_from shape (unwrap_or start 0)) [] reply)
    (reply ≡ Refused Enoent)))
    (reply ≡ Refused Einval)

-- the pairs of a bucket are handed over, as the callback lets them, behind those that were handed over before
abbrev pub AfterHanded : Shape → ℕ → Callback → ℕ → List (List ℕ × List ℕ) → Reply → Walked → (List (List ℕ × List ℕ) → Type 0) → Type 0
AfterHanded shape cpu Says bucket before reply (Over n) GoesOnWith = reply ≡ Batch None before bucket
AfterHanded shape cpu Says bucket before reply (Taken all) GoesOnWith =
    (over : List (List ℕ × List ℕ)) × (stopped : Bool) × HandsOver Says (map (handed shape cpu) all) over stopped
    × MatchBool stopped (reply ≡ Batch None (before ++ over) (suc bucket)) (GoesOnWith (before ++ over))

abbrev pub HandsBuckets : Shape → List Drawn → ℕ → ℕ → Callback → List ℕ → List (List ℕ × List ℕ) → Reply → Type 0
HandsBuckets shape turns number cpu Says [] before reply = reply ≡ Batch None before shape.buckets
HandsBuckets shape turns number cpu Says (bucket ∷ buckets) before reply =
    (result : Walked) × HasWalk shape turns number cpu false bucket result
    × AfterHanded shape cpu Says bucket before reply result (λ now. HandsBuckets shape turns number cpu Says buckets now reply)

-- a walk over all elements hands over all buckets, up to the pair at which its callback stops
abbrev pub IsWholeHanding : Shape → List Drawn → ℕ → ℕ → Callback → ℕ → Reply → Type 0
IsWholeHanding shape turns number cpu Says flags reply =
    MatchBool (flags == 0) (HandsBuckets shape turns number cpu Says (buckets_from shape 0) [] reply) (reply ≡ Refused Einval)
