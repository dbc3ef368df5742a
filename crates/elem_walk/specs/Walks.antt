-- What a walk over all elements hands over: what its callback may answer, what it takes of a bucket in one turn and hands over of that, and
-- what it hands over in all.
use Rattle.std.specs.Prelude.{◌≡◌, ◌≢◌, ℕ, suc, ◌-◌, ◌<◌, ◌≤◌, Bool, true, false, MatchBool, List, [], ◌++◌, length, map, take, drop, None, Result, Ok, Err}
use Rattle.std.specs.Borrow.{Bor}
use Rattle.std.specs.Fn.{Shared, FnReturnsAtPair}
use Rattle.map_types.specs.declared.attr.Shape.{Shape}
use Rattle.map_types.specs.declared.refusal.Errno.TheVariants.{Einval}
use Rattle.map_types.specs.declared.reply.Reply.{Reply}
use Rattle.map_types.specs.declared.reply.Reply.TheVariants.{Refused, Batch}
use Rattle.map_types.specs.Sides.{value_read}
use Rattle.map_types.specs.declared.kind.Side.TheVariants.{Prog}
use Rattle.map_types.specs.Stored.{Stored}
use Rattle.place_words.specs.declared.bucket_part.BucketPart.TheVariants.{Walk}
use Rattle.place_words.specs.declared.bucket_part.Walked.{Walked}
use Rattle.place_words.specs.declared.bucket_part.Walked.TheVariants.{Over, Taken}
use Rattle.place_words.specs.Handing.{Callback, HandsOver, HandsOverBuckets, IsHandingTrace, handed}
use Rattle.place_words.specs.Walks.{buckets_from}
use Rattle.place_table.specs.declared.view.Turned.{Turned}
use Rattle.place_table.specs.Known.{turn_of}
use Rattle.place_table.specs.Passes.{PassView, TableView}
use Rattle.bucket_walks.specs.BatchReads.{PairsSoFar, with_pairs}
use Rattle.bucket_walks.specs.Looks.{Looked, LooksInto}
use Rattle.elem_walk.specs.declared.walk.Ended.{Ended}
use Rattle.elem_walk.specs.declared.walk.Ended.TheVariants as ends
use Rattle.elem_walk.specs.declared.walk.Handed.{Handed}
use Rattle.elem_walk.specs.declared.walk.WalkRefusal.{WalkRefusal}
use Rattle.elem_walk.specs.declared.walk.WalkRefusal.TheVariants as refusals

-- a callback, with the sizes in bytes of the keys and values that it takes
pub record Walker (F : Type 0) : Type 0 where
  pub call : F
  pub key_size : ℕ
  pub value_size : ℕ

-- it may be called on every key and value of these sizes, whatever numbers stand for their bytes
abbrev pub TakesPairs : {F : Type 0} → (F → Bor (List ℕ) → Bor (List ℕ) → Type 0) → F → ℕ → ℕ → Type 0
TakesPairs May call key_size value_size =
    (key value : Bor (List ℕ)) → length key.now ≡ key_size → length value.now ≡ value_size → May call key value

abbrev pub MayCall : {F : Type 0} → (F → Bor (List ℕ) → Bor (List ℕ) → Type 0) → Walker F → Type 0
MayCall May walker = TakesPairs May walker.call walker.key_size walker.value_size

-- what it may answer for a pair
abbrev pub Answers : {F : Type 0} → Shared F (Bor (List ℕ) × (Bor (List ℕ) × Unit {0})) Bool → F → Callback
Answers returns call pair answer = FnReturnsAtPair returns call pair.0 pair.1 answer

-- the sizes are those of a map's keys, and of its values on one CPU
pub record IsOfShape {F : Type 0} (shape : Shape) (walker : Walker F) : Type 0 where
  pub keys : walker.key_size ≡ shape.key_size
  pub values : walker.value_size ≡ shape.value_size

-- What was taken of a bucket is added to the pairs so far, as a program reads it on the pass's CPU; or nothing, where there was no room
-- for it.
abbrev pub IsCopied : Shape → ℕ → Walked → Bool → PairsSoFar → PairsSoFar → Type 0
IsCopied shape cpu (Over n) whole out now = (whole ≡ false) × (now ≡ out)
IsCopied shape cpu (Taken all) whole out now = (whole ≡ true) × (now ≡ with_pairs out (map (handed shape cpu) all))

-- A bucket's turn left it as it was, and its elements were added to the pairs so far, where there was room for them. These are no more
-- than there is room for.
pub record CopiesInto (t : TableView) (bucket : ℕ) (before after : PassView) (whole : Bool) (out now : PairsSoFar) : Type 0 where
  pub walked : Walked
  pub into : LooksInto t bucket before after (Walk false (out.limit - length out.pairs) walked)
  pub copied : IsCopied t.shape before.cpu walked whole out now
  pub few : length now.pairs ≤ now.limit

-- the pairs from an index on were handed over, up to the first at which the callback stopped the walk; those behind it are gone
pub record HandsFrom (Says : Callback) (from : ℕ) (stopped : Bool) (out now : PairsSoFar) : Type 0 where
  pub over : List (List ℕ × List ℕ)
  pub hands : HandsOver Says (drop from out.pairs) over stopped
  pub kept : now ≡ record out { pairs = take from out.pairs ++ over }

-- whether the walk ends with a bucket of which this was taken, and what was handed over then
abbrev pub EndsWith : Shape → ℕ → Callback → Walked → Ended → PairsSoFar → PairsSoFar → Type 0
EndsWith shape cpu Says (Over n) ended out now = (ended ≡ ends.Here) × (now ≡ out)
EndsWith shape cpu Says (Taken all) ended out now =
    (over : List (List ℕ × List ℕ)) × (stopped : Bool)
    × (HandsOver Says (map (handed shape cpu) all) over stopped × (now ≡ with_pairs out over)
    × MatchBool stopped (ended ≡ ends.Behind) (ended ≡ ends.Not))

-- one turn of a bucket was made, and then its elements were handed over
pub record HandsIn (t : TableView) (Says : Callback) (bucket : ℕ) (before after : PassView) (ended : Ended) (out now : PairsSoFar) : Type 0 where
  pub walked : Walked
  pub into : LooksInto t bucket before after (Walk false (out.limit - length out.pairs) walked)
  pub ends_with : EndsWith t.shape before.cpu Says walked ended out now
  pub few : length now.pairs ≤ now.limit

-- Buckets were walked from the first one on, and these pairs handed over, which are no more than the map has elements. The number of the
-- bucket behind the last one, or of the one for which there was no room, is at most that of the buckets.
pub record HandsOn (t : TableView) (Says : Callback) (before after : PassView) (pairs : List (List ℕ × List ℕ)) (next : ℕ) : Type 0 where
  pub steps : List Turned
  pub told : List Turned
  pub lost : List ℕ
  pub looked : Looked t before after steps told lost
  pub trace : HandsOverBuckets t.shape before.cpu Says (buckets_from t.shape 0) [] (map (turn_of t.shape) told) (Batch None pairs next)
  pub few : length pairs ≤ t.shape.elements
  pub there : next ≤ t.shape.buckets

-- a walk made a trace of it, with this reply
pub record Handing (t : TableView) (Says : Callback) (before after : PassView) (flags : ℕ) (reply : Reply) : Type 0 where
  pub steps : List Turned
  pub told : List Turned
  pub lost : List ℕ
  pub looked : Looked t before after steps told lost
  pub trace : IsHandingTrace t.shape before.cpu Says flags (map (turn_of t.shape) told) reply

-- What a walk over all elements does and answers. One that hands over made a trace of it, with the reply that goes with its answer: no more
-- pairs than the map has elements, and a `next` of at most the number of buckets. It is refused exactly where flags are set. Then, and where
-- memory for the pairs wasn't found, nothing was done.
abbrev pub WalksOver : TableView → Callback → PassView → PassView → ℕ → Result Handed WalkRefusal → Type 0
WalksOver t Says before after flags (Ok over) =
    (flags ≡ 0) × (length over.taken ≤ t.shape.elements) × (over.next ≤ t.shape.buckets) × Handing t Says before after flags (Batch None over.taken over.next)
WalksOver t Says before after flags (Err refusals.Einval) = (flags ≢ 0) × (after ≡ before) × Handing t Says before after flags (Refused Einval)
WalksOver t Says before after flags (Err refusals.NoMemory) = (flags ≡ 0) × (after ≡ before)
