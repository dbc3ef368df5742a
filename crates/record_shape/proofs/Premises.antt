-- What is shown step by step of the turns of a run: what their calls say of them, what lies under their locks, and that each fits.
use Rattle.std.specs.Prelude.{◌≡◌, ℕ, ◌<◌, ◌^◌, All, List, None, Some, length}
use Rattle.hex.specs.Hex.{IsBytes}
use Rattle.map_types.specs.declared.attr.Shape.{Shape}
use Rattle.map_types.specs.declared.call.Verb.{Verb}
use Rattle.map_types.specs.declared.call.Verb.TheVariants as verbs
use Rattle.map_types.specs.Sides.{part_count}
use Rattle.map_types.specs.Stored.{Stored}
use Rattle.map_types.specs.ValueLen.{value_len_of}
use Rattle.map_types.specs.declared.row.Row.{Row}
use Rattle.place_words.specs.declared.bucket_part.BucketPart.{BucketPart}
use Rattle.place_words.specs.declared.bucket_part.BucketPart.TheVariants.{Lookup, Update, Delete, Take, Next, First, Walk, Evict}
use Rattle.place_words.specs.declared.history.Part.{Part}
use Rattle.place_words.specs.declared.history.Part.TheVariants as parts
use Rattle.place_words.specs.declared.list_part.LocalPart.{LocalPart}
use Rattle.place_words.specs.declared.list_part.LocalPart.TheVariants as local
use Rattle.place_words.specs.declared.list_part.OwnPart.{OwnPart}
use Rattle.place_words.specs.declared.list_part.OwnPart.TheVariants as own
use Rattle.place_words.specs.Histories.{Content, in_bucket, on_freelist, in_locals, in_global, in_own, Allows, content_after}
use Rattle.place_words.specs.Real.{IsReal}
use Rattle.place_words.specs.Turns.{TurnAt, found}
use Rattle.map_script.specs.WellFormed.{GivesBytes, IsPairOfBytes}
use Rattle.record_shape.specs.Fits.{AllFit}
use Rattle.record_shape.specs.OfTable.{HasFew}
use Rattle.record_shape.specs.ShapedParts.{AreBytes, IsU32, LockFits}

-- ---- what a call gives are bytes, and a batch write has fewer than 2^32 entries

abbrev pub ArePairs : List (List ℕ × List ℕ) → Type 0
ArePairs pairs = All IsPairOfBytes pairs

abbrev pub Gives : Verb → Type 0
Gives (verbs.Lookup side key) = IsBytes key
Gives (verbs.Update side flags key value) = IsBytes key × IsBytes value
Gives (verbs.Delete key) = IsBytes key
Gives (verbs.Take key) = IsBytes key
Gives (verbs.Next None) = Unit {0}
Gives (verbs.Next (Some key)) = IsBytes key
Gives (verbs.BatchRead remove count start flags) = Unit {0}
Gives (verbs.BatchUpdate flags pairs) = ArePairs pairs × (length pairs < 2 ^ 32)
Gives (verbs.BatchDelete flags keys) = All IsBytes keys × (length keys < 2 ^ 32)
Gives (verbs.Each flags stop) = Unit {0}

pub gives_of : (verb : Verb) → GivesBytes verb → HasFew verb → Gives verb
gives_of (verbs.Lookup side key) bytes few = bytes
gives_of (verbs.Update side flags key value) bytes few = bytes
gives_of (verbs.Delete key) bytes few = bytes
gives_of (verbs.Take key) bytes few = bytes
gives_of (verbs.Next None) bytes few = tt
gives_of (verbs.Next (Some key)) bytes few = bytes
gives_of (verbs.BatchRead remove count start flags) bytes few = tt
gives_of (verbs.BatchUpdate flags pairs) bytes few = (bytes, few)
gives_of (verbs.BatchDelete flags keys) bytes few = (bytes, few)
gives_of (verbs.Each flags stop) bytes few = tt

-- ---- what a call says of its turns, whatever lies there: its key and its value, and hashes

abbrev pub SaysBucket : Shape → BucketPart → Type 0
SaysBucket shape (Lookup side key got) = AreBytes shape.key_size key
SaysBucket shape (Update side flags key value offer put) =
    IsU32 flags × AreBytes shape.key_size key × AreBytes (value_len_of shape side) value
SaysBucket shape (Delete key _) = AreBytes shape.key_size key
SaysBucket shape (Take key _) = AreBytes shape.key_size key
SaysBucket shape (Next key found) = AreBytes shape.key_size key
SaysBucket shape (First key) = Unit {0}
SaysBucket shape (Walk remove room result) = IsU32 room
SaysBucket shape (Evict element probed) = Unit {0}

abbrev pub SaysLocal : LocalPart → Type 0
SaysLocal (local.Pop hash e) = IsU32 hash
SaysLocal (local.Refill hash flushed gained got) = IsU32 hash
SaysLocal (local.Steal got first second) = Unit {0}
SaysLocal (local.Add hash e cursor) = IsU32 hash
SaysLocal (local.Push e done) = Unit {0}

abbrev pub SaysOwn : OwnPart → Type 0
SaysOwn (own.Turn hash active inactive shrink got) = IsU32 hash
SaysOwn (own.Push e) = Unit {0}

abbrev pub Says : Shape → Part → Type 0
Says shape (parts.Bucket part) = SaysBucket shape part
Says shape (parts.Free part) = Unit {0}
Says shape (parts.Local part) = SaysLocal part
Says shape (parts.Global part) = Unit {0}
Says shape (parts.Own part) = SaysOwn part

-- ---- what lies under a lock: keys and values of the map's sizes, and hashes of 32 bits

pub record BodyFits (shape : Shape) (stored : Stored) : Type 0 where
  pub key : AreBytes shape.key_size stored.key
  pub parts : length stored.values ≡ part_count shape
  pub values : AllFit (AreBytes shape.value_size) stored.values

abbrev pub RowFits : Row → Type 0
RowFits row = IsU32 row.hash

abbrev pub ContentFits : Shape → Content → Type 0
ContentFits shape (in_bucket bodies) = AllFit (BodyFits shape) bodies
ContentFits shape (on_freelist stack) = Unit {0}
ContentFits shape (in_locals lists) = AllFit RowFits lists.pending × IsU32 lists.steal
ContentFits shape (in_global set) = Unit {0}
ContentFits shape (in_own set) = Unit {0}

-- ---- where a turn of a CPU stands: under a lock of the map, where it may be made; what lies there before it and after it is real, and
-- what lies there before it fits

pub record Stands (shape : Shape) (cpu : ℕ) (at : TurnAt) : Type 0 where
  pub lock : LockFits shape at.turn.lock
  pub allowed : Allows shape cpu at.turn.part (found shape at)
  pub before : IsReal shape (found shape at)
  pub after : IsReal shape (content_after shape cpu at.turn.part (found shape at))
  pub fits : ContentFits shape (found shape at)
