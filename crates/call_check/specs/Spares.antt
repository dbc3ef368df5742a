-- The spares of the CPUs, told by their replacements alone.
use Rattle.std.specs.Prelude.{◌≡◌, ℕ, ◌<◌, nat_lt, All, List, [], ◌∷◌, filter, length, option_map, slice_get, slice_index_or, Option, None, Some}
use Rattle.std.specs.List.{filter_map}
use Rattle.std.specs.List.Sorted.{IsNonDecreasingBy}
use Rattle.map_types.specs.declared.attr.Shape.{Shape}
use Rattle.place_words.specs.declared.bucket_part.BucketPart.{BucketPart}
use Rattle.place_words.specs.declared.bucket_part.BucketPart.TheVariants.{Lookup, Update, Delete, Take, Next, First, Walk, Evict}
use Rattle.place_words.specs.declared.bucket_part.Put.{Put}
use Rattle.place_words.specs.declared.bucket_part.Put.TheVariants as puts
use Rattle.place_words.specs.declared.history.Entry.{Entry}
use Rattle.place_words.specs.declared.history.LockHistory.{LockHistory}
use Rattle.place_words.specs.declared.history.Part.{Part}
use Rattle.place_words.specs.declared.history.Part.TheVariants as parts
use Rattle.place_words.specs.Tickets.{all_entries}
use Rattle.map_report.specs.Serial.{opening}
use Rattle.call_check.specs.RightCalls.{moment_of, spare_before}
use Rattle.call_check.specs.declared.changes.Change.{Change}

-- the element that a turn leaves its CPU as its spare
abbrev pub left_by_put : Put → Option ℕ
left_by_put (puts.Added e) = None
left_by_put (puts.Replaced new old) = Some old
left_by_put (puts.Written e) = None
left_by_put puts.Exists = None
left_by_put puts.Absent = None
left_by_put puts.Full = None

abbrev pub left_by_bucket_part : BucketPart → Option ℕ
left_by_bucket_part (Lookup side key got) = None
left_by_bucket_part (Update side flags key value offer put) = left_by_put put
left_by_bucket_part (Delete key _) = None
left_by_bucket_part (Take key _) = None
left_by_bucket_part (Next key found) = None
left_by_bucket_part (First key) = None
left_by_bucket_part (Walk remove room result) = None
left_by_bucket_part (Evict e probed) = None

abbrev pub left_by : Part → Option ℕ
left_by (parts.Bucket part) = left_by_bucket_part part
left_by (parts.Free part) = None
left_by (parts.Local part) = None
left_by (parts.Global part) = None
left_by (parts.Own part) = None

abbrev pub change_by : List ℕ → Entry → ℕ → Change
change_by cuts entry old = record { moment = moment_of cuts entry; cpu = entry.cpu; old = old }

abbrev pub change_of : List ℕ → Entry → Option Change
change_of cuts entry = option_map (change_by cuts entry) (left_by entry.part)

-- all replacements, in the order of the histories
abbrev pub changes_of : List ℕ → List LockHistory → List Change
changes_of cuts histories = filter_map (change_of cuts) (all_entries histories)

-- what the last of some replacements left, else the spare before
abbrev pub last_left : Option ℕ → List Change → Option ℕ
last_left spare [] = spare
last_left spare (change ∷ changes) = last_left (Some change.old) changes

-- the spare of a CPU at a moment, by the spares at first and the replacements of each CPU
abbrev pub spare_in : List ℕ → List (List Change) → ℕ → ℕ → Option ℕ
spare_in first changes cpu moment =
    last_left (slice_get first cpu) (filter (λ (change : Change). nat_lt change.moment moment) (slice_index_or changes cpu []))

abbrev pub Rise : List Change → Type 0
Rise changes = IsNonDecreasingBy (λ (change : Change). change.moment) changes

abbrev pub AreLow : ℕ → List Change → Type 0
AreLow bound changes = All (λ (change : Change). change.moment < bound) changes

-- The replacements of each CPU, by their moments, give it the spare that it has before each moment.
pub record AreSpares (cuts : List ℕ) (shape : Shape) (histories : List LockHistory) (first : List ℕ) (changes : List (List Change)) : Type 0 where
  pub first_is : first ≡ (opening shape).spares
  pub each : length changes ≡ shape.cpus
  pub rise : (cpu : ℕ) → Rise (slice_index_or changes cpu [])
  pub low : (bound : ℕ) → AreLow bound (changes_of cuts histories) → (cpu : ℕ) → AreLow bound (slice_index_or changes cpu [])
  pub exact : (cpu moment : ℕ) → cpu < shape.cpus → spare_in first changes cpu moment ≡ spare_before cuts shape histories cpu moment
