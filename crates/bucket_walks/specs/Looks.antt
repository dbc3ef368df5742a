-- What a walk over buckets asks of a pass, what each of its turns tells, and what the turns so far leave.
use Rattle.std.specs.Prelude.{◌≡◌, ◌⊎◌, ℕ, Bool, false, All, List, [], ◌∷◌, length, map, Option, None, Some, if◌then◌else◌}
use Rattle.map_types.specs.declared.kind.DomainId.TheVariants.{Bucket}
use Rattle.map_types.specs.declared.reply.Reply.{Reply}
use Rattle.map_types.specs.Stored.{Stored}
use Rattle.place_words.specs.declared.bucket_part.BucketPart.{BucketPart}
use Rattle.place_words.specs.declared.bucket_part.BucketPart.TheVariants.{Next, First, Walk}
use Rattle.place_words.specs.declared.bucket_part.NextFound.{NextFound}
use Rattle.place_words.specs.declared.bucket_part.NextFound.TheVariants as nexts
use Rattle.place_words.specs.declared.bucket_part.Walked.{Walked}
use Rattle.place_words.specs.declared.history.Part.{Part}
use Rattle.place_words.specs.declared.history.Part.TheVariants as parts
use Rattle.place_words.specs.Turns.{Turn, on_lock}
use Rattle.place_words.specs.Walks.{Firsts, buckets_from}
use Rattle.place_table.specs.declared.view.Turned.{Turned}
use Rattle.place_table.specs.Calls.{AreTold}
use Rattle.place_table.specs.Known.{Learns, turn_of, IsBy}
use Rattle.place_table.specs.Passes.{PassView, TableView, IsPassOf, HasBegun, Went}
use Rattle.bucket_walks.specs.declared.parts.After.{After}
use Rattle.bucket_walks.specs.declared.parts.After.TheVariants as afters

-- a pass that holds no lock goes over the buckets
pub record CanWalk (t : TableView) (p : PassView) : Type 0 where
  pub of_table : IsPassOf t p
  pub begun : HasBegun p
  pub no_lock : p.view.held ≡ []

-- a key of so many bytes
abbrev pub HasKeyOf : ℕ → Stored → Type 0
HasKeyOf size body = length body.key ≡ size

-- the key at the head of a bucket, where one was found, and what follows a key
abbrev pub key_where : Bool → List ℕ → Option (List ℕ)
key_where found key = if found then Some key else None

abbrev pub found_after : After → List ℕ → NextFound
found_after afters.Absent key = nexts.Absent
found_after afters.Last key = nexts.Last
found_after afters.Key key = nexts.Key key

-- A turn that looks at a bucket's head, and finds this key or none; one that looks at what follows a key there; and one that reads
-- the bucket and takes nothing out.
abbrev pub IsLook : Part → Type 0
IsLook part =
    ((found : Option (List ℕ)) × (part ≡ parts.Bucket (First found)))
    ⊎ ((key : List ℕ) × (found : NextFound) × (part ≡ parts.Bucket (Next key found)))
    ⊎ ((room : ℕ) × (walked : Walked) × (part ≡ parts.Bucket (Walk false room walked)))

abbrev pub AreLooks : List Turned → Type 0
AreLooks [] = Unit {0}
AreLooks (told ∷ others) = IsLook told.entry.part × AreLooks others

-- These turns were made by the CPU in its call, which are told as such looks. No element was moved, and no bit was touched.
pub record Looked (t : TableView) (before after : PassView) (steps told : List Turned) (lost : List ℕ) : Type 0 where
  pub told_are : AreTold t.shape lost steps told
  pub are_looks : AreLooks told
  pub went : Went before after steps lost
  pub by_call : All (IsBy before.cpu before.call) steps
  pub bits : after.view.bits ≡ before.view.bits
  pub learns : Learns t.shape before.view after.view steps []

-- one turn of this bucket was made, which is told as one with this part
pub record LooksInto (t : TableView) (bucket : ℕ) (before after : PassView) (part : BucketPart) : Type 0 where
  pub step : Turned
  pub told : Turned
  pub lost : List ℕ
  pub looked : Looked t before after (step ∷ []) (told ∷ []) lost
  pub turn : turn_of t.shape told ≡ on_lock (Bucket bucket) (parts.Bucket part)

-- these buckets were found empty, in their order
abbrev pub found_none : List ℕ → List Turn
found_none buckets = map (λ bucket. on_lock (Bucket bucket) (parts.Bucket (First None))) buckets

pub record WalkedPast (t : TableView) (buckets : List ℕ) (before after : PassView) : Type 0 where
  pub steps : List Turned
  pub told : List Turned
  pub lost : List ℕ
  pub looked : Looked t before after steps told lost
  pub turns_are : map (turn_of t.shape) told ≡ found_none buckets

-- the buckets from one on were looked at, up to the first that isn't empty
pub record WalksOn (t : TableView) (from : ℕ) (before after : PassView) (reply : Reply) : Type 0 where
  pub steps : List Turned
  pub told : List Turned
  pub lost : List ℕ
  pub looked : Looked t before after steps told lost
  pub trace : Firsts (buckets_from t.shape from) (map (turn_of t.shape) told) reply
