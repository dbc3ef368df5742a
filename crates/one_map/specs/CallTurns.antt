-- Which turns on keys a call makes.
use Rattle.std.specs.Prelude.{◌≡◌, ◌⊎◌, ℕ, suc, Bool, true, false, List, Option, None, Some, slice_get}
use Rattle.std.specs.List.{Contains}
use Rattle.map_types.specs.declared.call.Call.{Call}
use Rattle.map_types.specs.declared.call.Verb.{Verb}
use Rattle.map_types.specs.declared.call.Verb.TheVariants.{Lookup, Update, Delete, Take, Next, BatchRead, BatchUpdate, BatchDelete, Each}
use Rattle.place_words.specs.declared.bucket_part.BucketPart.{BucketPart}
use Rattle.place_words.specs.declared.bucket_part.BucketPart.TheVariants as buckets
use Rattle.place_words.specs.declared.bucket_part.NextFound.{NextFound}
use Rattle.place_words.specs.declared.bucket_part.Put.{Put}
use Rattle.place_words.specs.declared.bucket_part.Walked.{Walked}
use Rattle.place_words.specs.declared.history.Part.{Part}
use Rattle.place_words.specs.declared.history.Part.TheVariants as parts
use Rattle.place_words.specs.Interleaving.{Drawn}
use Rattle.place_words.specs.Walks.{updates_of, deletes_of}

-- a turn on keys: one of a bucket that is no probe
abbrev pub is_no_probe : BucketPart → Bool
is_no_probe (buckets.Lookup side key got) = true
is_no_probe (buckets.Update side flags key value offer did) = true
is_no_probe (buckets.Delete key _) = true
is_no_probe (buckets.Take key _) = true
is_no_probe (buckets.Next key found) = true
is_no_probe (buckets.First key) = true
is_no_probe (buckets.Walk remove room result) = true
is_no_probe (buckets.Evict e probed) = false

abbrev pub is_on_keys : Part → Bool
is_on_keys (parts.Bucket part) = is_no_probe part
is_on_keys (parts.Free part) = false
is_on_keys (parts.Local part) = false
is_on_keys (parts.Global part) = false
is_on_keys (parts.Own part) = false

-- a turn on a key that a call on that key makes
abbrev pub IsTurnOnKey : Verb → Part → Type 0
IsTurnOnKey (Lookup side key) part = (got : Option (ℕ × List ℕ)) × (part ≡ parts.Bucket (buckets.Lookup side key got))
IsTurnOnKey (Update side flags key value) part =
    (offer : Option ℕ) × (did : Put) × (part ≡ parts.Bucket (buckets.Update side flags key value offer did))
IsTurnOnKey (Delete key) part = (gone : Option ℕ) × (part ≡ parts.Bucket (buckets.Delete key gone))
IsTurnOnKey (Take key) part = (gone : Option (ℕ × List ℕ)) × (part ≡ parts.Bucket (buckets.Take key gone))
IsTurnOnKey (Next key) part = ⊥
IsTurnOnKey (BatchRead remove count start flags) part = ⊥
IsTurnOnKey (BatchUpdate flags pairs) part = ⊥
IsTurnOnKey (BatchDelete flags keys) part = ⊥
IsTurnOnKey (Each flags stop) part = ⊥

-- a bucket's head, which next key asks for
abbrev pub IsHead : Part → Type 0
IsHead part = (first : Option (List ℕ)) × (part ≡ parts.Bucket (buckets.First first))

-- a walk of a bucket
abbrev pub IsWalk : Bool → Part → Type 0
IsWalk remove part = (room : ℕ) × (result : Walked) × (part ≡ parts.Bucket (buckets.Walk remove room result))

-- What turn on keys a call makes: one on its key, or on that of an entry; next key one on the given key and those of heads; a batch read
-- walks, which remove where it does, and a walk over all elements walks that don't.
abbrev pub IsTurnOf : Verb → Part → Type 0
IsTurnOf (Lookup side key) part = IsTurnOnKey (Lookup side key) part
IsTurnOf (Update side flags key value) part = IsTurnOnKey (Update side flags key value) part
IsTurnOf (Delete key) part = IsTurnOnKey (Delete key) part
IsTurnOf (Take key) part = IsTurnOnKey (Take key) part
IsTurnOf (Next None) part = IsHead part
IsTurnOf (Next (Some key)) part = ((found : NextFound) × (part ≡ parts.Bucket (buckets.Next key found))) ⊎ IsHead part
IsTurnOf (BatchRead remove count start flags) part = IsWalk remove part
IsTurnOf (BatchUpdate flags pairs) part = (entry : Verb) × Contains (updates_of pairs) entry × IsTurnOnKey entry part
IsTurnOf (BatchDelete flags keys) part = (entry : Verb) × Contains (deletes_of keys) entry × IsTurnOnKey entry part
IsTurnOf (Each flags stop) part = IsWalk false part

-- A turn is of a call with its number, on that call's CPU, and one on keys is such as the call makes.
pub record IsOfCall (calls : List Call) (drawn : Drawn) : Type 0 where
  pub place : ℕ
  pub call : Call
  pub call_is : slice_get calls place ≡ Some call
  pub number_is : drawn.entry.call ≡ suc place
  pub cpu_is : drawn.entry.cpu ≡ call.cpu
  pub part_is : is_on_keys drawn.entry.part ≡ true → IsTurnOf call.verb drawn.entry.part
