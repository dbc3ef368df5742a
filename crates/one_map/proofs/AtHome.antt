-- Turns of buckets are at home: each is of a bucket's lock, and one on a key of the key's bucket.
use Rattle.std.specs.Prelude.{◌≡◌, ◌≤◌, ℕ, IsTrue}
use Rattle.map_types.specs.declared.attr.Shape.{Shape}
use Rattle.map_types.specs.declared.kind.DomainId.{DomainId}
use Rattle.map_types.specs.declared.kind.DomainId.TheVariants.{Bucket}
use Rattle.map_types.specs.Kind.{is_lru}
use Rattle.place_words.specs.declared.bucket_part.BucketPart.{BucketPart}
use Rattle.place_words.specs.declared.bucket_part.BucketPart.TheVariants.{Lookup, Update, Delete, Take, Next, First, Walk, Evict}
use Rattle.place_words.specs.declared.history.Part.{Part}
use Rattle.place_words.specs.declared.history.Part.TheVariants as parts
use Rattle.place_words.specs.Turns.{bucket_of_key}

-- a turn on a key is one of the key's bucket, and an update's flags are known ones; probes are of maps that evict
abbrev pub HasItsKey : Shape → ℕ → BucketPart → Type 0
HasItsKey shape bucket (Lookup side key got) = bucket_of_key shape key ≡ bucket
HasItsKey shape bucket (Update side flags key value offer did) = (bucket_of_key shape key ≡ bucket) × (flags ≤ 2)
HasItsKey shape bucket (Delete key _) = bucket_of_key shape key ≡ bucket
HasItsKey shape bucket (Take key _) = bucket_of_key shape key ≡ bucket
HasItsKey shape bucket (Next key found) = bucket_of_key shape key ≡ bucket
HasItsKey shape bucket (First key) = Unit {0}
HasItsKey shape bucket (Walk remove room result) = Unit {0}
HasItsKey shape bucket (Evict e probed) = IsTrue (is_lru shape.kind)

-- and whatever lock it is of, a part of a bucket's turn is one of a bucket's lock
abbrev pub IsAtHome : Shape → DomainId → Part → Type 0
IsAtHome shape lock (parts.Bucket part) = (bucket : ℕ) × (lock ≡ Bucket bucket) × HasItsKey shape bucket part
IsAtHome shape lock (parts.Free part) = Unit {0}
IsAtHome shape lock (parts.Local part) = Unit {0}
IsAtHome shape lock (parts.Global part) = Unit {0}
IsAtHome shape lock (parts.Own part) = Unit {0}
