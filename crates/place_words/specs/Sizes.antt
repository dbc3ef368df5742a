-- How long the keys and the values in a map's buckets are.
use Rattle.std.specs.Prelude.{◌≡◌, List, length, All}
use Rattle.map_types.specs.declared.attr.Shape.{Shape}
use Rattle.map_types.specs.Sides.{part_count}
use Rattle.map_types.specs.Stored.{Stored, HasSizes}
use Rattle.map_types.specs.ValueLen.{value_len_of}
use Rattle.place_words.specs.declared.bucket_part.BucketPart.{BucketPart}
use Rattle.place_words.specs.declared.bucket_part.BucketPart.TheVariants.{Lookup, Update, Delete, Take, Next, First, Walk, Evict}

-- the elements have keys and values of the map's sizes
abbrev pub AreSized : Shape → List Stored → Type 0
AreSized shape bodies = All (HasSizes shape.key_size (part_count shape) shape.value_size) bodies

-- the key and the value of an update are as long as the map's keys and a value of that side
abbrev pub GivesSized : Shape → BucketPart → Type 0
GivesSized shape (Lookup side key got) = Unit {0}
GivesSized shape (Update side flags key value offer put) = (length key ≡ shape.key_size) × (length value ≡ value_len_of shape side)
GivesSized shape (Delete key _) = Unit {0}
GivesSized shape (Take key _) = Unit {0}
GivesSized shape (Next key found) = Unit {0}
GivesSized shape (First key) = Unit {0}
GivesSized shape (Walk remove room result) = Unit {0}
GivesSized shape (Evict e probed) = Unit {0}
