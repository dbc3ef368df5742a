-- What asks for a part that is of no common kind gets nothing of one that is.
use Rattle.std.proofs.Common.{◌≡◌, ℕ, List, true, Option, None}
use Rattle.map_types.specs.declared.kind.Side.{Side}
use Rattle.place_words.specs.PackedBuckets.{may_lie_in_place}
use Rattle.place_words.specs.declared.bucket_part.BucketPart.{BucketPart}
use Rattle.place_words.specs.declared.bucket_part.BucketPart.TheVariants.{Lookup, Update, Delete, Take, Next, First, Walk, Evict}
use Rattle.place_words.specs.declared.bucket_part.Put.{Put}
use Rattle.place_words.specs.declared.bucket_part.Seen.{Seen}

pub none_of :
    {A : Type 0} (says : BucketPart → Option A) (part : BucketPart)
    → ((s : Side) (k : List ℕ) (got : Option (ℕ × List ℕ)) → says (Lookup s k got) ≡ None)
    → ((s : Side) (flags : ℕ) (k value : List ℕ) (offer : Option ℕ) (put : Put) → says (Update s flags k value offer put) ≡ None)
    → ((k : List ℕ) (taken : Option ℕ) → says (Delete k taken) ≡ None)
    → ((e : ℕ) (probed : Seen) → says (Evict e probed) ≡ None)
    → may_lie_in_place part ≡ true
    → says part ≡ None
none_of says (Lookup s k got) lookups updates deletes evictions is = lookups s k got
none_of says (Update s f k v offer put) lookups updates deletes evictions is = updates s f k v offer put
none_of says (Delete k taken) lookups updates deletes evictions is = deletes k taken
none_of says (Take k taken) lookups updates deletes evictions is = absurd cc
none_of says (Next k found) lookups updates deletes evictions is = absurd cc
none_of says (First k) lookups updates deletes evictions is = absurd cc
none_of says (Walk remove room result) lookups updates deletes evictions is = absurd cc
none_of says (Evict e probed) lookups updates deletes evictions is = evictions e probed
