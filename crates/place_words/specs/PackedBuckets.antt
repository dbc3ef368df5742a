-- Which part a bucket's turn is, wherever it lies.
use Rattle.std.specs.Prelude.{ℕ, ◌+◌, ◌≤◌, ◌++◌, Bool, true, false, List, Option, None, Some, take, drop, ⊤}
use Rattle.place_words.specs.declared.bucket_part.BucketPart.{BucketPart}
use Rattle.place_words.specs.declared.bucket_part.BucketPart.TheVariants as bucket
use Rattle.place_words.specs.declared.bucket_part.Put.TheVariants as put
use Rattle.place_words.specs.declared.bucket_part.Seen.{Seen}
use Rattle.place_words.specs.declared.packed_bucket.BucketData.{BucketData}
use Rattle.place_words.specs.declared.packed_bucket.BucketData.TheVariants as lies
use Rattle.place_words.specs.declared.packed_bucket.Form.{Form}
use Rattle.place_words.specs.declared.packed_bucket.Form.TheVariants as form
use Rattle.place_words.specs.declared.pair.Pair.{Pair}
use Rattle.map_types.specs.declared.kind.Side.{Side}

-- the bytes of a pair, word by word
abbrev pub bytes_of : Pair → List ℕ
bytes_of pair = pair.first ++ (pair.second ++ (pair.third ++ pair.last))

-- the key of a pair, and the value behind it
abbrev pub key_in : Pair → List ℕ
key_in pair = take pair.key_len (bytes_of pair)

abbrev pub value_in : Pair → List ℕ
value_in pair = take pair.value_len (drop pair.key_len (bytes_of pair))

-- key and value have at most 22 bytes each, as many as short bytes have at most, and at most 26 together
pub record FitsPair (pair : Pair) : Type 0 where
  pub key : pair.key_len ≤ 22
  pub value : pair.value_len ≤ 22
  pub both : pair.key_len + pair.value_len ≤ 26

-- the part that lies in place in this form
abbrev pub in_place_of : Form → Side → ℕ → Pair → ℕ → ℕ → BucketPart
in_place_of form.Missed side flags pair element other = bucket.Lookup side (key_in pair) None
in_place_of form.Got side flags pair element other = bucket.Lookup side (key_in pair) (Some (element, value_in pair))
in_place_of form.DeletedNone side flags pair element other = bucket.Delete (key_in pair) None
in_place_of form.Deleted side flags pair element other = bucket.Delete (key_in pair) (Some element)
in_place_of form.Added side flags pair element other = bucket.Update side flags (key_in pair) (value_in pair) None (put.Added element)
in_place_of form.Replaced side flags pair element other = bucket.Update side flags (key_in pair) (value_in pair) None (put.Replaced element other)
in_place_of form.Written side flags pair element other = bucket.Update side flags (key_in pair) (value_in pair) None (put.Written element)
in_place_of form.Exists side flags pair element other = bucket.Update side flags (key_in pair) (value_in pair) None put.Exists
in_place_of form.Absent side flags pair element other = bucket.Update side flags (key_in pair) (value_in pair) None put.Absent
in_place_of form.Full side flags pair element other = bucket.Update side flags (key_in pair) (value_in pair) None put.Full
in_place_of form.OfferAdded side flags pair element other = bucket.Update side flags (key_in pair) (value_in pair) (Some element) (put.Added element)
in_place_of form.OfferReplaced side flags pair element other
    = bucket.Update side flags (key_in pair) (value_in pair) (Some element) (put.Replaced element other)
in_place_of form.OfferWritten side flags pair element other = bucket.Update side flags (key_in pair) (value_in pair) (Some element) (put.Written other)

-- the part that these data are
abbrev pub bucket_of : BucketData → BucketPart
bucket_of (lies.Boxed part) = part.value
bucket_of (lies.Evict element probed) = bucket.Evict element probed
bucket_of (lies.InPlace form side flags pair element other) = in_place_of form side flags pair element other

-- the pair of what lies in place fits
abbrev pub IsPacked : BucketData → Type 0
IsPacked (lies.Boxed part) = ⊤
IsPacked (lies.Evict element probed) = ⊤
IsPacked (lies.InPlace form side flags pair element other) = FitsPair pair

-- the part is of a kind that may lie in place
abbrev pub may_lie_in_place : BucketPart → Bool
may_lie_in_place (bucket.Lookup side key got) = true
may_lie_in_place (bucket.Update side flags key value offer did) = true
may_lie_in_place (bucket.Delete key removed) = true
may_lie_in_place (bucket.Take key removed) = false
may_lie_in_place (bucket.Next key found) = false
may_lie_in_place (bucket.First key) = false
may_lie_in_place (bucket.Walk remove room result) = false
may_lie_in_place (bucket.Evict element probed) = true

-- the element that was to be evicted, and what its probe found, if the part is an eviction
abbrev pub eviction_of : BucketPart → Option (ℕ × Seen)
eviction_of (bucket.Lookup side key got) = None
eviction_of (bucket.Update side flags key value offer did) = None
eviction_of (bucket.Delete key removed) = None
eviction_of (bucket.Take key removed) = None
eviction_of (bucket.Next key found) = None
eviction_of (bucket.First key) = None
eviction_of (bucket.Walk remove room result) = None
eviction_of (bucket.Evict element probed) = Some (element, probed)
