-- Each turn of a bucket leaves keys and values of the map's sizes.
use Rattle.std.proofs.Common.{◌≡◌, ℕ, ◌+◌, Bool, true, false, List, ◌++◌, length, take, drop, None, Some}
use Rattle.std.specs.Prelude.{All, if◌then◌else◌}
use Rattle.std.specs.List.{position_or_len, before_first, after_first}
use Rattle.std.proofs.lemmas.List.Elements.{All-nil, All-cons, All-append, All-take, All-drop, All-map, All-weaker}
use Rattle.map_types.specs.declared.attr.Shape.{Shape}
use Rattle.map_types.specs.declared.kind.Side.{Side}
use Rattle.map_types.specs.Sides.{part_count, values_written}
use Rattle.map_types.specs.Stored.{Stored, HasSizes}
use Rattle.map_types.specs.ValueLen.{value_len_of}
use Rattle.percpu_values.proofs.SideLemmas.{HaveSizes-written, HaveSizes-new}
use Rattle.place_words.specs.declared.bucket_part.BucketPart.{BucketPart}
use Rattle.place_words.specs.declared.bucket_part.BucketPart.TheVariants.{Lookup, Update, Delete, Take, Next, First, Walk, Evict}
use Rattle.place_words.specs.declared.bucket_part.Put.{Put}
use Rattle.place_words.specs.declared.bucket_part.Put.TheVariants as puts
use Rattle.place_words.specs.declared.bucket_part.Walked.TheVariants.{Over, Taken}
use Rattle.place_words.specs.declared.bucket_part.Seen.TheVariants.{Removed, Held}
use Rattle.place_words.specs.Bodies.{has_key, has_number}
use Rattle.place_words.specs.Buckets.{new_stored, written_over, bucket_after_put, bucket_after}
use Rattle.place_words.specs.Sizes.{AreSized, GivesSized}

-- without the first that passes
All-rest : {X : Type 0} (P : X → Type 0) (test : X → Bool) (xs : List X) → All P xs → All P (before_first test xs ++ after_first test xs)
All-rest P test xs all =
    let n = position_or_len test xs in
    All-append P (take n xs) (drop (n + 1) xs) (All-take P n xs all) (All-drop P (n + 1) xs all)

-- a new element, and one that a side writes over
pub new_sized : (shape : Shape) (side : Side) (cpu e : ℕ) (key value : List ℕ) → length key ≡ shape.key_size → length value ≡ value_len_of shape side
    → HasSizes shape.key_size (part_count shape) shape.value_size (new_stored shape side cpu e key value)
new_sized shape side cpu e key value long exact =
    let have = HaveSizes-new shape side cpu value exact in
    record { key_sized = long; parts_counted = have.counted; parts_sized = have.sized }

pub written_sized : (shape : Shape) (side : Side) (cpu : ℕ) (key value : List ℕ) (body : Stored) → length value ≡ value_len_of shape side
    → HasSizes shape.key_size (part_count shape) shape.value_size body → HasSizes shape.key_size (part_count shape) shape.value_size (written_over shape side cpu key value body)
written_sized shape side cpu key value body exact sizes =
    let have = HaveSizes-written shape side cpu body.values value (record { counted = sizes.parts_counted; sized = sizes.parts_sized }) exact in
    elim (has_key key body) as (λ b. HasSizes shape.key_size (part_count shape) shape.value_size (if b then record body { values = values_written shape side cpu body.values value } else body)) [
      | true ↦ record { key_sized = sizes.key_sized; parts_counted = have.counted; parts_sized = have.sized }
      | false ↦ sizes
    ]

module _ (shape : Shape) (cpu : ℕ) (bucket : List Stored) (sized : AreSized shape bucket) where
  abbrev Fits : Stored → Type 0
  Fits = HasSizes shape.key_size (part_count shape) shape.value_size

  put_sized : (side : Side) (key value : List ℕ) (put : Put) → length key ≡ shape.key_size → length value ≡ value_len_of shape side → AreSized shape (bucket_after_put shape side cpu key value put bucket)
  put_sized side key value (puts.Added e) long exact =
      All-cons Fits (new_stored shape side cpu e key value) bucket (new_sized shape side cpu e key value long exact) sized
  put_sized side key value (puts.Replaced new old) long exact =
      All-cons Fits (new_stored shape side cpu new key value) _ (new_sized shape side cpu new key value long exact) (All-rest Fits (has_key key) bucket sized)
  put_sized side key value (puts.Written e) long exact =
      All-map Fits (written_over shape side cpu key value) bucket
      (All-weaker Fits (λ body. Fits (written_over shape side cpu key value body)) (λ body one. written_sized shape side cpu key value body exact one) bucket sized)
  put_sized side key value puts.Exists long exact = sized
  put_sized side key value puts.Absent long exact = sized
  put_sized side key value puts.Full long exact = sized

  pub sizes_stay : (part : BucketPart) → GivesSized shape part → AreSized shape (bucket_after shape cpu part bucket)
  unfolding bucket_after
  sizes_stay (Lookup side key got) gives = sized
  sizes_stay (Update side flags key value offer put) gives = put_sized side key value put gives.0 gives.1
  sizes_stay (Delete key None) gives = sized
  sizes_stay (Delete key (Some e)) gives = All-rest Fits (has_key key) bucket sized
  sizes_stay (Take key None) gives = sized
  sizes_stay (Take key (Some gone)) gives = All-rest Fits (has_key key) bucket sized
  sizes_stay (Next key found) gives = sized
  sizes_stay (First key) gives = sized
  sizes_stay (Walk remove room (Over n)) gives = sized
  sizes_stay (Walk true room (Taken all)) gives = All-nil Fits
  sizes_stay (Walk false room (Taken all)) gives = sized
  sizes_stay (Evict e Removed) gives = All-rest Fits (has_number e) bucket sized
  sizes_stay (Evict e (Held holder)) gives = sized
