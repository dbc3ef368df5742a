-- The sizes of keys and values, which no call changes.
use Rattle.std.proofs.Common.{◌≡◌, ℕ, zero, suc, ◌<◌, List, [], ◌∷◌, length, arith, subst, sym, ◌∙◌, length-set}
use Rattle.std.proofs.lemmas.List.{length-replicate}
use Rattle.map_types.specs.Parts.{zeros, zero_parts, AreOfSize, part_at, new_own, written_own}
use Rattle.map_types.specs.Stored.{zero_stored, HasSizes}

pub sizes-zero_parts : (parts size : ℕ) → AreOfSize size (zero_parts parts size)
sizes-zero_parts zero size = tt
sizes-zero_parts (suc parts) size = (length-replicate {A = ℕ} size 0, sizes-zero_parts parts size)

pub zero_stored_sized : (element key_size parts size : ℕ) → HasSizes key_size parts size (zero_stored element key_size parts size)
zero_stored_sized element key_size parts size = record {
  key_sized = length-replicate {A = ℕ} key_size 0;
  parts_counted = length-replicate {A = List ℕ} parts (zeros size);
  parts_sized = sizes-zero_parts parts size;
}

-- a part has the size of all
pub sizes-at : (size part : ℕ) (values : List (List ℕ)) → AreOfSize size values → part < length values → length (part_at part values) ≡ size
sizes-at size part [] sizes within = absurd (omega arith)
sizes-at size zero (value ∷ values) sizes within = sizes.0
sizes-at size (suc part) (value ∷ values) sizes within = sizes-at size part values sizes.1 (omega arith)

-- a write of a value of that size leaves the sizes
pub sizes-written : (size part : ℕ) (value : List ℕ) (values : List (List ℕ)) → AreOfSize size values → length value ≡ size → AreOfSize size (written_own part value values)
sizes-written size part value [] sizes exact = tt
sizes-written size zero value (first ∷ values) sizes exact = (exact, sizes.1)
sizes-written size (suc part) value (first ∷ values) sizes exact =
    (sizes.0, sizes-written size part value values sizes.1 exact)

pub length-written : (part : ℕ) (value : List ℕ) (values : List (List ℕ)) → length (written_own part value values) ≡ length values
length-written part value values = length-set values part value

pub sizes-new : (parts part size : ℕ) (value : List ℕ) → length value ≡ size → AreOfSize size (new_own parts part value)
sizes-new parts part size value exact =
    let start : AreOfSize size (zero_parts parts (length value)) =
    let sized = λ (k : ℕ). AreOfSize size (zero_parts parts k) in
    subst sized (sym exact) (sizes-zero_parts parts size) in
    sizes-written size part value (zero_parts parts (length value)) start exact

pub length-new : (parts part : ℕ) (value : List ℕ) → length (new_own parts part value) ≡ parts
length-new parts part value =
    length-set (zero_parts parts (length value)) part value ∙ length-replicate {A = List ℕ} parts (zeros (length value))
