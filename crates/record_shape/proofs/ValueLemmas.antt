-- Values that fit: what a side reads of a stored element, what it writes there, and what a program is handed.
use Rattle.std.proofs.Common.{◌≡◌, ℕ, zero, suc, ◌-◌, ◌*◌, ◌<◌, ◌≤◌, true, false, List, [], ◌∷◌, ◌++◌, length, take, drop, refl, sym, ap, subst, ◌∙◌, arith, append_assoc, length-append, length-drop, length-set}
use Rattle.std.specs.Prelude.{bytes_eq, slice_set, if◌then◌else◌}
use Rattle.std.proofs.Math.Nat.{suc-mul, zero-mul}
use Rattle.std.proofs.lemmas.List.{length-replicate, take_at, drop_at, length-take-le}
use Rattle.std.proofs.lemmas.Slice.Eq.{bytes_eq-Decides}
use Rattle.hex.specs.Hex.{IsBytes}
use Rattle.map_types.specs.declared.attr.Shape.{Shape}
use Rattle.map_types.specs.declared.kind.Side.{Side}
use Rattle.map_types.specs.declared.kind.Side.TheVariants.{Prog, Sys}
use Rattle.map_types.specs.Kind.{is_percpu}
use Rattle.map_types.specs.Parts.{zeros, zero_parts, AreOfSize, part_at, field_of, fields_of, values_in, written_own, new_own}
use Rattle.map_types.specs.Sides.{part_count, value_read, values_written, new_values}
use Rattle.map_types.specs.Stored.{Stored}
use Rattle.map_types.specs.ValueLen.{round8, value_len_of}
use Rattle.place_words.specs.Handing.{program_value}
use Rattle.record_shape.specs.Fits.{AllFit}
use Rattle.record_shape.specs.ShapedParts.{AreBytes, IsValue}
use Rattle.record_shape.proofs.Premises.{BodyFits}

-- ---- bytes, piece by piece

no_bytes : IsBytes []
no_bytes i = omega arith

joined_bytes : (front back : List ℕ) → IsBytes front → IsBytes back → IsBytes (front ++ back)
joined_bytes [] back one other i = other i
joined_bytes (b ∷ front) back one other zero = one zero
joined_bytes (b ∷ front) back one other (suc i) = joined_bytes front back (λ k. one (suc k)) other i

first_bytes : (n : ℕ) (bytes : List ℕ) → IsBytes bytes → IsBytes (take n bytes)
first_bytes zero bytes small i = no_bytes i
first_bytes (suc n) [] small i = no_bytes i
first_bytes (suc n) (b ∷ bytes) small zero = small zero
first_bytes (suc n) (b ∷ bytes) small (suc i) = first_bytes n bytes (λ k. small (suc k)) i

later_bytes : (n : ℕ) (bytes : List ℕ) → IsBytes bytes → IsBytes (drop n bytes)
later_bytes zero bytes small = small
later_bytes (suc n) [] small = no_bytes
later_bytes (suc n) (b ∷ bytes) small = later_bytes n bytes (λ k. small (suc k))

zero_bytes : (n : ℕ) → IsBytes (zeros n)
zero_bytes zero i = omega arith
zero_bytes (suc n) zero = omega arith
zero_bytes (suc n) (suc i) = zero_bytes n i

-- ---- parts of one size

sizes_of : (size : ℕ) (values : List (List ℕ)) → AllFit (AreBytes size) values → AreOfSize size values
sizes_of size [] fit = tt
sizes_of size (value ∷ values) fit = (fit.0.sized, sizes_of size values fit.1)

part_fits : (size part : ℕ) (values : List (List ℕ)) → AllFit (AreBytes size) values → part < length values → AreBytes size (part_at part values)
part_fits size part [] fit within = absurd (omega arith)
part_fits size zero (value ∷ values) fit within = fit.0
part_fits size (suc part) (value ∷ values) fit within = part_fits size part values fit.1 (omega arith)

set_fits : (size part : ℕ) (value : List ℕ) (values : List (List ℕ)) → AllFit (AreBytes size) values → AreBytes size value
    → AllFit (AreBytes size) (slice_set values part value)
set_fits size part value [] fit new = tt
set_fits size zero value (first ∷ values) fit new = (new, fit.1)
set_fits size (suc part) value (first ∷ values) fit new = (fit.0, set_fits size part value values fit.1 new)

zero_parts_fit : (parts size : ℕ) → AllFit (AreBytes size) (zero_parts parts size)
zero_parts_fit zero size = tt
zero_parts_fit (suc parts) size = (record { sized = length-replicate {A = ℕ} size 0; small = zero_bytes size }, zero_parts_fit parts size)

-- ---- fields, end to end

-- a value is not longer than its field
round8_above : (n : ℕ) → n ≤ round8 n
round8_above n = omega arith

length-field_of : (value : List ℕ) → length (field_of value) ≡ round8 (length value)
length-field_of value =
    omega (
      arith,
      round8_above (length value),
      length-append value (zeros (round8 (length value) - length value)),
      length-replicate {A =
          ℕ} (round8 (length value) - length value) 0,
    )

length-fields_of : (size : ℕ) (values : List (List ℕ)) → AreOfSize size values → length (fields_of values) ≡ length values * round8 size
length-fields_of size [] sizes = rw zero-mul refl
length-fields_of size (value ∷ values) sizes =
    let rest = length-fields_of size values sizes.1 in
    let first : length (field_of value) ≡ round8 size = length-field_of value ∙ ap round8 sizes.0 in
    omega (arith, rest, first, length-append (field_of value) (fields_of values), suc-mul (length values) (round8 size))

length-values_in : (n size : ℕ) (fields : List ℕ) → length (values_in n size fields) ≡ n
length-values_in zero size fields = refl
length-values_in (suc n) size fields = ap suc (length-values_in n size (drop (round8 size) fields))

-- values that are laid in fields lie in these fields
values_in-fields_of : (size : ℕ) (values : List (List ℕ)) → AreOfSize size values → values_in (length values) size (fields_of values) ≡ values
values_in-fields_of size [] sizes = refl
values_in-fields_of size (value ∷ values) sizes =
    let pad : List ℕ = zeros (round8 (length value) - length value) in
    let head : take size (field_of value ++ fields_of values) ≡ value =
    ap (take size) (append_assoc value pad (fields_of values)) ∙ take_at value (pad ++ fields_of values) size sizes.0 in
    let tail : drop (round8 size) (field_of value ++ fields_of values) ≡ fields_of values =
    drop_at (field_of value) (fields_of values) (round8 size) (length-field_of value ∙ ap round8 sizes.0) in
    ap (λ (z : List ℕ × List ℕ). z.0 ∷ values_in (length values) size z.1) (λ i. (head i, tail i)) ∙ ap (λ rest. value ∷ rest) (values_in-fields_of size values sizes.1)

fields_small : (size : ℕ) (values : List (List ℕ)) → AllFit (AreBytes size) values → IsBytes (fields_of values)
fields_small size [] fit = no_bytes
fields_small size (value ∷ values) fit =
    let pad : ℕ = round8 (length value) - length value in
    let field : IsBytes (field_of value) = joined_bytes value (zeros pad) fit.0.small (zero_bytes pad) in
    joined_bytes (field_of value) (fields_of values) field (fields_small size values fit.1)

-- the values in as many fields as there are
values_in_fit : (n size : ℕ) (fields : List ℕ) → n * round8 size ≤ length fields → IsBytes fields → AllFit (AreBytes size) (values_in n size fields)
values_in_fit zero size fields long small = tt
values_in_fit (suc n) size fields long small =
    let one = suc-mul n (round8 size) in
    let above = round8_above size in
    let first : AreBytes size (take size fields) = record { sized = length-take-le size fields (omega arith); small = first_bytes size fields small } in
    (first, values_in_fit n size (drop (round8 size) fields) (omega (arith, length-drop (round8 size) fields)) (later_bytes (round8 size) fields small))

-- the fields of as many values have zeros behind each
fields_padded : (parts size : ℕ) (values : List (List ℕ)) → AreOfSize size values → length values ≡ parts
    → bytes_eq (fields_of (values_in parts size (fields_of values))) (fields_of values) ≡ true
fields_padded parts size values sizes counted =
    (bytes_eq-Decides (fields_of (values_in parts size (fields_of values))) (fields_of values)).1
    (ap (λ n. fields_of (values_in n size (fields_of values))) (sym counted) ∙ ap fields_of (values_in-fields_of size values sizes))

-- ---- what stands in an element, read and written

-- so many values, each of them bytes of this size
pub record HaveParts (parts size : ℕ) (values : List (List ℕ)) : Type 0 where
  pub counted : length values ≡ parts
  pub fit : AllFit (AreBytes size) values

-- the values of an element of a map: one for each part
abbrev pub PartsFit : Shape → List (List ℕ) → Type 0
PartsFit shape values = HaveParts (part_count shape) shape.value_size values

parts_of_body : (shape : Shape) (stored : Stored) → BodyFits shape stored → PartsFit shape stored.values
parts_of_body shape stored fits = record { counted = fits.parts; fit = fits.values }

-- what the system call reads of the values of all CPUs
all_read : (parts size : ℕ) (values : List (List ℕ)) → HaveParts parts size values → AreBytes (parts * round8 size) (fields_of values)
all_read parts size values have = record {
  sized = length-fields_of size values (sizes_of size values have.fit) ∙ ap (λ n. n * round8 size) have.counted;
  small = fields_small size values have.fit;
}

one_read : (parts size part : ℕ) (values : List (List ℕ)) → HaveParts parts size values → part < parts → AreBytes size (part_at part values)
one_read parts size part values have within = part_fits size part values have.fit (omega (arith, have.counted))

parts_read : (shape : Shape) (cpu : ℕ) → cpu < shape.cpus → (side : Side) (values : List (List ℕ)) → PartsFit shape values
    → IsValue shape side (value_read shape side cpu values)
parts_read shape cpu on Prog values have =
    let read : AreBytes shape.value_size (value_read shape Prog cpu values) =
    elim (is_percpu shape.kind) as (λ b. HaveParts (if b then shape.cpus else 1) shape.value_size values → AreBytes shape.value_size (if b then part_at cpu values else part_at 0 values)) [
      | true ↦ λ own. one_read shape.cpus shape.value_size cpu values own on
      | false ↦ λ own. one_read 1 shape.value_size 0 values own (omega arith)
    ] have in
    (read, refl)
parts_read shape cpu on Sys values have =
    elim (is_percpu shape.kind) as (λ b. HaveParts (if b then shape.cpus else 1) shape.value_size values
    → AreBytes (if b then shape.cpus * round8 shape.value_size else shape.value_size) (if b then fields_of values else part_at 0 values)
    × ((if b then bytes_eq (fields_of (values_in shape.cpus shape.value_size (if b then fields_of values else part_at 0 values))) (if b then fields_of values else part_at 0 values) else true) ≡ true)) [
      | true ↦ λ own. (all_read shape.cpus shape.value_size values own, fields_padded shape.cpus shape.value_size values (sizes_of shape.value_size values own.fit) own.counted)
      | false ↦ λ own. (one_read 1 shape.value_size 0 values own (omega arith), refl)
    ] have

-- what a side reads of an element that fits is a value of that side
pub read_fits : (shape : Shape) (stored : Stored) (cpu : ℕ) → cpu < shape.cpus → (side : Side) → BodyFits shape stored
    → IsValue shape side (value_read shape side cpu stored.values)
read_fits shape stored cpu on side fits = parts_read shape cpu on side stored.values (parts_of_body shape stored fits)

all_fields : (parts size : ℕ) (fields : List ℕ) → AreBytes (parts * round8 size) fields → HaveParts parts size (values_in parts size fields)
all_fields parts size fields bytes = record {
  counted = length-values_in parts size fields;
  fit = values_in_fit parts size fields (omega (arith, bytes.sized)) bytes.small;
}

one_written : (parts size part : ℕ) (value : List ℕ) (values : List (List ℕ)) → HaveParts parts size values → AreBytes size value
    → HaveParts parts size (written_own part value values)
one_written parts size part value values have bytes = record {
  counted = length-set values part value ∙ have.counted;
  fit = set_fits size part value values have.fit bytes;
}

one_new : (parts size part : ℕ) (value : List ℕ) → AreBytes size value → HaveParts parts size (new_own parts part value)
one_new parts size part value bytes =
    let zeroed : HaveParts parts size (zero_parts parts (length value)) =
    subst (λ (n : ℕ). HaveParts parts size (zero_parts parts n)) (sym bytes.sized) (record {
      counted =
          length-replicate {A = List ℕ} parts (zeros size);
      fit = zero_parts_fit parts size;
    }) in
    one_written parts size part value (zero_parts parts (length value)) zeroed bytes

-- the values of a new element into which a side writes a value
pub new_fits : (shape : Shape) (side : Side) (cpu : ℕ) (value : List ℕ) → AreBytes (value_len_of shape side) value
    → PartsFit shape (new_values shape side cpu value)
new_fits shape Prog cpu value bytes =
    elim (is_percpu shape.kind) as (λ b. HaveParts (if b then shape.cpus else 1) shape.value_size (if b then new_own shape.cpus cpu value else new_own 1 0 value)) [
      | true ↦ one_new shape.cpus shape.value_size cpu value bytes
      | false ↦ one_new 1 shape.value_size 0 value bytes
    ]
new_fits shape Sys cpu value bytes =
    elim (is_percpu shape.kind) as (λ b. AreBytes (if b then shape.cpus * round8 shape.value_size else shape.value_size) value
    → HaveParts (if b then shape.cpus else 1) shape.value_size (if b then values_in shape.cpus shape.value_size value else new_own 1 0 value)) [
      | true ↦ λ all. all_fields shape.cpus shape.value_size value all
      | false ↦ λ one. one_new 1 shape.value_size 0 value one
    ] bytes

-- the values of an element over which a side writes a value
pub written_fits : (shape : Shape) (side : Side) (cpu : ℕ) (values : List (List ℕ)) (value : List ℕ) → PartsFit shape values
    → AreBytes (value_len_of shape side) value → PartsFit shape (values_written shape side cpu values value)
written_fits shape Prog cpu values value have bytes =
    elim (is_percpu shape.kind) as (λ b. HaveParts (if b then shape.cpus else 1) shape.value_size values → HaveParts (if b then shape.cpus else 1) shape.value_size (if b then written_own cpu value values else written_own 0 value values)) [
      | true ↦ λ own. one_written shape.cpus shape.value_size cpu value values own bytes
      | false ↦ λ own. one_written 1 shape.value_size 0 value values own bytes
    ] have
written_fits shape Sys cpu values value have bytes =
    elim (is_percpu shape.kind) as (λ b. HaveParts (if b then shape.cpus else 1) shape.value_size values → AreBytes (if b then shape.cpus * round8 shape.value_size else shape.value_size) value
    → HaveParts (if b then shape.cpus else 1) shape.value_size (if b then values_in shape.cpus shape.value_size value else written_own 0 value values)) [
      | true ↦ λ own all. all_fields shape.cpus shape.value_size value all
      | false ↦ λ own one. one_written 1 shape.value_size 0 value values own one
    ] have bytes

-- what a program is handed in the place of a value that the system call reads
pub handed_bytes : (shape : Shape) (cpu : ℕ) (value : List ℕ) → cpu < shape.cpus → AreBytes (value_len_of shape Sys) value
    → AreBytes (value_len_of shape Prog) (program_value shape cpu value)
handed_bytes shape cpu value on bytes =
    elim (is_percpu shape.kind) as (λ b. AreBytes (if b then shape.cpus * round8 shape.value_size else shape.value_size) value → AreBytes shape.value_size (if b then part_at cpu (values_in shape.cpus shape.value_size value) else value)) [
      | true ↦ λ all. one_read shape.cpus shape.value_size cpu (values_in shape.cpus shape.value_size value) (all_fields shape.cpus shape.value_size value all) on
      | false ↦ λ one. one
    ] bytes

pub handed_fits : (shape : Shape) (cpu : ℕ) (value : List ℕ) → cpu < shape.cpus → IsValue shape Sys value
    → AreBytes (value_len_of shape Prog) (program_value shape cpu value)
handed_fits shape cpu value on fits = handed_bytes shape cpu value on fits.0

pub handed_is_value : (shape : Shape) (cpu : ℕ) (value : List ℕ) → cpu < shape.cpus → IsValue shape Sys value
    → IsValue shape Prog (program_value shape cpu value)
handed_is_value shape cpu value on fits = (handed_fits shape cpu value on fits, refl)
