-- The sizes of what the two sides of a map read and write.
use Rattle.std.proofs.Common.{◌≡◌, ℕ, ◌*◌, ◌<◌, true, false, List, length, arith, refl, sym, ap, ◌∙◌}
use Rattle.std.specs.Prelude.{if◌then◌else◌}
use Rattle.map_types.specs.declared.attr.Shape.{Shape}
use Rattle.map_types.specs.declared.kind.Side.{Side}
use Rattle.map_types.specs.declared.kind.Side.TheVariants.{Prog, Sys}
use Rattle.map_types.specs.Kind.{is_percpu}
use Rattle.map_types.specs.ValueLen.{round8, value_len_of}
use Rattle.map_types.specs.Parts.{AreOfSize, part_at, fields_of, values_in, written_own, new_own}
use Rattle.map_types.specs.Sides.{part_count, value_read, values_written, new_values}
use Rattle.percpu_values.proofs.FieldLemmas.{length-fields_of, length-values_in, sizes-values_in, values_in-fields_of}
use Rattle.percpu_values.proofs.SizeLemmas.{sizes-at, sizes-written, length-written, sizes-new, length-new}

-- so many values, all of one size
pub record HaveSizes (parts size : ℕ) (values : List (List ℕ)) : Type 0 where
  pub counted : length values ≡ parts
  pub sized : AreOfSize size values

all_fields : (parts size : ℕ) (fields : List ℕ) → length fields ≡ parts * round8 size → HaveSizes parts size (values_in parts size fields)
all_fields parts size fields exact = record {
  counted = length-values_in parts size fields;
  sized = sizes-values_in parts size fields (omega arith);
}

one_written : (parts size part : ℕ) (value : List ℕ) (values : List (List ℕ)) → HaveSizes parts size values → length value ≡ size → HaveSizes parts size (written_own part value values)
one_written parts size part value values have exact = record {
  counted = length-written part value values ∙ have.counted;
  sized = sizes-written size part value values have.sized exact;
}

one_new : (parts size part : ℕ) (value : List ℕ) → length value ≡ size → HaveSizes parts size (new_own parts part value)
one_new parts size part value exact = record {
  counted = length-new parts part value;
  sized = sizes-new parts part size value exact;
}

-- what a side reads is as long as its value
pub length-value_read : (shape : Shape) (side : Side) (cpu : ℕ) (values : List (List ℕ)) → HaveSizes (part_count shape) shape.value_size values → cpu < shape.cpus → length (value_read shape side cpu values) ≡ value_len_of shape side
length-value_read shape Prog cpu values have on =
    elim (is_percpu shape.kind) as (λ b. HaveSizes (if b then shape.cpus else 1) shape.value_size values → length (if b then part_at cpu values else part_at 0 values) ≡ shape.value_size) [
      | true ↦ λ own. sizes-at shape.value_size cpu values own.sized (omega (arith, own.counted))
      | false ↦ λ own. sizes-at shape.value_size 0 values own.sized (omega (arith, own.counted))
    ] have
length-value_read shape Sys cpu values have on =
    elim (is_percpu shape.kind) as (λ b. HaveSizes (if b then shape.cpus else 1) shape.value_size values → length (if b then fields_of values else part_at 0 values) ≡ (if b then shape.cpus * round8 shape.value_size else shape.value_size)) [
      | true ↦ λ own. length-fields_of shape.value_size values own.sized ∙ ap (λ n. n * round8 shape.value_size) own.counted
      | false ↦ λ own. sizes-at shape.value_size 0 values own.sized (omega (arith, own.counted))
    ] have

-- a write of a value of a side leaves the sizes
pub HaveSizes-written : (shape : Shape) (side : Side) (cpu : ℕ) (values : List (List ℕ)) (bytes : List ℕ) → HaveSizes (part_count shape) shape.value_size values → length bytes ≡ value_len_of shape side → HaveSizes (part_count shape) shape.value_size (values_written shape side cpu values bytes)
HaveSizes-written shape Prog cpu values bytes have exact =
    elim (is_percpu shape.kind) as (λ b. HaveSizes (if b then shape.cpus else 1) shape.value_size values → HaveSizes (if b then shape.cpus else 1) shape.value_size (if b then written_own cpu bytes values else written_own 0 bytes values)) [
      | true ↦ λ own. one_written shape.cpus shape.value_size cpu bytes values own exact
      | false ↦ λ own. one_written 1 shape.value_size 0 bytes values own exact
    ] have
HaveSizes-written shape Sys cpu values bytes have exact =
    elim (is_percpu shape.kind) as (λ b. HaveSizes (if b then shape.cpus else 1) shape.value_size values → length bytes ≡ (if b then shape.cpus * round8 shape.value_size else shape.value_size) → HaveSizes (if b then shape.cpus else 1) shape.value_size (if b then values_in shape.cpus shape.value_size bytes else written_own 0 bytes values)) [
      | true ↦ λ own long. all_fields shape.cpus shape.value_size bytes long
      | false ↦ λ own long. one_written 1 shape.value_size 0 bytes values own long
    ] have exact

-- the values of a new element have the sizes
pub HaveSizes-new : (shape : Shape) (side : Side) (cpu : ℕ) (bytes : List ℕ) → length bytes ≡ value_len_of shape side → HaveSizes (part_count shape) shape.value_size (new_values shape side cpu bytes)
HaveSizes-new shape Prog cpu bytes exact =
    elim (is_percpu shape.kind) as (λ b. HaveSizes (if b then shape.cpus else 1) shape.value_size (if b then new_own shape.cpus cpu bytes else new_own 1 0 bytes)) [
      | true ↦ one_new shape.cpus shape.value_size cpu bytes exact
      | false ↦ one_new 1 shape.value_size 0 bytes exact
    ]
HaveSizes-new shape Sys cpu bytes exact =
    elim (is_percpu shape.kind) as (λ b. length bytes ≡ (if b then shape.cpus * round8 shape.value_size else shape.value_size) → HaveSizes (if b then shape.cpus else 1) shape.value_size (if b then values_in shape.cpus shape.value_size bytes else new_own 1 0 bytes)) [
      | true ↦ λ long. all_fields shape.cpus shape.value_size bytes long
      | false ↦ λ long. one_new 1 shape.value_size 0 bytes long
    ] exact

-- what a program reads of an element is the part of its CPU in what the system call reads of it
pub program_reads : (shape : Shape) (cpu : ℕ) (values : List (List ℕ)) → HaveSizes (part_count shape) shape.value_size values → (if is_percpu shape.kind then part_at cpu (values_in shape.cpus shape.value_size (value_read shape Sys cpu values)) else value_read shape Sys cpu values) ≡ value_read shape Prog cpu values
program_reads shape cpu values have =
    elim (is_percpu shape.kind) as (λ b. HaveSizes (if b then shape.cpus else 1) shape.value_size values → (if b then part_at cpu (values_in shape.cpus shape.value_size (if b then fields_of values else part_at 0 values)) else (if b then fields_of values else part_at 0 values)) ≡ (if b then part_at cpu values else part_at 0 values)) [
      | true ↦ λ own. ap (λ n. part_at cpu (values_in n shape.value_size (fields_of values))) (sym own.counted) ∙ ap (part_at cpu) (values_in-fields_of shape.value_size values own.sized)
      | false ↦ λ own. refl
    ] have
