-- What an element of a map stores.
use Rattle.std.specs.Prelude.{◌≡◌, ℕ, List, length}
use Rattle.map_types.specs.Parts.{zeros, zero_parts, AreOfSize}
use Rattle.map_types.specs.declared.attr.Shape.{Shape}
use Rattle.map_types.specs.Sides.{part_count}

-- the number of the element, its key and its values, one a part
pub record Stored : Type 0 where
  pub element : ℕ
  pub key : List ℕ
  pub values : List (List ℕ)

-- an element that has a key and values of these sizes in bytes, all of them 0
abbrev pub zero_stored : ℕ → ℕ → ℕ → ℕ → Stored
zero_stored element key_size parts size =
    record { element = element; key = zeros key_size; values = zero_parts parts size }

-- its key and its values have these sizes in bytes
pub record HasSizes (key_size parts size : ℕ) (stored : Stored) : Type 0 where
  pub key_sized : length stored.key ≡ key_size
  pub parts_counted : length stored.values ≡ parts
  pub parts_sized : AreOfSize size stored.values

-- its key and its values have the sizes of a map
abbrev pub IsSized : Shape → Stored → Type 0
IsSized shape body = HasSizes shape.key_size (part_count shape) shape.value_size body
