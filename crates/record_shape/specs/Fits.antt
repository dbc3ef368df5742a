-- Facts of each of a list, by cases; numbers that ascend; and values padded with zeros.
use Rattle.std.specs.Prelude.{ℕ, nat_lt, ◌&&◌, Bool, true, List, [], ◌∷◌, bytes_eq, if◌then◌else◌}
use Rattle.map_types.specs.declared.attr.Shape.{Shape}
use Rattle.map_types.specs.declared.kind.Side.{Side}
use Rattle.map_types.specs.declared.kind.Side.TheVariants.{Prog, Sys}
use Rattle.map_types.specs.Kind.{is_percpu}
use Rattle.map_types.specs.Parts.{fields_of, values_in}

-- each fits
abbrev pub AllFit : {A : Type 0} → (A → Type 0) → List A → Type 0
AllFit Fits [] = Unit {0}
AllFit Fits (a ∷ more) = Fits a × AllFit Fits more

-- each is less than the next, and this one is less than the first
abbrev pub ascends_above : ℕ → List ℕ → Bool
ascends_above least [] = true
ascends_above least (n ∷ more) = nat_lt least n && ascends_above n more

-- each is less than the next
abbrev pub ascends : List ℕ → Bool
ascends [] = true
ascends (n ∷ more) = ascends_above n more

-- on the kinds with a value for each CPU what the system call reads has zeros behind each part
abbrev pub is_padded : Shape → Side → List ℕ → Bool
is_padded shape Prog value = true
is_padded shape Sys value =
    if is_percpu shape.kind then bytes_eq (fields_of (values_in shape.cpus shape.value_size value)) value else true
