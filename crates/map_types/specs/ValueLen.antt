-- How long a value is.
use Rattle.std.specs.Prelude.{ℕ, ◌*◌, if◌then◌else◌}
use Rattle.std.specs.Int.{next_multiple_of}
use Rattle.map_types.specs.declared.attr.Shape.{Shape}
use Rattle.map_types.specs.declared.kind.Side.{Side}
use Rattle.map_types.specs.declared.kind.Side.TheVariants.{Prog, Sys}
use Rattle.map_types.specs.Kind.{is_percpu}

-- n rounded up to a multiple of 8
abbrev pub round8 : ℕ → ℕ
round8 n = next_multiple_of n 8

-- The bytes of a value. A program sees the value of its CPU, and the system call those of all CPUs in turn, each of
-- them at a multiple of 8 bytes.
abbrev pub value_len_of : Shape → Side → ℕ
value_len_of shape Prog = shape.value_size
value_len_of shape Sys =
    if is_percpu shape.kind then shape.cpus * round8 shape.value_size else shape.value_size
