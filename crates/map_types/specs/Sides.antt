-- How the two sides of a map read and write the values of an element. On the kinds that have a value for each CPU a
-- program sees that of its CPU, and the system call sees all of them; on the other kinds both see the one value.
use Rattle.std.specs.Prelude.{ℕ, List, if◌then◌else◌}
use Rattle.map_types.specs.declared.attr.Shape.{Shape}
use Rattle.map_types.specs.declared.kind.Side.{Side}
use Rattle.map_types.specs.declared.kind.Side.TheVariants.{Prog, Sys}
use Rattle.map_types.specs.Kind.{is_percpu}
use Rattle.map_types.specs.Parts.{part_at, fields_of, values_in, written_own, new_own}

-- how many parts the values of an element have
abbrev pub part_count : Shape → ℕ
part_count shape = if is_percpu shape.kind then shape.cpus else 1

-- what a side reads, on a CPU
abbrev pub percpu_read : Side → ℕ → List (List ℕ) → List ℕ
percpu_read Prog cpu values = part_at cpu values
percpu_read Sys cpu values = fields_of values

abbrev pub value_read : Shape → Side → ℕ → List (List ℕ) → List ℕ
value_read shape side cpu values =
    if is_percpu shape.kind then percpu_read side cpu values else part_at 0 values

-- the values of an element over which a side writes these bytes, on a CPU
abbrev pub percpu_written : Shape → Side → ℕ → List (List ℕ) → List ℕ → List (List ℕ)
percpu_written shape Prog cpu values bytes = written_own cpu bytes values
percpu_written shape Sys cpu values bytes = values_in shape.cpus shape.value_size bytes

abbrev pub values_written : Shape → Side → ℕ → List (List ℕ) → List ℕ → List (List ℕ)
values_written shape side cpu values bytes =
    if is_percpu shape.kind then percpu_written shape side cpu values bytes else written_own 0 bytes values

-- the values of a new element into which a side writes these bytes, on a CPU
abbrev pub percpu_new : Shape → Side → ℕ → List ℕ → List (List ℕ)
percpu_new shape Prog cpu bytes = new_own shape.cpus cpu bytes
percpu_new shape Sys cpu bytes = values_in shape.cpus shape.value_size bytes

abbrev pub new_values : Shape → Side → ℕ → List ℕ → List (List ℕ)
new_values shape side cpu bytes =
    if is_percpu shape.kind then percpu_new shape side cpu bytes else new_own 1 0 bytes
