-- What bytes that may lie in place stand for.
use Rattle.std.specs.Prelude.{ℕ, ◌≤◌, List, take, ⊤}
use Rattle.map_types.specs.declared.bytes.Data.{Data}
use Rattle.map_types.specs.declared.bytes.Data.TheVariants.{Short, Long}

abbrev pub bytes_of : Data → List ℕ
bytes_of (Short len bytes) = take len bytes
bytes_of (Long items) = items.value.items

abbrev pub IsWithin : Data → Type 0
IsWithin (Short len bytes) = len ≤ 22
IsWithin (Long items) = ⊤
