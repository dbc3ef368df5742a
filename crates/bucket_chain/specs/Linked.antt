-- A list that is linked through its bodies.
use Rattle.std.specs.Prelude.{List, [], Option, None, Some}
use Rattle.std.specs.Global.{Box}
use Rattle.map_types.specs.Stored.{Stored}
use Rattle.percpu_values.specs.Cells.{bodies_from}
use Rattle.percpu_values.specs.declared.cell.Cell.{Cell}

-- the bodies from the first cell on, none where there is none
abbrev pub linked : Option (Box Cell) → List Stored
linked None = []
linked (Some cell) = bodies_from cell.value
