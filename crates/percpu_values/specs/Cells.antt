-- Cells that are linked through the bodies.
use Rattle.std.specs.Prelude.{◌≡◌, List, [], ◌∷◌}
use Rattle.map_types.specs.Stored.{Stored}
use Rattle.percpu_values.specs.declared.cell.Cell.{Cell, Cell', Held-Cell-next, None', Some'}

-- the body of a cell
abbrev pub body_in : Cell → Stored
body_in (Cell' body next) = body

-- no cell comes after it
abbrev pub IsLast : Cell → Type 0
IsLast (Cell' body next) = next ≡ None'

-- the bodies of a cell and of those after it, from the first on
abbrev mutual
  pub bodies_from : Cell → List Stored
  bodies_from (Cell' body next) = body ∷ bodies_after next

  pub bodies_after : Held-Cell-next → List Stored
  bodies_after None' = []
  bodies_after (Some' p cell) = bodies_from cell
