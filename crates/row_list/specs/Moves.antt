-- Changes of a list of rows, one after another.
use Rattle.std.specs.Prelude.{◌≡◌, ℕ, ◌<◌, List, [], ◌∷◌}
use Rattle.map_types.specs.ElementLists.{times}
use Rattle.map_types.specs.declared.row.Row.{Row}
use Rattle.map_types.specs.Listed.{elements_of}
use Rattle.row_list.specs.RowWords.{without_row}
use Rattle.row_list.specs.declared.moves.RowMove.{RowMove}
use Rattle.row_list.specs.declared.moves.RowMove.TheVariants.{Push, TakeOut}

-- A push puts its row first, and a row that is taken out is left out of the list.
abbrev pub moved : List Row → RowMove → List Row
moved rows (Push row) = row ∷ rows
moved rows (TakeOut e) = without_row e rows

-- A row may be pushed where its element is below the bound and isn't in the list.
abbrev pub CanMoveOne : ℕ → List Row → RowMove → Type 0
CanMoveOne bound rows (Push row) = (row.element < bound) × (times row.element (elements_of rows) ≡ 0)
CanMoveOne bound rows (TakeOut e) = Unit {0}

-- each move may be made, after those before it
abbrev pub CanMove : ℕ → List Row → List RowMove → Type 0
CanMove bound rows [] = Unit {0}
CanMove bound rows (move ∷ moves) = CanMoveOne bound rows move × CanMove bound (moved rows move) moves
