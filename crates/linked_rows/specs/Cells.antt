-- The cells of a list of rows. Each element has the cell of its number, and the mark, whose number is the bound of the
-- elements, has the cell behind these. The mark stands before the head and behind the tail.
use Rattle.std.specs.Prelude.{◌≡◌, ◌≢◌, ℕ, zero, suc, ◌≤◌, false, List, [], ◌∷◌, ◌++◌, map, length, reverse, get_or, Option, None, Some, if◌then◌else◌}
use Rattle.map_types.specs.declared.row.Row.{Row}
use Rattle.map_types.specs.Listed.{elements_of}
use Rattle.row_list.specs.RowWords.{row_of, AreRows}
use Rattle.linked_rows.specs.declared.cells.Cell.{Cell}

abbrev pub no_cell : Cell
no_cell = record { listed = false; hash = 0; before = 0; after = 0 }

-- the cells next to that of a number
abbrev pub after_at : List Cell → ℕ → ℕ
after_at cells x = (get_or cells x no_cell).after

abbrev pub before_at : List Cell → ℕ → ℕ
before_at cells x = (get_or cells x no_cell).before

-- the row that a cell has, where its element is on the list
abbrev pub row_in : ℕ → Cell → Option Row
row_in x cell = if cell.listed then Some (record { element = x; hash = cell.hash }) else None

abbrev pub row_at : List Cell → ℕ → Option Row
row_at cells x = row_in x (get_or cells x no_cell)

abbrev pub row_first : Option Row → List Row → List Row
row_first None rows = []
row_first (Some row) rows = row ∷ rows

-- the rows that are met from a cell on, in at most so many steps
abbrev pub rows_from : ℕ → ℕ → List Cell → List Row
rows_from zero at cells = []
rows_from (suc steps) at cells = row_first (row_at cells at) (rows_from steps (after_at cells at) cells)

-- the rows of a list, head first: what is met from behind the mark on
unfoldable pub rows_of : ℕ → List Cell → List Row
rows_of mark cells = rows_from mark (after_at cells mark) cells

-- `next` leads from the mark over the cells of the rows, in order, and back to the mark.
abbrev pub IsRing : (ℕ → ℕ) → ℕ → List Row → Type 0
IsRing next mark rows = map next (mark ∷ elements_of rows) ≡ elements_of rows ++ mark ∷ []

-- What cells and rows have to do with each other: each cell has its element's row where there is one, and the cells are
-- linked in the order of the rows, both ways, in a ring that the mark closes.
pub record IsLinked (mark : ℕ) (cells : List Cell) (rows : List Row) : Type 0 where
  pub are : AreRows mark rows
  pub all : length cells ≡ suc mark
  pub its_row : (x : ℕ) → row_at cells x ≡ row_of x rows
  pub forth : IsRing (after_at cells) mark rows
  pub back : IsRing (before_at cells) mark (reverse rows)
  pub within : (x : ℕ) → (after_at cells x ≤ mark) × (before_at cells x ≤ mark)

-- the function that gives a value at one number, and elsewhere what f gives
pub record IsPut (f : ℕ → ℕ) (at value : ℕ) (g : ℕ → ℕ) : Type 0 where
  pub there : g at ≡ value
  pub elsewhere : (x : ℕ) → x ≢ at → g x ≡ f x

-- The cell of `first` is led to that of `second`, and that one back to it.
pub record Joins (first second : ℕ) (old new : List Cell) : Type 0 where
  pub long : length new ≡ length old
  pub after : IsPut (after_at old) first second (after_at new)
  pub before : IsPut (before_at old) second first (before_at new)
  pub rows : (x : ℕ) → row_at new x ≡ row_at old x

-- The cell of x gets a row or none, and all links stay.
pub record Keeps (x : ℕ) (row : Option Row) (old new : List Cell) : Type 0 where
  pub long : length new ≡ length old
  pub after : (y : ℕ) → after_at new y ≡ after_at old y
  pub before : (y : ℕ) → before_at new y ≡ before_at old y
  pub there : row_at new x ≡ row
  pub elsewhere : (y : ℕ) → y ≢ x → row_at new y ≡ row_at old y
