-- Words on the rows of an LRU list, head first.
use Rattle.std.specs.Prelude.{ℕ, ◌==◌, ◌<◌, ◌≤◌, ◌-◌, ◌^◌, Bool, List, [], ◌∷◌, length, find, reverse, Option, None, Some, if◌then◌else◌}
use Rattle.map_types.specs.ElementLists.{times, IsIn}
use Rattle.map_types.specs.Listed.{elements_of, without_those}
use Rattle.map_types.specs.declared.row.Row.{Row}

abbrev pub is_of : ℕ → Row → Bool
is_of e row = row.element == e

-- the row of an element
abbrev pub row_of : ℕ → List Row → Option Row
row_of e rows = find (is_of e) rows

-- the list without it
abbrev pub without_row : ℕ → List Row → List Row
without_row e rows = without_those (λ x. x == e) rows

abbrev pub head_row : List Row → Option Row
head_row [] = None
head_row (row ∷ rows) = Some row

abbrev pub tail_row : List Row → Option Row
tail_row rows = head_row (reverse rows)

-- the row before that of e, where `last` stands before the list
abbrev pub row_before_from : Option Row → ℕ → List Row → Option Row
row_before_from last e [] = None
row_before_from last e (row ∷ rows) = if is_of e row then last else row_before_from (Some row) e rows

-- the neighbour of e towards the head, none where e is the head or isn't there
abbrev pub row_before : ℕ → List Row → Option Row
row_before e rows = row_before_from None e rows

-- the neighbour of e towards the tail, none where e is the tail or isn't there
abbrev pub row_after : ℕ → List Row → Option Row
row_after e [] = None
row_after e (row ∷ rows) = if is_of e row then head_row rows else row_after e rows

-- rows of distinct elements, all below a bound, and no more of them than the bound says
pub record AreRows (bound : ℕ) (rows : List Row) : Type 0 where
  pub once : (e : ℕ) → times e (elements_of rows) ≤ 1
  pub below : (e : ℕ) → IsIn e (elements_of rows) → e < bound
  pub few : length rows ≤ bound
  pub countable : bound < 2 ^ 32

-- how many more rows there is room for
abbrev pub spare_of : ℕ → List Row → ℕ
spare_of bound rows = bound - length rows
