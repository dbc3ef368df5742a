-- The rows of a list set that are listed, and words on them that a rotation and a shrink share. Lists are head first.
use Rattle.std.specs.Prelude.{ℕ, ◌+◌, ◌==◌, Bool, not, List, map, filter, find, take, reverse, Option, None, Some, option_map, if◌then◌else◌}
use Rattle.std.specs.List.{before_first, after_first, position_or_len}
use Rattle.map_types.specs.declared.row.Row.{Row}

-- A set without its free list. The cursor of the rotation is an inactive element, or none where it stands at the mark,
-- which is before the head and after the tail.
pub record Listed : Type 0 where
  pub active : List Row
  pub inactive : List Row
  pub cursor : Option ℕ

abbrev pub elements_of : List Row → List ℕ
elements_of rows = map (λ row. row.element) rows

-- the rows of those elements, and the rows without them, in their order
abbrev pub those : (ℕ → Bool) → List Row → List Row
those picked rows = filter (λ row. picked row.element) rows

abbrev pub without_those : (ℕ → Bool) → List Row → List Row
without_those gone rows = filter (λ row. not (gone row.element)) rows

-- what stands before the row of an element, the same with that row, and what stands after it
abbrev pub rows_before : ℕ → List Row → List Row
rows_before e rows = before_first (λ row. row.element == e) rows

abbrev pub rows_to : ℕ → List Row → List Row
rows_to e rows = take (position_or_len (λ row. row.element == e) rows + 1) rows

abbrev pub rows_after : ℕ → List Row → List Row
rows_after e rows = after_first (λ row. row.element == e) rows

-- the nearest element towards the head that isn't gone, none where there is no such one
abbrev pub nearest_before : ℕ → (ℕ → Bool) → List Row → Option ℕ
nearest_before e gone rows =
    option_map (λ row. row.element) (find (λ row. not (gone row.element)) (reverse (rows_before e rows)))

-- Where the cursor stands once those elements have left its list: where the one under it is gone, at the nearest towards
-- the head that isn't, or at the mark.
abbrev pub cursor_without : (ℕ → Bool) → List Row → Option ℕ → Option ℕ
cursor_without gone rows None = None
cursor_without gone rows (Some e) = if gone e then nearest_before e gone rows else Some e
