-- A list set of an evicting map: the lists active, inactive and free, and the cursor of the rotation. The rules are those
-- of the kernel's `__bpf_lru_node_move`, `__bpf_lru_node_move_in` and `__bpf_lru_node_move_to_free`. Lists are head first.
use Rattle.std.specs.Prelude.{ℕ, ◌==◌, ◌+◌, ◌-◌, ◌<◌, ◌≤◌, ◌^◌, List, [], ◌∷◌, ◌++◌, map, Option, None, Some, MatchOption}
use Rattle.percpu_values.specs.BodyList.{BodyList}
use Rattle.map_types.specs.ElementLists.{times, IsIn}
use Rattle.map_types.specs.Listed.{Listed, elements_of, cursor_without}
use Rattle.map_types.specs.declared.row.Row.{Row}
use Rattle.row_list.specs.RowWords.{row_of, without_row}
use Rattle.lru_lists.specs.declared.name.ListName.{ListName}
use Rattle.lru_lists.specs.declared.name.ListName.TheVariants.{Active, Inactive}
use Rattle.place_words.specs.Bodies.{numbers}

-- The cursor is an inactive element, or none where it stands at the mark. `elements` is a bound of the elements that the
-- set may have.
pub record SetView : Type 0 where
  pub active : List Row
  pub inactive : List Row
  pub free : BodyList
  pub cursor : Option ℕ
  pub elements : ℕ

-- the set without its free list
abbrev pub listed : SetView → Listed
listed set = record { active = set.active; inactive = set.inactive; cursor = set.cursor }

abbrev pub rows_of : ListName → SetView → List Row
rows_of Active set = set.active
rows_of Inactive set = set.inactive

-- how often an element stands on active and inactive, and how often on any of the three lists
abbrev pub times_listed : ℕ → SetView → ℕ
times_listed e set = times e (elements_of set.active) + times e (elements_of set.inactive)

abbrev pub times_on : ℕ → SetView → ℕ
times_on e set = times_listed e set + times e (numbers set.free.bodies)

-- the element is active or inactive
abbrev pub IsListed : ℕ → SetView → Type 0
IsListed e set = 0 < times_listed e set

-- a place for the cursor: an inactive element, or the mark
abbrev pub IsPlace : Option ℕ → SetView → Type 0
IsPlace at set = MatchOption at (Unit {0}) (λ e. IsIn e (elements_of set.inactive))

-- Each element stands on one list at most, once, and is below the bound. The cursor is in its place.
pub record IsSet (set : SetView) : Type 0 where
  pub once : (e : ℕ) → times_on e set ≤ 1
  pub below : (e : ℕ) → 0 < times_on e set → e < set.elements
  pub placed : IsPlace set.cursor set
  pub countable : set.elements < 2 ^ 32

-- a new set: all lists are empty, with room for all elements on the free list
abbrev pub empty_set : ℕ → SetView
empty_set elements = record {
  active = [];
  inactive = [];
  free = record { bodies = []; spare = elements };
  cursor = None;
  elements = elements;
}

-- the row of an active or inactive element
abbrev pub row_on : ℕ → SetView → Option Row
row_on e set = row_of e (set.active ++ set.inactive)

-- a row comes to the head of a list
abbrev pub moved_in : Row → ListName → SetView → SetView
moved_in row Active set = record set { active = row ∷ set.active }
moved_in row Inactive set = record set { inactive = row ∷ set.inactive }

-- An element leaves active or inactive. A cursor on it goes to its neighbour towards the head, or to the mark.
abbrev pub taken_off : ℕ → SetView → SetView
taken_off e set = record set {
  active = without_row e set.active;
  inactive = without_row e set.inactive;
  cursor = cursor_without (λ x. x == e) set.inactive set.cursor;
}

-- a row, where there is one, comes to the head of a list
abbrev pub brought : Option Row → ListName → SetView → SetView
brought None to set = set
brought (Some row) to set = moved_in row to set

-- An element leaves its list and comes to the head of another one, or of the same, with the row that it had.
abbrev pub moved_to : ℕ → ListName → SetView → SetView
moved_to e to set = brought (row_on e set) to (taken_off e set)

-- a set with these active and inactive rows and this cursor, its free list as it was
abbrev pub with_listed : Listed → SetView → SetView
with_listed rows set = record set { active = rows.active; inactive = rows.inactive; cursor = rows.cursor }

abbrev pub with_cursor : Option ℕ → SetView → SetView
with_cursor at set = record set { cursor = at }

abbrev pub with_free : BodyList → SetView → SetView
with_free free set = record set { free = free }
