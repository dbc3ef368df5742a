-- A list set: active, inactive and free, as whole lists, head first. The moves are those of the kernel's
-- `__bpf_lru_node_move`, `__bpf_lru_node_move_in` and `__bpf_lru_node_move_to_free`, and the turns of a CPU's own set those
-- of `bpf_percpu_lru_pop_free` and `bpf_percpu_lru_push_free`.
use Rattle.std.specs.Prelude.{◌≡◌, ◌≢◌, ℕ, ◌==◌, Bool, ◌||◌, IsTrue, List, [], ◌∷◌, ◌++◌, drop, reverse, slice_get, Option, None, Some}
use Rattle.std.specs.List.{list_any}
use Rattle.place_words.specs.declared.list_part.OwnPart.{OwnPart}
use Rattle.place_words.specs.declared.list_part.OwnPart.TheVariants.{Turn, Push}
use Rattle.map_types.specs.declared.row.Row.{Row}
use Rattle.place_words.specs.declared.visits.ShrinkNote.{ShrinkNote}
use Rattle.place_words.specs.declared.visits.Visit.{Visit}
use Rattle.map_types.specs.Listed.{Listed, without_those, cursor_without}
use Rattle.place_words.specs.Rotation.{rotated, AreRotationVisits}
use Rattle.place_words.specs.Shrinking.{IsShrink, shrunk, freed}

-- the rows that are listed, and the free elements
pub record ListSet : Type 0 where
  pub lists : Listed
  pub free : List ℕ

-- a new set: nothing is listed, the cursor stands at the mark, and these elements are free
abbrev pub new_set : List ℕ → ListSet
new_set free = record { lists = record { active = []; inactive = []; cursor = None }; free = free }

abbrev pub has_row : ℕ → List Row → Bool
has_row e rows = list_any (λ row. row.element == e) rows

-- an element is active or inactive
abbrev pub is_listed : ℕ → Listed → Bool
is_listed e lists = has_row e lists.active || has_row e lists.inactive

-- An element leaves its list. A cursor on it goes to its neighbour towards the head, or to the mark.
abbrev pub unlisted : ℕ → Listed → Listed
unlisted e lists = record {
  active = without_those (λ x. x == e) lists.active;
  inactive = without_those (λ x. x == e) lists.inactive;
  cursor = cursor_without (λ x. x == e) lists.inactive lists.cursor;
}

-- a listed element is freed: it goes to the head of free
abbrev pub pushed_free : ℕ → ListSet → ListSet
pushed_free e set = record { lists = unlisted e set.lists; free = e ∷ set.free }

-- what goes to the head of a list with a hash, where there is something
abbrev pub row_with : ℕ → Option ℕ → List Row
row_with hash None = []
row_with hash (Some e) = (record { element = e; hash = hash }) ∷ []

-- the free element at the head goes to the head of inactive with this hash
abbrev pub given_out : ℕ → Option ℕ → ListSet → ListSet
given_out hash got set = record {
  lists = record set.lists { inactive = row_with hash got ++ set.lists.inactive };
  free = drop 1 set.free;
}

-- the set after a rotation
abbrev pub rotated_set : ℕ → List Visit → List Visit → ListSet → ListSet
rotated_set scans active inactive set = record set { lists = rotated scans set.lists active inactive }

-- after a shrink, where there was one: what it freed goes to the head of free, one after another
abbrev pub shrunk_into_free : Option ShrinkNote → ListSet → ListSet
shrunk_into_free None set = set
shrunk_into_free (Some note) set = record {
  lists = shrunk set.lists note.looks note.forced;
  free = reverse (freed note.looks note.forced) ++ set.free;
}

-- a CPU's own set is rotated and shrunk with this scan limit, and a shrink is to free so many elements
abbrev pub own_scans : ℕ
own_scans = 4

abbrev pub own_target : ℕ
own_target = 4

-- a set is shrunk exactly where no element is free
abbrev pub AllowsOwnShrink : Option ShrinkNote → ListSet → Type 0
AllowsOwnShrink None set = set.free ≢ []
AllowsOwnShrink (Some note) set =
    (set.free ≡ []) × (note.target ≡ own_target) × IsShrink own_scans own_target set.lists note.looks note.forced

-- where a turn may be this part: the element that it got is then the head of free
abbrev pub AllowsOnOwn : OwnPart → ListSet → Type 0
AllowsOnOwn (Turn hash active inactive shrink got) set =
    AreRotationVisits own_scans set.lists active inactive
    × AllowsOwnShrink shrink (rotated_set own_scans active inactive set)
    × (got ≡ slice_get (shrunk_into_free shrink (rotated_set own_scans active inactive set)).free 0)
AllowsOnOwn (Push e) set = IsTrue (is_listed e set.lists)

-- the set after a part that was allowed there
unfoldable pub own_after : OwnPart → ListSet → ListSet
own_after (Turn hash active inactive shrink got) set =
    given_out hash got (shrunk_into_free shrink (rotated_set own_scans active inactive set))
own_after (Push e) set = pushed_free e set
