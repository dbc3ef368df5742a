-- What a rotation does to a list set and tells of it.
use Rattle.std.specs.Prelude.{◌≡◌, ◌+◌, ◌*◌, ◌≤◌, ℕ, Bool, false, List, ◌++◌, map, length, Option, None, Some, option_map}
use Rattle.map_types.specs.ElementLists.{IsIn, times}
use Rattle.map_types.specs.Listed.{elements_of}
use Rattle.place_words.specs.Rotation.{active_visited, active_rotated, inactive_visited, inactive_rotated, rotated, visited_elements, AreRotationVisits}
use Rattle.map_types.specs.declared.row.Row.{Row}
use Rattle.place_words.specs.declared.visits.Visit.{Visit}
use Rattle.row_list.specs.RowWords.{tail_row}
use Rattle.lru_lists.specs.Notes.{AreNoted}
use Rattle.lru_lists.specs.Sets.{SetView, listed, with_listed}
use Rattle.lru_lists.specs.declared.bits.BitCall.{BitCall}
use Rattle.lru_lists.specs.declared.bits.BitCall.TheVariants.{Cleared}
use Rattle.lru_lists.specs.declared.notes.Noted.{Noted}
use Rattle.lru_lists.specs.declared.notes.RotateNotes.{RotateNotes}
use Rattle.lru_rotate.specs.Asking.{bit_after}

-- the calls that clear a bit, one for each visit
abbrev pub cleared : List Visit → List BitCall
cleared visits = map (λ visit. Cleared visit) visits

-- The first part of a rotation, over active: its visits, and what they did to the set, asked and noted.
pub record ActivePart (scans : ℕ) (before after : SetView) (calls calls_after : List BitCall) (notes notes_after : Noted Visit) : Type 0 where
  pub visits : List Visit
  pub visited : visited_elements visits ≡ elements_of (active_visited scans (listed before))
  pub set : after ≡ with_listed (active_rotated scans (listed before) visits) before
  pub asked : calls_after ≡ calls ++ cleared visits
  pub noted : AreNoted visits notes notes_after

-- likewise the second part, over inactive
pub record InactivePart (scans : ℕ) (before after : SetView) (calls calls_after : List BitCall) (notes notes_after : Noted Visit) : Type 0 where
  pub visits : List Visit
  pub visited : visited_elements visits ≡ elements_of (inactive_visited scans (listed before))
  pub set : after ≡ with_listed (inactive_rotated scans (listed before) visits) before
  pub asked : calls_after ≡ calls ++ cleared visits
  pub noted : AreNoted visits notes notes_after

-- The element at which a walk over inactive stands: one that it has come to, or at the mark the tail.
abbrev pub stands_at : Option ℕ → List Row → Option ℕ
stands_at (Some e) rows = Some e
stands_at None rows = option_map (λ row. row.element) (tail_row rows)

-- A rotation of a set, by the calls for bits before and after it and by its notes. Its visits are the first and the second
-- part's, whatever bits they found; they alone say where each row goes. Each visit is one call that clears the bit.
pub record Rotation (scans : ℕ) (before after : SetView) (calls calls_after : List BitCall) (notes notes_after : RotateNotes) : Type 0 where
  pub active : List Visit
  pub inactive : List Visit
  pub visits : AreRotationVisits scans (listed before) active inactive
  pub set : after ≡ with_listed (rotated scans (listed before) active inactive) before
  pub asked : calls_after ≡ calls ++ cleared (active ++ inactive)
  pub noted_active : AreNoted active notes.active notes_after.active
  pub noted_inactive : AreNoted inactive notes.inactive notes_after.inactive
  pub few : length active + length inactive ≤ 2 * scans
  pub unset : (e : ℕ) (bit : Bool) → IsIn e (visited_elements (active ++ inactive)) → bit_after e bit (cleared (active ++ inactive)) ≡ false
  pub others : (e : ℕ) (bit : Bool) → times e (visited_elements (active ++ inactive)) ≡ 0 → bit_after e bit (cleared (active ++ inactive)) ≡ bit
