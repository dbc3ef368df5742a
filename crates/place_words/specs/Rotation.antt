-- The rotation of a list set, by whole lists. The rules are those of the kernel's `__bpf_lru_list_rotate_active` and
-- `__bpf_lru_list_rotate_inactive`. `scans` is the scan limit. Lists are head first, and visits in their order.
use Rattle.std.specs.Prelude.{◌≡◌, ℕ, ◌==◌, Bool, ◌&&◌, nat_lt, List, [], ◌++◌, map, length, take, drop, reverse, slice_get, Option, None, Some, option_and_then, if◌then◌else◌}
use Rattle.std.specs.List.{list_any}
use Rattle.map_types.specs.declared.row.Row.{Row}
use Rattle.place_words.specs.declared.visits.Visit.{Visit}
use Rattle.map_types.specs.Listed.{Listed, elements_of, those, without_those, rows_to, rows_after, nearest_before}

-- whether a visit of the element found its bit set
abbrev pub was_set : List Visit → ℕ → Bool
was_set visits e = list_any (λ visit. (visit.element == e) && visit.bit) visits

abbrev pub visited_elements : List Visit → List ℕ
visited_elements visits = map (λ visit. visit.element) visits

-- the visits of these rows where they find these bits
abbrev pub visits_of : (ℕ → Bool) → List Row → List Visit
visits_of bits rows = map (λ row. record { element = row.element; bit = bits row.element }) rows

-- First part. Only where inactive is shorter than active, rows of active are visited from the tail: as many as the scan
-- limit, or all where they are fewer.
unfoldable pub active_visited : ℕ → Listed → List Row
active_visited scans set =
    if nat_lt (length set.inactive) (length set.active) then take scans (reverse set.active) else []

-- Each visited row goes to a head, where its bit was set to that of active, else to that of inactive. So they stand there
-- in the reverse order.
unfoldable pub active_rotated : ℕ → Listed → List Visit → Listed
active_rotated scans set visits =
    let visited : List Row = active_visited scans set in
    let rest : List Row = reverse (drop (length visited) (reverse set.active)) in
    record {
      active = reverse (those (was_set visits) visited) ++ rest;
      inactive = reverse (without_those (was_set visits) visited) ++ set.inactive;
      cursor = set.cursor;
    }

-- Second part. Rows of inactive are visited from the cursor to the head, and then from the tail to the row after the
-- cursor; from the mark, from the tail to the head.
unfoldable pub inactive_order : Option ℕ → List Row → List Row
inactive_order None rows = reverse rows
inactive_order (Some e) rows = reverse (rows_to e rows) ++ reverse (rows_after e rows)

-- As many are visited as the scan limit, or all where they are fewer.
unfoldable pub inactive_visited : ℕ → Listed → List Row
inactive_visited scans set = take scans (inactive_order set.cursor set.inactive)

-- The visited rows whose bit was set go to the head of active, one after another, and the others stay where they are.
-- The cursor is then the nearest element towards the head of the last visited one that stayed, or the mark.
unfoldable pub inactive_rotated : ℕ → Listed → List Visit → Listed
inactive_rotated scans set visits =
    let visited : List Row = inactive_visited scans set in
    record {
      active = reverse (those (was_set visits) visited) ++ set.active;
      inactive = without_those (was_set visits) set.inactive;
      cursor = option_and_then (λ row. nearest_before row.element (was_set visits) set.inactive) (slice_get (reverse visited) 0);
    }

-- the set after both parts, by what the visits of each found
unfoldable pub rotated : ℕ → Listed → List Visit → List Visit → Listed
rotated scans set active inactive = inactive_rotated scans (active_rotated scans set active) inactive

-- These are the visits of a rotation, each part's in its order, whatever bits they found.
pub record AreRotationVisits (scans : ℕ) (set : Listed) (active inactive : List Visit) : Type 0 where
  pub of_active : visited_elements active ≡ elements_of (active_visited scans set)
  pub of_inactive : visited_elements inactive ≡ elements_of (inactive_visited scans (active_rotated scans set active))
