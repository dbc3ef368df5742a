-- What a rotation leaves of any lists, also of such in which an element has several rows: of each element as many rows at most.
use Rattle.std.proofs.Common.{◌≡◌, ℕ, ◌+◌, ◌≤◌, Bool, true, false, cond, List, reverse, arith}
use Rattle.map_types.specs.declared.row.Row.{Row}
use Rattle.map_types.specs.Listed.{Listed, those}
use Rattle.place_words.specs.declared.visits.Visit.{Visit}
use Rattle.place_words.specs.Rotation.{was_set, active_rotated, inactive_order, inactive_visited, inactive_rotated, rotated}
use Rattle.place_words.specs.RowMoves.{rows_of}
use Rattle.place_words.proofs.Loses.{in_set, active_loses, order_rows}
use Rattle.place_words.proofs.RowCounts.{any, rows_append, rows_reverse, rows_cut, rows_those, rows_without}

moved_less : (b : Bool) (active visited inactive : ℕ) → visited ≤ inactive → (cond b visited 0 + active) + cond b 0 inactive ≤ active + inactive
moved_less true active visited inactive few = omega (arith, few)
moved_less false active visited inactive few = omega arith

module _ (scans : ℕ) (set : Listed) (visits : List Visit) (e : ℕ) where
  walked_over : in_set e any (inactive_rotated scans set visits)
      ≡ (cond (was_set visits e) (rows_of e any (inactive_visited scans set)) 0 + rows_of e any set.active) + cond (was_set visits e) 0 (rows_of e any set.inactive)
  unfolding inactive_rotated
  walked_over =
      let visited : List Row = inactive_visited scans set in
      omega (arith, rows_append e any (reverse (those (was_set visits) visited)) set.active, rows_reverse e any (those (was_set visits) visited), rows_those e any (was_set visits) visited, rows_without e any (was_set visits) set.inactive)

  pub visited_few : rows_of e any (inactive_visited scans set) ≤ rows_of e any set.inactive
  unfolding inactive_visited
  visited_few =
      omega (arith, rows_cut e any scans (inactive_order set.cursor set.inactive), order_rows set.cursor set.inactive e any)

  second_less : in_set e any (inactive_rotated scans set visits) ≤ in_set e any set
  second_less =
      let moved = moved_less (was_set visits e) (rows_of e any set.active) (rows_of e any (inactive_visited scans set)) (rows_of e any set.inactive) visited_few in
      omega (arith, walked_over, moved)

pub rotated_less : (scans : ℕ) (set : Listed) (active inactive : List Visit) (e : ℕ) → in_set e any (rotated scans set active inactive) ≤ in_set e any set
unfolding rotated
rotated_less scans set active inactive e =
    omega (arith, active_loses scans set active e any, second_less scans (active_rotated scans set active) inactive e)
