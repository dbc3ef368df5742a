-- One visit of the second part of a rotation.
use Rattle.std.proofs.Common.{◌≡◌, ◌≢◌, ℕ, ◌+◌, ◌-◌, ◌<◌, ◌≤◌, Bool, true, false, not, cond, List, [], ◌∷◌, ◌++◌, reverse, length, take, drop, min, refl, ap, ◌∙◌, sym, subst, arith}
use Rattle.std.specs.Prelude.{Option, None, Some, option_map, MatchOption}
use Rattle.std.proofs.lemmas.List.{append_assoc, append-nil, length-take, take_min, take-append-drop}
use Rattle.std.proofs.lemmas.List.Elements.{filter-append}
use Rattle.map_types.specs.ElementLists.{times, IsIn}
use Rattle.map_types.specs.declared.row.Row.{Row}
use Rattle.place_words.specs.declared.visits.Visit.{Visit}
use Rattle.map_types.specs.Listed.{Listed, elements_of, those, without_those, nearest_before}
use Rattle.place_words.specs.Rotation.{was_set, visited_elements, inactive_visited, inactive_rotated}
use Rattle.map_types.proofs.RowLemmas.{IsAbsent, AreOnce, alone, times_rows-filter}
use Rattle.place_words.proofs.VisitLemmas.{visit_of, was_set_other, was_set_absent, those_push, goes_on_push, stays_push}
use Rattle.row_list.specs.RowWords.{row_before, without_row}
use Rattle.row_list.proofs.PlainLemmas.{some_row}
use Rattle.lru_lists.specs.declared.name.ListName.TheVariants.{Active}
use Rattle.lru_lists.specs.declared.bits.BitCall.{BitCall}
use Rattle.lru_lists.specs.declared.bits.BitCall.TheVariants.{Cleared}
use Rattle.lru_lists.specs.declared.notes.Noted.{Noted}
use Rattle.lru_lists.specs.Notes.{AreNoted}
use Rattle.lru_lists.specs.Sets.{SetView, IsSet, IsPlace, listed, moved_to, with_cursor}
use Rattle.lru_rotate.specs.Rotating.{cleared, stands_at, InactivePart}
use Rattle.lru_lists.proofs.NoteLemmas.{noted_more}
use Rattle.lru_rotate.proofs.MoveLemmas.{moved_inactive}
use Rattle.lru_rotate.proofs.InactiveWalk.{stands_at_next, neighbour_is_nearest}
use Rattle.lru_rotate.proofs.ActiveSteps.{next_of, cleared_push, visited_push, elements_push, inactive_once, visit_is, calls_made}
use Rattle.lru_rotate.proofs.InactiveSteps.{order_splits, order_long, order_once, Stands, stands_there, nearest_agrees, nearest_stays, walk_of, stop_after, InactiveSoFar}
use Rattle.lru_rotate.proofs.ActiveWalk.{reverse_push}

-- a list that is read up to k, one more, and the rest
split_at : (xs : List Row) (k : ℕ) (row : Row) → drop k xs ≡ row ∷ drop (k + 1) xs → xs ≡ take k xs ++ row ∷ drop (k + 1) xs
split_at xs k row left = sym (take-append-drop k xs) ∙ ap (λ (ys : List Row). take k xs ++ ys) left

left_split : (gone : ℕ → Bool) (rows front back : List Row) (row : Row) → rows ≡ front ++ row ∷ back → gone row.element ≡ false → without_those gone rows ≡ without_those gone front ++ row ∷ without_those gone back
left_split gone rows front back row split stays = rw (split, filter-append (λ r. not (gone r.element)) front (row ∷ back), stays) refl

module _ (before now : SetView) (k : ℕ) (visits : List Visit) (row : Row)
    (whole_before : IsSet before) (whole : IsSet now)
    (more : take (k + 1) (walk_of before) ≡ take k (walk_of before) ++ row ∷ []) (left : drop k (walk_of before) ≡ row ∷ drop (k + 1) (walk_of before))
    (visited : visited_elements visits ≡ elements_of (take k (walk_of before)))
    (set : with_cursor None now ≡ record before { active = reverse (those (was_set visits) (take k (walk_of before))) ++ before.active; inactive = without_those (was_set visits) before.inactive; cursor = None }) where
  abbrev seen : List Row
  seen = take k (walk_of before)

  abbrev rest : List Row
  rest = drop (k + 1) (walk_of before)

  abbrev rows : List Row
  rows = before.inactive

  -- the visits with one more
  abbrev pub with_this : Bool → List Visit
  with_this bit = visits ++ visit_of row bit ∷ []

  once_rows : AreOnce before.inactive
  once_rows = inactive_once before whole_before

  once_walk : AreOnce (take k (walk_of before) ++ row ∷ drop (k + 1) (walk_of before))
  once_walk = subst AreOnce (split_at (walk_of before) k row left) (order_once before.cursor before.inactive once_rows)

  unvisited : IsAbsent row.element seen
  unvisited = (alone seen rest row once_walk).0

  unseen : times row.element (visited_elements visits) ≡ 0
  unseen = ap (times row.element) visited ∙ unvisited

  its_place : Stands before.inactive row
  its_place = stands_there before.cursor before.inactive seen rest row (split_at (walk_of before) k row left)

  inactive_now : now.inactive ≡ without_those (was_set visits) before.inactive
  inactive_now = ap (λ (s : SetView). s.inactive) set

  not_yet : was_set visits row.element ≡ false
  not_yet = was_set_absent visits row.element unseen

  -- the row is among those that are left
  left_now : now.inactive ≡ without_those (was_set visits) its_place.front ++ row ∷ without_those (was_set visits) its_place.back
  left_now = inactive_now ∙ left_split (was_set visits) before.inactive its_place.front its_place.back row its_place.split not_yet

  agrees : (bit : Bool) (x : ℕ) → x ≢ row.element → was_set visits x ≡ was_set (with_this bit) x
  agrees bit x other = was_set_other visits (visit_of row bit) x other

  -- where the walk goes on
  pub next_is : (bit : Bool) (next : Option ℕ) → next ≡ option_map (λ r. r.element) (row_before row.element now.inactive) → next ≡ nearest_before row.element (was_set (with_this bit)) before.inactive
  next_is bit next is =
      is ∙ ap (λ (xs : List Row). option_map (λ r. r.element) (row_before row.element xs)) inactive_now
      ∙ neighbour_is_nearest (was_set visits) before.inactive its_place.front its_place.back row its_place.split once_rows not_yet
      ∙ nearest_agrees (was_set visits) (was_set (with_this bit)) before.inactive its_place.front its_place.back row (agrees bit) its_place.split once_rows

  pub visited_more : (bit : Bool) → visited_elements (with_this bit) ≡ elements_of (take (k + 1) (walk_of before))
  visited_more bit = rw (more, visited_push visits (visit_of row bit), elements_push seen row, visited) refl

  -- the set after the visit, its cursor aside
  abbrev pub set_after : Bool → SetView
  set_after bit = record before {
    active = reverse (those (was_set (with_this bit)) (take (k + 1) (walk_of before))) ++ before.active;
    inactive = without_those (was_set (with_this bit)) before.inactive;
    cursor = None;
  }

  set_bit : with_cursor None (moved_to row.element Active now) ≡ set_after true
  set_bit =
      ap (with_cursor None) (moved_inactive now row whole (without_those (was_set visits) its_place.front) (without_those (was_set visits) its_place.back) left_now)
      ∙ ap (λ (s : SetView). let t : SetView = record s { active = row ∷ s.active; inactive = without_row row.element s.inactive } in t) set
      ∙ rw (more, those_push visits row true unseen seen unvisited, reverse_push (those (was_set visits) seen) row, goes_on_push visits row before.inactive) refl

  clear_bit : with_cursor None now ≡ set_after false
  clear_bit = set ∙ rw (more, those_push visits row false unseen seen unvisited, append-nil (those (was_set visits) seen), stays_push visits row before.inactive) refl

  pub moved_more : (bit : Bool) → with_cursor None (cond bit (moved_to row.element Active now) now) ≡ set_after bit
  moved_more true = set_bit
  moved_more false = clear_bit

  pub stop_more : (bit : Bool) → stop_after before.inactive (take (k + 1) (walk_of before)) (with_this bit) ≡ nearest_before row.element (was_set (with_this bit)) before.inactive
  stop_more bit = rw (more, reverse_push seen row) refl

  -- it stands there at the next row of the order
  pub goes_on_more : (bit : Bool) (next_row : Row) (later : List Row) → drop (k + 1) (walk_of before) ≡ next_row ∷ later
      → stands_at (nearest_before row.element (was_set (with_this bit)) before.inactive) (without_those (was_set (with_this bit)) before.inactive) ≡ Some next_row.element
  goes_on_more bit next_row later then =
      let split = order_splits before.cursor before.inactive in
      let walk : walk_of before ≡ seen ++ row ∷ (next_row ∷ later) = split_at (walk_of before) k row left ∙ ap (λ (xs : List Row). seen ++ row ∷ xs) then in
      let walk_on : walk_of before ≡ take (k + 1) (walk_of before) ++ next_row ∷ later =
      sym (take-append-drop (k + 1) (walk_of before)) ∙ ap (λ (xs : List Row). take (k + 1) (walk_of before) ++ xs) then in
      let not_before : IsAbsent next_row.element (take (k + 1) (walk_of before)) =
      (alone (take (k + 1) (walk_of before)) later next_row (subst AreOnce walk_on (order_once before.cursor before.inactive once_rows))).0 in
      let stays : was_set (with_this bit) next_row.element ≡ false = was_set_absent (with_this bit) next_row.element (ap (times next_row.element) (visited_more bit) ∙ not_before) in
      let there = stands_at_next (was_set (with_this bit)) split.0 split.1 seen later row next_row (subst AreOnce (sym split.2) once_rows) stays (sym split.3 ∙ walk) in
      subst (λ (xs : List Row). stands_at (nearest_before row.element (was_set (with_this bit)) xs) (without_those (was_set (with_this bit)) xs) ≡ Some next_row.element) split.2 there

step_of : (before now now' : SetView) (k : ℕ) (at stop next : Option ℕ) (calls calls_now calls_now' : List BitCall) (notes notes_now notes_now' : Noted Visit) (row : Row) (bit : Bool)
    → IsSet before → IsSet now → take (k + 1) (walk_of before) ≡ take k (walk_of before) ++ row ∷ [] → drop k (walk_of before) ≡ row ∷ drop (k + 1) (walk_of before)
    → InactiveSoFar k before now at stop calls calls_now notes notes_now
    → next ≡ option_map (λ r. r.element) (row_before row.element now.inactive)
    → now' ≡ cond bit (moved_to row.element Active now) now
    → calls_now' ≡ calls_now ++ Cleared (visit_of row bit) ∷ [] → AreNoted (visit_of row bit ∷ []) notes_now notes_now'
    → InactiveSoFar (k + 1) before now' next next calls calls_now' notes notes_now'
step_of before now now' k at stop next calls calls_now calls_now' notes notes_now notes_now' row bit whole_before whole more left so_far is moved call noted =
    let visits : List Visit = so_far.visits ++ visit_of row bit ∷ [] in
    let next_near : next ≡ nearest_before row.element (was_set visits) before.inactive = next_is before now k so_far.visits row whole_before whole more left so_far.visited so_far.set bit next is in
    let after = ap (with_cursor None) moved ∙ moved_more before now k so_far.visits row whole_before whole more left so_far.visited so_far.set bit in
    let inactive : now'.inactive ≡ without_those (was_set visits) before.inactive = ap (λ (s : SetView). s.inactive) after in
    let place : IsPlace next now' =
    subst (λ (xs : List Row). MatchOption next (Unit {0}) (λ e. IsIn e (elements_of xs))) (sym inactive)
    (subst (λ (o : Option ℕ). MatchOption o (Unit {0}) (λ e. IsIn e (elements_of (without_those (was_set visits) before.inactive)))) (sym next_near) (nearest_stays row.element (was_set visits) before.inactive)) in
    record {
      visits = visits;
      visited = visited_more before now k so_far.visits row whole_before whole more left so_far.visited so_far.set bit;
      set = after;
      stopped = next_near ∙ sym (stop_more before now k so_far.visits row whole_before whole more left so_far.visited so_far.set bit);
      stop_placed = place;
      at_placed = place;
      goes_on = λ next_row later then. rw (next_near, inactive) (goes_on_more before now k so_far.visits row whole_before whole more left so_far.visited so_far.set bit next_row later then);
      asked = call ∙ ap (λ (xs : List BitCall). xs ++ Cleared (visit_of row bit) ∷ []) so_far.asked ∙ append_assoc calls (cleared so_far.visits) (Cleared (visit_of row bit) ∷ []) ∙ ap (λ (xs : List BitCall). calls ++ xs) (sym (cleared_push so_far.visits (visit_of row bit)));
      noted = noted_more so_far.visits (visit_of row bit ∷ []) notes notes_now notes_now' so_far.noted noted;
    }

-- One more visit, by what it did.
pub inactive_step : (k : ℕ) (before now now' : SetView) (at stop next : Option ℕ) (calls calls_now calls_now' : List BitCall) (notes notes_now notes_now' : Noted Visit) (visit : Visit)
    → IsSet before → IsSet now → k < length before.inactive → InactiveSoFar k before now at stop calls calls_now notes notes_now
    → stands_at at now.inactive ≡ Some visit.element
    → next ≡ option_map (λ r. r.element) (row_before visit.element now.inactive)
    → now' ≡ cond visit.bit (moved_to visit.element Active now) now
    → calls_now' ≡ calls_now ++ Cleared visit ∷ [] → AreNoted (visit ∷ []) notes_now notes_now'
    → InactiveSoFar (k + 1) before now' next next calls calls_now' notes notes_now'
inactive_step k before now now' at stop next calls calls_now calls_now' notes notes_now notes_now' visit whole_before whole within so_far here is moved call noted =
    let inside : k < length (walk_of before) = rw (order_long before.cursor before.inactive) within in
    let following = next_of (walk_of before) k some_row inside in
    let row : Row = following.0 in
    let there : stands_at at now.inactive ≡ Some row.element = so_far.goes_on row (drop (k + 1) (walk_of before)) following.2 in
    let both : Some row.element ≡ Some visit.element = sym there ∙ here in
    let same : row.element ≡ visit.element = cc in
    let it : visit ≡ visit_of row visit.bit = visit_is row visit same in
    step_of before now now' k at stop next calls calls_now calls_now' notes notes_now notes_now' row visit.bit whole_before whole following.1 following.2 so_far
    (subst (λ (v : Visit). next ≡ option_map (λ r. r.element) (row_before v.element now.inactive)) it is)
    (subst (λ (v : Visit). now' ≡ cond v.bit (moved_to v.element Active now) now) it moved)
    (subst (λ (v : Visit). calls_now' ≡ calls_now ++ Cleared v ∷ []) it call)
    (subst (λ (v : Visit). AreNoted (v ∷ []) notes_now notes_now') it noted)

visited_is : (scans k : ℕ) (before : SetView) → k ≡ min scans (length before.inactive) → inactive_visited scans (listed before) ≡ take k (walk_of before)
unfolding inactive_visited
visited_is scans k before all =
    let limit : min scans (length (walk_of before)) ≡ k = ap (min scans) (order_long before.cursor before.inactive) ∙ sym all in
    sym (take_min scans (walk_of before)) ∙ ap (λ (n : ℕ). take n (walk_of before)) limit

pub rotated_by : (scans : ℕ) (set : Listed) (visits : List Visit) (part : List Row) → inactive_visited scans set ≡ part
    → inactive_rotated scans set visits ≡ record { active = reverse (those (was_set visits) part) ++ set.active; inactive = without_those (was_set visits) set.inactive; cursor = stop_after set.inactive part visits }
unfolding inactive_rotated
rotated_by scans set visits part is = rw is refl

-- the part is over after as many visits as the scan limit, or as there are rows
pub inactive_ends : (scans k : ℕ) (before now now' : SetView) (at stop : Option ℕ) (calls calls_now : List BitCall) (notes notes_now : Noted Visit)
    → k ≡ min scans (length before.inactive) → now' ≡ with_cursor stop now
    → InactiveSoFar k before now at stop calls calls_now notes notes_now → InactivePart scans before now' calls calls_now notes notes_now
inactive_ends scans k before now now' at stop calls calls_now notes notes_now all placed so_far =
    let part = visited_is scans k before all in
    record {
      visits = so_far.visits;
      visited = so_far.visited ∙ ap elements_of (sym part);
      set = placed ∙ ap (with_cursor stop) so_far.set ∙ rw (rotated_by scans (listed before) so_far.visits (take k (walk_of before)) part, so_far.stopped) refl;
      asked = so_far.asked;
      noted = so_far.noted;
    }

-- while rows are left, inactive isn't empty, and its elements are those that it had at first
nowhere : (at : Option ℕ) (set : SetView) (e : ℕ) → IsPlace at set → stands_at at set.inactive ≡ Some e → set.inactive ≢ []
nowhere None set e placed there none = let gone : stands_at None set.inactive ≡ None = rw none refl in cc
nowhere (Some x) set e placed there none = omega (arith, placed, ap (λ (rows : List Row). times x (elements_of rows)) none)

pub inactive_goes_on : (k : ℕ) (before now : SetView) (at stop : Option ℕ) (calls calls_now : List BitCall) (notes notes_now : Noted Visit)
    → k < length before.inactive → InactiveSoFar k before now at stop calls calls_now notes notes_now → now.inactive ≢ []
inactive_goes_on k before now at stop calls calls_now notes notes_now within so_far =
    let inside : k < length (walk_of before) = rw (order_long before.cursor before.inactive) within in
    let following = next_of (walk_of before) k some_row inside in
    let there : stands_at at now.inactive ≡ Some following.0.element = so_far.goes_on following.0 (drop (k + 1) (walk_of before)) following.2 in
    nowhere at now following.0.element so_far.at_placed there

pub inactive_was_there : (k : ℕ) (before now : SetView) (at stop : Option ℕ) (calls calls_now : List BitCall) (notes notes_now : Noted Visit) (e : ℕ)
    → InactiveSoFar k before now at stop calls calls_now notes notes_now → IsIn e (elements_of now.inactive) → IsIn e (elements_of before.inactive)
inactive_was_there k before now at stop calls calls_now notes notes_now e so_far is =
    let here : times e (elements_of now.inactive) ≡ times e (elements_of (without_those (was_set so_far.visits) before.inactive)) = ap (λ (s : SetView). times e (elements_of s.inactive)) so_far.set in
    omega (arith, is, here, times_rows-filter (λ row. not (was_set so_far.visits row.element)) e before.inactive)

pub inactive_made : (k : ℕ) (before now : SetView) (at stop : Option ℕ) (calls calls_now : List BitCall) (notes notes_now : Noted Visit) → k ≤ length before.inactive → InactiveSoFar k before now at stop calls calls_now notes notes_now → length calls_now - length calls ≡ k
inactive_made k before now at stop calls calls_now notes notes_now within so_far =
    let made = calls_made (take k (walk_of before)) so_far.visits calls calls_now so_far.visited so_far.asked in
    omega (arith, made, length-take k (walk_of before), order_long before.cursor before.inactive)
