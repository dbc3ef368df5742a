-- The first part of a rotation, visit by visit.
use Rattle.std.proofs.Common.{◌≡◌, ◌≢◌, ℕ, ◌+◌, ◌-◌, ◌<◌, ◌≤◌, Bool, true, false, cond, List, [], ◌∷◌, ◌++◌, reverse, length, take, drop, get_or, min, refl, ap, ◌∙◌, sym, subst, arith}
use Rattle.std.specs.Prelude.{Option, None, Some, option_map}
use Rattle.std.proofs.lemmas.Bool.{le-ltb, lt-ltb}
use Rattle.std.proofs.lemmas.List.{append_assoc, append-nil, reverse-append, map-append, reverse-reverse, length-reverse, length-append, length-map, length-take, take_more, drop_more, take_min, take-append-drop}
use Rattle.map_types.specs.declared.row.Row.{Row}
use Rattle.place_words.specs.declared.visits.Visit.{Visit}
use Rattle.map_types.specs.ElementLists.{times, IsIn}
use Rattle.map_types.specs.Listed.{Listed, elements_of, those}
use Rattle.place_words.specs.Rotation.{was_set, visited_elements, active_visited, active_rotated}
use Rattle.map_types.proofs.RowLemmas.{AreOnce, times_rows-append, times_rows-reverse, times_rows-filter}
use Rattle.place_words.proofs.VisitLemmas.{visit_of}
use Rattle.row_list.specs.RowWords.{tail_row}
use Rattle.row_list.proofs.PlainLemmas.{some_row}
use Rattle.lru_lists.specs.declared.name.ListName.TheVariants.{Active, Inactive}
use Rattle.lru_lists.specs.declared.bits.BitCall.{BitCall}
use Rattle.lru_lists.specs.declared.bits.BitCall.TheVariants.{Cleared}
use Rattle.lru_lists.specs.declared.notes.Noted.{Noted}
use Rattle.lru_lists.specs.Notes.{AreNoted}
use Rattle.lru_lists.specs.Sets.{SetView, IsSet, listed, moved_to}
use Rattle.lru_rotate.specs.Rotating.{cleared, ActivePart}
use Rattle.lru_rotate.proofs.ActiveWalk.{active_at, inactive_at, next_is_tail, active_set, active_clear, inactive_set, inactive_clear}
use Rattle.lru_lists.proofs.NoteLemmas.{noted_none, noted_more}
use Rattle.lru_rotate.proofs.MoveLemmas.{moved_active}

-- the rows of active in the order in which they are visited
abbrev pub order_of : SetView → List Row
order_of set = reverse set.active

-- the set after that many visits of active
abbrev pub active_after : ℕ → SetView → List Visit → SetView
active_after k before visits = record before {
  active = active_at (take k (order_of before)) (drop k (order_of before)) visits;
  inactive = inactive_at before.inactive (take k (order_of before)) visits;
}

pub record ActiveSoFar (k : ℕ) (before now : SetView) (calls calls_now : List BitCall) (notes notes_now : Noted Visit) : Type 0 where
  pub visits : List Visit
  pub visited : visited_elements visits ≡ elements_of (take k (order_of before))
  pub set : now ≡ active_after k before visits
  pub asked : calls_now ≡ calls ++ cleared visits
  pub noted : AreNoted visits notes notes_now

-- of a list that is read up to k, the next one
pub next_of : {A : Type 0} (xs : List A) (k : ℕ) (x : A) → k < length xs → (y : A) × (take (k + 1) xs ≡ take k xs ++ y ∷ []) × (drop k xs ≡ y ∷ drop (k + 1) xs)
next_of xs k x within = (get_or xs k x, take_more xs k x within, drop_more xs k x within)

pub cleared_push : (visits : List Visit) (visit : Visit) → cleared (visits ++ visit ∷ []) ≡ cleared visits ++ Cleared visit ∷ []
cleared_push visits visit = map-append (λ v. Cleared v) visits (visit ∷ [])

pub visited_push : (visits : List Visit) (visit : Visit) → visited_elements (visits ++ visit ∷ []) ≡ visited_elements visits ++ visit.element ∷ []
visited_push visits visit = map-append (λ v. v.element) visits (visit ∷ [])

pub elements_push : (rows : List Row) (row : Row) → elements_of (rows ++ row ∷ []) ≡ elements_of rows ++ row.element ∷ []
elements_push rows row = map-append (λ r. r.element) rows (row ∷ [])

-- the elements of a set stand in each of its lists once
pub active_once : (set : SetView) → IsSet set → AreOnce set.active
active_once set whole e = omega (arith, whole.once e)

pub inactive_once : (set : SetView) → IsSet set → AreOnce set.inactive
inactive_once set whole e = omega (arith, whole.once e)

pub once-reverse : (rows : List Row) → AreOnce rows → AreOnce (reverse rows)
once-reverse rows once e = rw (times_rows-reverse e rows) (once e)

module _ (before now : SetView) (k : ℕ) (visits : List Visit) (row : Row)
    (whole_before : IsSet before) (whole : IsSet now)
    (more : take (k + 1) (order_of before) ≡ take k (order_of before) ++ row ∷ []) (left : drop k (order_of before) ≡ row ∷ drop (k + 1) (order_of before))
    (visited : visited_elements visits ≡ elements_of (take k (order_of before))) (set : now ≡ active_after k before visits) where
  abbrev seen : List Row
  seen = take k (order_of before)

  abbrev rest : List Row
  rest = drop (k + 1) (order_of before)

  once : AreOnce (seen ++ row ∷ rest)
  once =
      let whole_list : order_of before ≡ seen ++ row ∷ rest = sym (take-append-drop k (order_of before)) ∙ ap (λ (xs : List Row). seen ++ xs) left in
      subst AreOnce whole_list (once-reverse before.active (active_once before whole_before))

  active_now : now.active ≡ active_at seen (row ∷ rest) visits
  active_now = rw (set, left) refl

  pub tail_now : tail_row now.active ≡ Some row
  tail_now = rw active_now (next_is_tail (reverse (those (was_set visits) seen)) rest row)

  at_tail : now.active ≡ (reverse (those (was_set visits) seen) ++ reverse rest) ++ row ∷ []
  at_tail =
      active_now ∙ ap (λ (xs : List Row). reverse (those (was_set visits) seen) ++ xs) (reverse-append (row ∷ []) rest)
      ∙ sym (append_assoc (reverse (those (was_set visits) seen)) (reverse rest) (row ∷ []))

  set_bit : moved_to row.element Active now ≡ active_after (k + 1) before (visits ++ visit_of row true ∷ [])
  set_bit =
      moved_active now row whole (reverse (those (was_set visits) seen) ++ reverse rest) [] Active at_tail
      ∙ rw (set, left, more, active_set seen rest visits row once visited, inactive_set seen rest visits row once visited before.inactive) refl

  clear_bit : moved_to row.element Inactive now ≡ active_after (k + 1) before (visits ++ visit_of row false ∷ [])
  clear_bit =
      moved_active now row whole (reverse (those (was_set visits) seen) ++ reverse rest) [] Inactive at_tail
      ∙ rw (set, left, more, active_clear seen rest visits row once visited, inactive_clear seen rest visits row once visited before.inactive) refl

  pub moved_tail : (bit : Bool) → moved_to row.element (cond bit Active Inactive) now ≡ active_after (k + 1) before (visits ++ visit_of row bit ∷ [])
  moved_tail true = set_bit
  moved_tail false = clear_bit

  pub visited_more : (bit : Bool) → visited_elements (visits ++ visit_of row bit ∷ []) ≡ elements_of (take (k + 1) (order_of before))
  visited_more bit = rw (more, visited_push visits (visit_of row bit), elements_push seen row, visited) refl

-- a visit of a row's element
pub visit_is : (row : Row) (visit : Visit) → row.element ≡ visit.element → visit ≡ visit_of row visit.bit
visit_is row visit same = ap (λ (e : ℕ). let v : Visit = record { element = e; bit = visit.bit } in v) (sym same)

pub some_element : (o : Option Row) (row : Row) (e : ℕ) → o ≡ Some row → option_map (λ r. r.element) o ≡ Some e → row.element ≡ e
some_element o row e is found = let both : Some row.element ≡ Some e = ap (option_map (λ r. r.element)) (sym is) ∙ found in cc

active_step_of : (k : ℕ) (before now now' : SetView) (calls calls_now calls_now' : List BitCall) (notes notes_now notes_now' : Noted Visit) (row : Row) (bit : Bool)
    → IsSet before → IsSet now → take (k + 1) (order_of before) ≡ take k (order_of before) ++ row ∷ [] → drop k (order_of before) ≡ row ∷ drop (k + 1) (order_of before)
    → ActiveSoFar k before now calls calls_now notes notes_now
    → now' ≡ moved_to row.element (cond bit Active Inactive) now
    → calls_now' ≡ calls_now ++ Cleared (visit_of row bit) ∷ [] → AreNoted (visit_of row bit ∷ []) notes_now notes_now'
    → ActiveSoFar (k + 1) before now' calls calls_now' notes notes_now'
active_step_of k before now now' calls calls_now calls_now' notes notes_now notes_now' row bit whole_before whole more left so_far moved call noted = record {
  visits = so_far.visits ++ visit_of row bit ∷ [];
  visited = visited_more before now k so_far.visits row whole_before whole more left so_far.visited so_far.set bit;
  set = moved ∙ moved_tail before now k so_far.visits row whole_before whole more left so_far.visited so_far.set bit;
  asked = call ∙ ap (λ (xs : List BitCall). xs ++ Cleared (visit_of row bit) ∷ []) so_far.asked ∙ append_assoc calls (cleared so_far.visits) (Cleared (visit_of row bit) ∷ []) ∙ ap (λ (xs : List BitCall). calls ++ xs) (sym (cleared_push so_far.visits (visit_of row bit)));
  noted = noted_more so_far.visits (visit_of row bit ∷ []) notes notes_now notes_now' so_far.noted noted;
}

-- One more visit of the tail, by what it did.
pub active_step : (k : ℕ) (before now now' : SetView) (calls calls_now calls_now' : List BitCall) (notes notes_now notes_now' : Noted Visit) (visit : Visit)
    → IsSet before → IsSet now → k < length before.active → ActiveSoFar k before now calls calls_now notes notes_now
    → option_map (λ row. row.element) (tail_row now.active) ≡ Some visit.element
    → now' ≡ moved_to visit.element (cond visit.bit Active Inactive) now
    → calls_now' ≡ calls_now ++ Cleared visit ∷ [] → AreNoted (visit ∷ []) notes_now notes_now'
    → ActiveSoFar (k + 1) before now' calls calls_now' notes notes_now'
active_step k before now now' calls calls_now calls_now' notes notes_now notes_now' visit whole_before whole within so_far tail moved call noted =
    let inside : k < length (order_of before) = rw (length-reverse before.active) within in
    let next = next_of (order_of before) k some_row inside in
    let row : Row = next.0 in
    let here = tail_now before now k so_far.visits row whole_before whole next.1 next.2 so_far.visited so_far.set in
    let same : row.element ≡ visit.element = some_element (tail_row now.active) row visit.element here tail in
    let is : visit ≡ visit_of row visit.bit = visit_is row visit same in
    active_step_of k before now now' calls calls_now calls_now' notes notes_now notes_now' row visit.bit whole_before whole next.1 next.2 so_far
    (subst (λ (v : Visit). now' ≡ moved_to v.element (cond v.bit Active Inactive) now) is moved)
    (subst (λ (v : Visit). calls_now' ≡ calls_now ++ Cleared v ∷ []) is call)
    (subst (λ (v : Visit). AreNoted (v ∷ []) notes_now notes_now') is noted)

pub rotated_by : (scans : ℕ) (set : Listed) (visits : List Visit) (part : List Row) → active_visited scans set ≡ part → active_rotated scans set visits ≡ record { active = active_at part (drop (length part) (reverse set.active)) visits; inactive = inactive_at set.inactive part visits; cursor = set.cursor }
unfolding active_rotated
rotated_by scans set visits part is = rw is refl

short : (scans k n : ℕ) → min scans n ≡ k → min k n ≡ k
short scans k n is = omega (arith, is)

part_is : (scans k : ℕ) (before : SetView) → length before.inactive < length before.active → min scans (length (order_of before)) ≡ k → active_visited scans (listed before) ≡ take k (order_of before)
unfolding active_visited
part_is scans k before shorter limit =
    rw (lt-ltb (length before.inactive) (length before.active) shorter) (sym (take_min scans (order_of before)) ∙ ap (λ (n : ℕ). take n (order_of before)) limit)

none_is : (scans : ℕ) (before : SetView) → length before.active ≤ length before.inactive → active_visited scans (listed before) ≡ []
unfolding active_visited
none_is scans before longer = rw (le-ltb (length before.inactive) (length before.active) longer) refl

-- the part is over after as many visits as the scan limit, or as there are rows
pub active_ends : (scans k : ℕ) (before now : SetView) (calls calls_now : List BitCall) (notes notes_now : Noted Visit)
    → length before.inactive < length before.active → k ≡ min scans (length before.active)
    → ActiveSoFar k before now calls calls_now notes notes_now → ActivePart scans before now calls calls_now notes notes_now
active_ends scans k before now calls calls_now notes notes_now shorter all so_far =
    let order : List Row = order_of before in
    let limit : min scans (length order) ≡ k = ap (min scans) (length-reverse before.active) ∙ sym all in
    let part : active_visited scans (listed before) ≡ take k order = part_is scans k before shorter limit in
    let many : length (take k order) ≡ k = length-take k order ∙ short scans k (length order) limit in
    record {
      visits = so_far.visits;
      visited = so_far.visited ∙ ap elements_of (sym part);
      set = so_far.set ∙ rw (rotated_by scans (listed before) so_far.visits (take k order) part, many) refl;
      asked = so_far.asked;
      noted = so_far.noted;
    }

-- where inactive isn't shorter nothing is visited
pub active_idle : (scans : ℕ) (before : SetView) (calls : List BitCall) (notes : Noted Visit) → length before.active ≤ length before.inactive → ActivePart scans before before calls calls notes notes
active_idle scans before calls notes longer =
    let none : active_visited scans (listed before) ≡ [] = none_is scans before longer in
    record {
      visits = [];
      visited = rw none refl;
      set = rw (rotated_by scans (listed before) [] [] none, reverse-reverse before.active) refl;
      asked = sym (append-nil calls);
      noted = noted_none notes;
    }

-- while rows are left, active has a tail, and its elements are those that it had at first
pub active_goes_on : (k : ℕ) (before now : SetView) (calls calls_now : List BitCall) (notes notes_now : Noted Visit)
    → IsSet before → IsSet now → k < length before.active → ActiveSoFar k before now calls calls_now notes notes_now → now.active ≢ []
active_goes_on k before now calls calls_now notes notes_now whole_before whole within so_far none =
    let inside : k < length (order_of before) = rw (length-reverse before.active) within in
    let next = next_of (order_of before) k some_row inside in
    let here : tail_row now.active ≡ Some next.0 = tail_now before now k so_far.visits next.0 whole_before whole next.1 next.2 so_far.visited so_far.set in
    let gone : tail_row now.active ≡ None = ap tail_row none in
    cc

pub active_was_there : (k : ℕ) (before now : SetView) (calls calls_now : List BitCall) (notes notes_now : Noted Visit) (e : ℕ)
    → ActiveSoFar k before now calls calls_now notes notes_now → IsIn e (elements_of now.active) → IsIn e (elements_of before.active)
active_was_there k before now calls calls_now notes notes_now e so_far is =
    let order : List Row = order_of before in
    let front : List Row = those (was_set so_far.visits) (take k order) in
    let at : times e (elements_of now.active) ≡ times e (elements_of (reverse front ++ reverse (drop k order))) = ap (λ (s : SetView). times e (elements_of s.active)) so_far.set in
    let apart = times_rows-append e (reverse front) (reverse (drop k order)) in
    let first = times_rows-reverse e front in
    let second = times_rows-reverse e (drop k order) in
    let kept = times_rows-filter (λ row. was_set so_far.visits row.element) e (take k order) in
    let split = times_rows-append e (take k order) (drop k order) in
    let whole : times e (elements_of (take k order ++ drop k order)) ≡ times e (elements_of order) = ap (λ (xs : List Row). times e (elements_of xs)) (take-append-drop k order) in
    let turned = times_rows-reverse e before.active in
    omega (arith, is, at, apart, first, second, kept, split, whole, turned)

-- as many calls were made as rows were visited
pub calls_made : (rows : List Row) (visits : List Visit) (calls calls_now : List BitCall) → visited_elements visits ≡ elements_of rows → calls_now ≡ calls ++ cleared visits → length calls_now - length calls ≡ length rows
calls_made rows visits calls calls_now visited asked =
    let many : length (visited_elements visits) ≡ length (elements_of rows) = ap length visited in
    let longer : length calls_now ≡ length (calls ++ cleared visits) = ap length asked in
    omega (arith, many, longer, length-append calls (cleared visits), length-map visits (λ v. Cleared v), length-map visits (λ v. v.element), length-map rows (λ r. r.element))

pub active_made : (k : ℕ) (before now : SetView) (calls calls_now : List BitCall) (notes notes_now : Noted Visit) → k ≤ length before.active → ActiveSoFar k before now calls calls_now notes notes_now → length calls_now - length calls ≡ k
active_made k before now calls calls_now notes notes_now within so_far =
    let made = calls_made (take k (order_of before)) so_far.visits calls calls_now so_far.visited so_far.asked in
    omega (arith, made, length-take k (order_of before), length-reverse before.active)
