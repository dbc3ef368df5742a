-- The second part of a rotation, visit by visit.
use Rattle.std.proofs.Common.{◌≡◌, ◌≢◌, ℕ, suc, ◌+◌, ◌<◌, Bool, true, false, not, cond, eqb, List, [], ◌∷◌, ◌++◌, reverse, length, take, drop, refl, ap, ◌∙◌, sym, subst, arith}
use Rattle.std.specs.Prelude.{Option, None, Some, option_map, option_and_then, slice_get, find, filter, MatchOption}
use Rattle.std.specs.List.{position_or_len}
use Rattle.std.proofs.lemmas.List.{append_assoc, append-nil, reverse-append, length-reverse, length-append, take-append-drop}
use Rattle.std.proofs.lemmas.List.Elements.{filter-append}
use Rattle.map_types.specs.ElementLists.{times, IsIn}
use Rattle.map_types.specs.declared.row.Row.{Row}
use Rattle.place_words.specs.declared.visits.Visit.{Visit}
use Rattle.map_types.specs.Listed.{elements_of, those, without_those, rows_to, rows_after, nearest_before}
use Rattle.place_words.specs.Rotation.{was_set, visited_elements, inactive_order}
use Rattle.map_types.proofs.RowLemmas.{by_test, IsAbsent, AreOnce, alone, absent_cons, before_around, to_around, find_absent, absent-reverse, times_rows-append, times_rows-cons, times_rows-reverse}
use Rattle.lru_lists.specs.declared.bits.BitCall.{BitCall}
use Rattle.lru_lists.specs.declared.notes.Noted.{Noted}
use Rattle.lru_lists.specs.Notes.{AreNoted}
use Rattle.lru_lists.specs.Sets.{SetView, IsSet, IsPlace, with_cursor}
use Rattle.lru_rotate.specs.Rotating.{cleared, stands_at}
use Rattle.lru_lists.proofs.NoteLemmas.{noted_none}
use Rattle.lru_rotate.proofs.InactiveWalk.{in_first, in_second, falls}
use Rattle.row_list.proofs.RowLemmas.{turned_split}

-- The order of the walk, in two: what is before the cursor and with it, and what is after it.
pub order_splits : (cursor : Option ℕ) (rows : List Row) → (first : List Row) × (second : List Row) × (first ++ second ≡ rows) × (inactive_order cursor rows ≡ reverse first ++ reverse second)
unfolding inactive_order
order_splits None rows = ([], rows, refl, refl)
order_splits (Some e) rows = (rows_to e rows, rows_after e rows, take-append-drop (position_or_len (λ row. eqb row.element e) rows + 1) rows, refl)

pub order_long : (cursor : Option ℕ) (rows : List Row) → length (inactive_order cursor rows) ≡ length rows
order_long cursor rows =
    let split = order_splits cursor rows in
    let one : length (inactive_order cursor rows) ≡ length (reverse split.0 ++ reverse split.1) = ap length split.3 in
    let other : length (split.0 ++ split.1) ≡ length rows = ap length split.2 in
    omega (arith, one, other, length-append (reverse split.0) (reverse split.1), length-append split.0 split.1, length-reverse split.0, length-reverse split.1)

pub order_times : (cursor : Option ℕ) (rows : List Row) (e : ℕ) → times e (elements_of (inactive_order cursor rows)) ≡ times e (elements_of rows)
order_times cursor rows e =
    let split = order_splits cursor rows in
    let one : times e (elements_of (inactive_order cursor rows)) ≡ times e (elements_of (reverse split.0 ++ reverse split.1)) = ap (λ (xs : List Row). times e (elements_of xs)) split.3 in
    let other : times e (elements_of (split.0 ++ split.1)) ≡ times e (elements_of rows) = ap (λ (xs : List Row). times e (elements_of xs)) split.2 in
    omega (arith, one, other, times_rows-append e (reverse split.0) (reverse split.1), times_rows-append e split.0 split.1, times_rows-reverse e split.0, times_rows-reverse e split.1)

pub order_once : (cursor : Option ℕ) (rows : List Row) → AreOnce rows → AreOnce (inactive_order cursor rows)
order_once cursor rows once e = rw (order_times cursor rows e) (once e)

-- a row of the order stands in the list
pub record Stands (rows : List Row) (row : Row) : Type 0 where
  pub front : List Row
  pub back : List Row
  pub split : rows ≡ front ++ row ∷ back

in_the_list : (first second visited left : List Row) (row : Row) → reverse first ++ reverse second ≡ visited ++ row ∷ left → Stands (first ++ second) row
in_the_list first second visited left row order = elim (falls (reverse first) (reverse second) visited row left order) [
  | in_first rest in_it then ↦ record { front = reverse rest; back = reverse visited ++ second; split = ap (λ (xs : List Row). xs ++ second) (turned_split first visited row rest in_it) ∙ append_assoc (reverse rest) (row ∷ reverse visited) second }
  | in_second rest before_it then ↦ record { front = first ++ reverse left; back = reverse rest; split = ap (λ (xs : List Row). first ++ xs) (turned_split second rest row left then) ∙ sym (append_assoc first (reverse left) (row ∷ reverse rest)) }
]

pub stands_there : (cursor : Option ℕ) (rows visited left : List Row) (row : Row) → inactive_order cursor rows ≡ visited ++ row ∷ left → Stands rows row
stands_there cursor rows visited left row order =
    let split = order_splits cursor rows in
    subst (λ (xs : List Row). Stands xs row) split.2 (in_the_list split.0 split.1 visited left row (sym split.3 ∙ order))

-- the row of an element that is in a list
pub record Found (rows : List Row) (e : ℕ) : Type 0 where
  pub front : List Row
  pub row : Row
  pub back : List Row
  pub split : rows ≡ front ++ row ∷ back
  pub its : row.element ≡ e
  pub absent : IsAbsent e front

pub found_in : (e : ℕ) (rows : List Row) → IsIn e (elements_of rows) → Found rows e
found_in e [] is = absurd (omega arith)
found_in e (row ∷ rows) is =
    let rest : ℕ = times e (elements_of rows) in
    by_test row.element e (λ b. 0 < cond b (suc rest) rest → Found (row ∷ rows) e)
    (λ its _. record { front = []; row = row; back = rows; split = refl; its = its; absent = refl })
    (λ other there. let found = found_in e rows there in
    record { front = row ∷ found.front; row = found.row; back = found.back; split = ap (λ (xs : List Row). row ∷ xs) found.split; its = found.its; absent = absent_cons e row found.front other found.absent })
    is

from_mark : (rows left : List Row) (row : Row) → inactive_order None rows ≡ row ∷ left → stands_at None rows ≡ Some row.element
unfolding inactive_order
from_mark rows left row order = rw order refl

begins_with : (rows front back left : List Row) (its row : Row) → rows ≡ front ++ its ∷ back → IsAbsent its.element front → inactive_order (Some its.element) rows ≡ row ∷ left → its ≡ row
unfolding inactive_order
begins_with rows front back left its row split absent order =
    let to : rows_to its.element rows ≡ front ++ its ∷ [] = ap (rows_to its.element) split ∙ to_around front back its absent in
    let turned : reverse (rows_to its.element rows) ≡ its ∷ reverse front = ap reverse to ∙ reverse-append front (its ∷ []) in
    let both : its ∷ (reverse front ++ reverse (rows_after its.element rows)) ≡ row ∷ left = sym (ap (λ (xs : List Row). xs ++ reverse (rows_after its.element rows)) turned) ∙ order in
    cc

-- where the walk begins
pub stands_at_first : (cursor : Option ℕ) (rows left : List Row) (row : Row) → MatchOption cursor (Unit {0}) (λ e. IsIn e (elements_of rows)) → inactive_order cursor rows ≡ row ∷ left → stands_at cursor rows ≡ Some row.element
stands_at_first None rows left row placed order = from_mark rows left row order
stands_at_first (Some e) rows left row placed order =
    let found = found_in e rows placed in
    let absent : IsAbsent found.row.element found.front = ap (λ (x : ℕ). times x (elements_of found.front)) found.its ∙ found.absent in
    let same : found.row ≡ row = begins_with rows found.front found.back left found.row row found.split absent (subst (λ (x : ℕ). inactive_order (Some x) rows ≡ row ∷ left) (sym found.its) order) in
    ap (λ (x : ℕ). let o : Option ℕ = Some x in o) (sym found.its ∙ ap (λ (r : Row). r.element) same)

-- A test that differs at one element alone finds the same neighbour of it.
pub nearest_agrees : (p q : ℕ → Bool) (rows front back : List Row) (row : Row) → ((x : ℕ) → x ≢ row.element → p x ≡ q x) → rows ≡ front ++ row ∷ back → AreOnce rows → nearest_before row.element p rows ≡ nearest_before row.element q rows
nearest_agrees p q rows front back row agree split once =
    let absent : IsAbsent row.element front = (alone front back row (subst AreOnce split once)).0 in
    let same = find_absent (λ x. not (p x)) (λ x. not (q x)) row.element (λ x other. ap not (agree x other)) (reverse front) (absent-reverse row.element front absent) in
    rw (split, before_around front back row absent, same) refl

turned_choice : (b : Bool) (row : Row) (rows : List Row) → reverse rows ++ cond b (row ∷ []) [] ≡ reverse (cond b (row ∷ rows) rows)
turned_choice true row rows = sym (reverse-append (row ∷ []) rows)
turned_choice false row rows = append-nil (reverse rows)

pub filter_turned : (p : Row → Bool) (rows : List Row) → filter p (reverse rows) ≡ reverse (filter p rows)
filter_turned p [] = refl
filter_turned p (row ∷ rows) =
    ap (filter p) (reverse-append (row ∷ []) rows) ∙ filter-append p (reverse rows) (row ∷ [])
    ∙ ap (λ (xs : List Row). xs ++ filter p (row ∷ [])) (filter_turned p rows) ∙ turned_choice (p row) row (filter p rows)

found_choice : (b : Bool) (found : Option Row) (row : Row) (rows : List Row) → MatchOption found (Unit {0}) (λ r. IsIn r.element (elements_of rows)) → MatchOption (cond b (Some row) found) (Unit {0}) (λ r. IsIn r.element (elements_of (cond b (row ∷ rows) rows)))
found_choice true found row rows rest = omega (arith, times_rows-cons row rows)
found_choice false found row rows rest = rest

found_stays : (p : Row → Bool) (rows : List Row) → MatchOption (find p rows) (Unit {0}) (λ row. IsIn row.element (elements_of (filter p rows)))
found_stays p [] = tt
found_stays p (row ∷ rows) = found_choice (p row) (find p rows) row (filter p rows) (found_stays p rows)

element_found : (o : Option Row) (P Q : ℕ → Type 0) → ((x : ℕ) → P x → Q x) → MatchOption o (Unit {0}) (λ row. P row.element) → MatchOption (option_map (λ row. row.element) o) (Unit {0}) Q
element_found None P Q weaker is = tt
element_found (Some row) P Q weaker is = weaker row.element is

-- The neighbour is one of those that stay.
pub nearest_stays : (e : ℕ) (gone : ℕ → Bool) (rows : List Row) → MatchOption (nearest_before e gone rows) (Unit {0}) (λ x. IsIn x (elements_of (without_those gone rows)))
nearest_stays e gone rows =
    let p : Row → Bool = λ row. not (gone row.element) in
    let n : ℕ = position_or_len (λ row. eqb row.element e) rows in
    let part : List Row = take n rows in
    element_found (find p (reverse part)) (λ x. IsIn x (elements_of (filter p (reverse part)))) (λ x. IsIn x (elements_of (filter p rows)))
    (λ x is.
    let turned : times x (elements_of (filter p (reverse part))) ≡ times x (elements_of (filter p part)) =
    ap (λ (xs : List Row). times x (elements_of xs)) (filter_turned p part) ∙ times_rows-reverse x (filter p part) in
    let split : times x (elements_of (filter p rows)) ≡ times x (elements_of (filter p part)) + times x (elements_of (filter p (drop n rows))) =
    ap (λ (xs : List Row). times x (elements_of (filter p xs))) (sym (take-append-drop n rows)) ∙ ap (λ (xs : List Row). times x (elements_of xs)) (filter-append p part (drop n rows)) ∙ times_rows-append x (filter p part) (filter p (drop n rows)) in
    omega (arith, is, turned, split))
    (found_stays p (reverse part))

-- the rows of inactive in the order in which they are visited
abbrev pub walk_of : SetView → List Row
walk_of set = inactive_order set.cursor set.inactive

-- the cursor where these rows have been visited last
abbrev pub stop_after : List Row → List Row → List Visit → Option ℕ
stop_after inactive visited visits = option_and_then (λ row. nearest_before row.element (was_set visits) inactive) (slice_get (reverse visited) 0)

pub record InactiveSoFar (k : ℕ) (before now : SetView) (at stop : Option ℕ) (calls calls_now : List BitCall) (notes notes_now : Noted Visit) : Type 0 where
  pub visits : List Visit
  pub visited : visited_elements visits ≡ elements_of (take k (walk_of before))
  pub set : with_cursor None now ≡ record before {
    active = reverse (those (was_set visits) (take k (walk_of before))) ++ before.active;
    inactive = without_those (was_set visits) before.inactive;
    cursor = None;
  }
  pub stopped : stop ≡ stop_after before.inactive (take k (walk_of before)) visits
  pub stop_placed : IsPlace stop now
  pub at_placed : IsPlace at now
  pub goes_on : (row : Row) (left : List Row) → drop k (walk_of before) ≡ row ∷ left → stands_at at now.inactive ≡ Some row.element
  pub asked : calls_now ≡ calls ++ cleared visits
  pub noted : AreNoted visits notes notes_now

nothing_gone : (rows : List Row) → without_those (was_set []) rows ≡ rows
nothing_gone [] = refl
nothing_gone (row ∷ rows) = ap (λ (xs : List Row). row ∷ xs) (nothing_gone rows)

pub inactive_begins : (before : SetView) (calls : List BitCall) (notes : Noted Visit) → IsSet before → InactiveSoFar 0 before before before.cursor None calls calls notes notes
inactive_begins before calls notes whole = record {
  visits = [];
  visited = refl;
  set = rw (nothing_gone before.inactive) refl;
  stopped = refl;
  stop_placed = tt;
  at_placed = whole.placed;
  goes_on = λ row left order. stands_at_first before.cursor before.inactive left row whole.placed order;
  asked = sym (append-nil calls);
  noted = noted_none notes;
}
