-- Where the cursor goes when the element under it leaves.
use Rattle.std.proofs.Common.{◌≡◌, ◌≢◌, ℕ, suc, ◌+◌, Bool, true, not, cond, eqb, List, [], ◌∷◌, ◌++◌, length, take, drop, Option, Some, None, refl, ap, sym, ◌∙◌, subst, arith}
use Rattle.std.specs.Prelude.{reverse, find, MatchOption, option_map}
use Rattle.std.specs.List.{before_first, position_or_len}
use Rattle.std.specs.Option.{option_eq}
use Rattle.std.proofs.lemmas.Bool.{eqb-true, eqb-false, not-true}
use Rattle.std.proofs.lemmas.Option.{same_Some}
use Rattle.std.proofs.lemmas.List.{take-append-drop, take_at, reverse-reverse}
use Rattle.map_types.specs.ElementLists.{times, IsIn, before_from, neighbour}
use Rattle.map_types.specs.declared.row.Row.{Row}
use Rattle.map_types.specs.Listed.{elements_of, rows_before, nearest_before, cursor_without}
use Rattle.map_types.proofs.RowLemmas.{times_append, by_test}
use Rattle.row_list.specs.RowWords.{is_of, without_row, head_row, row_before_from, row_before}
use Rattle.row_list.proofs.ElementLemmas.{absent_parts}
use Rattle.row_list.proofs.RowLemmas.{elements_append, times_rows_reverse, found_is_in, kept_without, last_from, last_of_reverse, row_before_split, splits}

-- a place for the cursor in a list: one of its elements, or the mark
abbrev pub IsPlaceIn : Option ℕ → List Row → Type 0
IsPlaceIn at rows = MatchOption at (Unit {0}) (λ e. IsIn e (elements_of rows))

in_part : (e n : ℕ) (rows : List Row) → IsIn e (elements_of (take n rows)) → IsIn e (elements_of rows)
in_part e n rows is_in =
    let whole = ap (λ (xs : List Row). times e (elements_of xs)) (take-append-drop n rows) in
    let apart = ap (times e) (elements_append (take n rows) (drop n rows)) ∙ times_append e (elements_of (take n rows)) (elements_of (drop n rows)) in
    omega arith

-- the nearest element towards the head that isn't e stays when e leaves
pub nearest_stays : (e : ℕ) (rows : List Row) → IsPlaceIn (nearest_before e (λ x. eqb x e) rows) (without_row e rows)
nearest_stays e rows =
    let test : Row → Bool = λ row. not (eqb row.element e) in
    let back : List Row = reverse (rows_before e rows) in
    elim (find test back) as (λ (found : Option Row). find test back ≡ found → IsPlaceIn (option_map (λ (row : Row). row.element) found) (without_row e rows)) [
      | None ↦ λ _. tt
      | Some row ↦ λ found.
          let there = found_is_in test back row found in
          let other : row.element ≢ e = eqb-false row.element e (not-true (eqb row.element e) there.1) in
          let before : IsIn row.element (elements_of (rows_before e rows)) = let same = times_rows_reverse row.element (rows_before e rows) in let is_in = there.0 in omega arith in
          let inside : IsIn row.element (elements_of rows) = in_part row.element (position_or_len (is_of e) rows) rows before in
          let kept = kept_without row.element e rows other in
          omega arith
    ] refl

-- a cursor that leaves e stands on another element, or at the mark
pub cursor_stays : (e : ℕ) (rows : List Row) (at : Option ℕ) → IsPlaceIn at rows → IsPlaceIn (cursor_without (λ x. eqb x e) rows at) (without_row e rows)
cursor_stays e rows None place = tt
cursor_stays e rows (Some x) place =
    by_test x e (λ b. IsPlaceIn (cond b (nearest_before x (λ y. eqb y e) rows) (Some x)) (without_row e rows))
    (λ is. subst (λ (y : ℕ). IsPlaceIn (nearest_before y (λ z. eqb z e) rows) (without_row e rows)) (sym is) (nearest_stays e rows))
    (λ other. let kept = kept_without x e rows other in omega arith)

-- the neighbour of an element that is there is the nearest one before it
position_split : (e : ℕ) (front : List Row) (row : Row) (back : List Row) → times e (elements_of front) ≡ 0 → row.element ≡ e → position_or_len (is_of e) (front ++ row ∷ back) ≡ length front
position_split e [] row back none is =
    by_test row.element e (λ b. cond (not b) (1 + position_or_len (is_of e) back) 0 ≡ 0) (λ _. refl) (λ other. absurd (other is))
position_split e (x ∷ front) row back none is =
    let parts = absent_parts x.element e (elements_of front) none in
    let rest = position_split e front row back parts.1 is in
    by_test x.element e (λ b. cond (not b) (1 + position_or_len (is_of e) (front ++ row ∷ back)) 0 ≡ suc (length front)) (λ here. absurd (parts.0 here)) (λ _. omega arith)

first_passes : (e : ℕ) (rows : List Row) → times e (elements_of rows) ≡ 0 → find (λ row. not (eqb row.element e)) rows ≡ head_row rows
first_passes e [] none = refl
first_passes e (x ∷ rows) none =
    let parts = absent_parts x.element e (elements_of rows) none in
    by_test x.element e (λ b. cond (not b) (Some x) (find (λ row. not (eqb row.element e)) rows) ≡ Some x) (λ here. absurd (parts.0 here)) (λ _. refl)

last_is_head : (rows : List Row) → last_from None rows ≡ head_row (reverse rows)
last_is_head rows = ap (last_from None) (sym (reverse-reverse rows)) ∙ last_of_reverse (reverse rows)

pub neighbour_is_nearest : (e : ℕ) (rows : List Row) → IsIn e (elements_of rows) → option_map (λ (row : Row). row.element) (row_before e rows) ≡ nearest_before e (λ x. eqb x e) rows
neighbour_is_nearest e rows is_in =
    let apart = splits e rows is_in in
    let front = apart.0 in
    let parts = apart.3 in
    let before : rows_before e rows ≡ front =
    ap (λ (xs : List Row). before_first (is_of e) xs) parts.around ∙ ap (λ (n : ℕ). take n (front ++ apart.1 ∷ apart.2)) (position_split e front apart.1 apart.2 parts.not_before parts.its) ∙ take_at front (apart.1 ∷ apart.2) (length front) refl in
    let near : find (λ row. not (eqb row.element e)) (reverse (rows_before e rows)) ≡ head_row (reverse front) =
    ap (λ (xs : List Row). find (λ row. not (eqb row.element e)) (reverse xs)) before ∙ first_passes e (reverse front) (times_rows_reverse e front ∙ parts.not_before) in
    let next : row_before e rows ≡ head_row (reverse front) =
    ap (row_before e) parts.around ∙ row_before_split e front apart.1 apart.2 parts.not_before parts.its ∙ last_is_head front in
    ap (option_map (λ (row : Row). row.element)) (next ∙ sym near)

-- where the cursor is on the element, it goes to that neighbour, else it stays
pub cursor_goes : (e : ℕ) (rows : List Row) (at to : Option ℕ) → to ≡ option_map (λ (row : Row). row.element) (row_before e rows) → IsPlaceIn at rows → at ≡ Some e → to ≡ cursor_without (λ x. eqb x e) rows at
cursor_goes e rows None to goes place is = absurd cc
cursor_goes e rows (Some x) to goes place is =
    let same : x ≡ e = same_Some x e is in
    by_test x e (λ b. to ≡ cond b (nearest_before x (λ y. eqb y e) rows) (Some x))
    (λ here. goes ∙ neighbour_is_nearest e rows (subst (λ (y : ℕ). IsIn y (elements_of rows)) here place) ∙ ap (λ (y : ℕ). nearest_before y (λ z. eqb z e) rows) (sym here))
    (λ other. absurd (other same))

pub is_under : (at : Option ℕ) (e : ℕ) → true ≡ option_eq eqb at (Some e) → at ≡ Some e
is_under None e is = absurd cc
is_under (Some x) e is = ap Some (eqb-true x e (sym is))

-- the neighbour of a row, by its element, is the neighbour in the list of the elements
neighbour_from : (last : Option Row) (e : ℕ) (rows : List Row) → option_map (λ (row : Row). row.element) (row_before_from last e rows) ≡ before_from (option_map (λ (row : Row). row.element) last) e (elements_of rows)
neighbour_from last e [] = refl
neighbour_from last e (x ∷ rows) =
    by_test x.element e (λ b. option_map (λ (row : Row). row.element) (cond b last (row_before_from (Some x) e rows)) ≡ cond b (option_map (λ (row : Row). row.element) last) (before_from (Some x.element) e (elements_of rows)))
    (λ _. refl)
    (λ _. neighbour_from (Some x) e rows)

pub neighbour_by_row : (e : ℕ) (rows : List Row) → option_map (λ (row : Row). row.element) (row_before e rows) ≡ neighbour e (elements_of rows)
neighbour_by_row e rows = neighbour_from None e rows

pub nearest_is_neighbour : (e : ℕ) (rows : List Row) → IsIn e (elements_of rows) → nearest_before e (λ x. eqb x e) rows ≡ neighbour e (elements_of rows)
nearest_is_neighbour e rows is_in = sym (neighbour_is_nearest e rows is_in) ∙ neighbour_by_row e rows
