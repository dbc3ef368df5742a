-- What a move changes in a set whose elements stand there once.
use Rattle.std.proofs.Common.{◌≡◌, ◌≢◌, ℕ, eqb, List, ◌∷◌, ◌++◌, refl, ap, ◌∙◌, sym, arith}
use Rattle.std.specs.Prelude.{Option, None, Some, MatchOption}
use Rattle.std.proofs.lemmas.Bool.{ne_eqb}
use Rattle.std.proofs.lemmas.List.{append_assoc}
use Rattle.map_types.specs.ElementLists.{times, IsIn}
use Rattle.map_types.specs.declared.row.Row.{Row}
use Rattle.map_types.specs.Listed.{elements_of, cursor_without}
use Rattle.map_types.proofs.RowLemmas.{IsAbsent, times_rows-append, times_rows-cons}
use Rattle.row_list.specs.RowWords.{row_of, without_row}
use Rattle.row_list.proofs.RowLemmas.{row_of_split, without_absent}
use Rattle.lru_lists.specs.declared.name.ListName.{ListName}
use Rattle.lru_lists.specs.declared.name.ListName.TheVariants.{Active}
use Rattle.lru_lists.specs.Sets.{SetView, IsSet, row_on, moved_in, moved_to}

-- A cursor stays where it is when another element leaves.
pub cursor_stays : (e : ℕ) (rows : List Row) (cursor : Option ℕ) → IsAbsent e rows → MatchOption cursor (Unit {0}) (λ c. IsIn c (elements_of rows)) → cursor_without (λ x. eqb x e) rows cursor ≡ cursor
cursor_stays e rows None absent placed = refl
cursor_stays e rows (Some c) absent placed =
    let other : c ≢ e = λ is. absurd (omega (arith, placed, absent, ap (λ (x : ℕ). times x (elements_of rows)) is)) in
    rw (ne_eqb c e other) refl

module _ (set : SetView) (row : Row) (whole : IsSet set) where
  -- the row of an active element stands in no other list
  pub absent_from_inactive : (front back : List Row) → set.active ≡ front ++ row ∷ back → IsAbsent row.element set.inactive × IsAbsent row.element front
  absent_from_inactive front back is =
      let most = whole.once row.element in
      let apart = times_rows-append row.element front (row ∷ back) in
      let here = times_rows-cons row back in
      let at : times row.element (elements_of set.active) ≡ times row.element (elements_of (front ++ row ∷ back)) = ap (λ (xs : List Row). times row.element (elements_of xs)) is in
      (omega (arith, most, apart, here, at), omega (arith, most, apart, here, at))

  pub absent_from_active : (front back : List Row) → set.inactive ≡ front ++ row ∷ back → IsAbsent row.element set.active × IsAbsent row.element front
  absent_from_active front back is =
      let most = whole.once row.element in
      let apart = times_rows-append row.element front (row ∷ back) in
      let here = times_rows-cons row back in
      let at : times row.element (elements_of set.inactive) ≡ times row.element (elements_of (front ++ row ∷ back)) = ap (λ (xs : List Row). times row.element (elements_of xs)) is in
      (omega (arith, most, apart, here, at), omega (arith, most, apart, here, at))

  -- an active element moves: the other list and the cursor stay
  pub moved_active : (front back : List Row) (to : ListName) → set.active ≡ front ++ row ∷ back → moved_to row.element to set ≡ moved_in row to (record set { active = without_row row.element set.active })
  moved_active front back to is =
      let absent = absent_from_inactive front back is in
      let split : set.active ++ set.inactive ≡ front ++ row ∷ (back ++ set.inactive) =
      ap (λ (xs : List Row). xs ++ set.inactive) is ∙ append_assoc front (row ∷ back) set.inactive in
      let found : row_on row.element set ≡ Some row = ap (row_of row.element) split ∙ row_of_split row.element front row (back ++ set.inactive) absent.1 refl in
      rw (found, without_absent row.element set.inactive absent.0, cursor_stays row.element set.inactive set.cursor absent.0 whole.placed) refl

  -- an inactive element moves to the head of active; the cursor is told elsewhere
  pub moved_inactive : (front back : List Row) → set.inactive ≡ front ++ row ∷ back → moved_to row.element Active set ≡ record set { active = row ∷ set.active; inactive = without_row row.element set.inactive; cursor = cursor_without (λ x. eqb x row.element) set.inactive set.cursor }
  moved_inactive front back is =
      let absent = absent_from_active front back is in
      let split : set.active ++ set.inactive ≡ (set.active ++ front) ++ row ∷ back =
      ap (λ (xs : List Row). set.active ++ xs) is ∙ sym (append_assoc set.active front (row ∷ back)) in
      let before : IsAbsent row.element (set.active ++ front) = omega (arith, times_rows-append row.element set.active front, absent.0, absent.1) in
      let found : row_on row.element set ≡ Some row = ap (row_of row.element) split ∙ row_of_split row.element (set.active ++ front) row back before refl in
      rw (found, without_absent row.element set.active absent.0) refl
