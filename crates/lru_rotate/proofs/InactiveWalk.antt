-- The visits of inactive, from the cursor to the head and then from the tail: where the walk stands after each.
use Rattle.std.proofs.Common.{◌≡◌, ℕ, Bool, true, false, not, cond, List, [], ◌∷◌, ◌++◌, reverse, refl, ap, ◌∙◌, sym, subst}
use Rattle.std.specs.Prelude.{Option, None, Some, find, option_map}
use Rattle.std.specs.Option.{option_or}
use Rattle.std.proofs.lemmas.List.{reverse-append, reverse-reverse, append_assoc}
use Rattle.std.proofs.lemmas.List.Elements.{filter-append}
use Rattle.std.proofs.lemmas.List.Folds.{find-append}
use Rattle.map_types.specs.declared.row.Row.{Row}
use Rattle.map_types.specs.Listed.{without_those, nearest_before}
use Rattle.map_types.proofs.RowLemmas.{IsAbsent, AreOnce, alone, before_around, absent-filter}
use Rattle.row_list.specs.RowWords.{row_before}
use Rattle.lru_rotate.specs.Rotating.{stands_at}
use Rattle.row_list.proofs.RowLemmas.{last_from, row_before_split, turned_split}

-- where a list that is joined of two falls into what is before an item, that item, and what is after it
pub data Falls {A : Type 0} (first second before : List A) (item : A) (after : List A) : Type 0 where
  in_first : (rest : List A) → first ≡ before ++ item ∷ rest → after ≡ rest ++ second → Falls first second before item after
  in_second : (rest : List A) → before ≡ first ++ rest → second ≡ rest ++ item ∷ after → Falls first second before item after

pub falls : {A : Type 0} (first second before : List A) (item : A) (after : List A) → first ++ second ≡ before ++ item ∷ after → Falls first second before item after
falls [] second before item after is = in_second before refl is
falls (x ∷ first) second [] item after is = in_first first (cc) (cc)
falls (x ∷ first) second (y ∷ before) item after is =
    elim (falls first second before item after cc) [
      | in_first rest in_it then ↦ in_first rest (cc) then
      | in_second rest before_it then ↦ in_second rest (cc) then
    ]

module _ (gone : ℕ → Bool) where
  stays : Row → Bool
  stays row = not (gone row.element)

  -- the neighbour towards the head, where the first rows that way are known
  pub nearest_found : (rows front back more : List Row) (row next : Row) → rows ≡ front ++ row ∷ back → AreOnce rows → reverse front ≡ next ∷ more → gone next.element ≡ false → nearest_before row.element gone rows ≡ Some next.element
  nearest_found rows front back more row next is once towards stays_there =
      let absent : IsAbsent row.element front = (alone front back row (subst AreOnce is once)).0 in
      rw (is, before_around front back row absent, towards, stays_there) refl

  pub nearest_none : (rows back : List Row) (row : Row) → rows ≡ row ∷ back → nearest_before row.element gone rows ≡ None
  nearest_none rows back row is = rw (is, before_around [] back row refl) refl

  tail_stays : (rows front : List Row) (next : Row) → rows ≡ front ++ next ∷ [] → gone next.element ≡ false → stands_at None (without_those gone rows) ≡ Some next.element
  tail_stays rows front next is stays_there =
      let left : without_those gone rows ≡ without_those gone front ++ next ∷ [] =
      rw (is, filter-append (λ row. not (gone row.element)) front (next ∷ []), stays_there) refl in
      rw (left, reverse-append (without_those gone front) (next ∷ [])) refl

  module _ (first second visited left : List Row) (row next : Row) (once : AreOnce (first ++ second)) (stays_there : gone next.element ≡ false) where
    IsAtNext : Type 0
    IsAtNext = stands_at (nearest_before row.element gone (first ++ second)) (without_those gone (first ++ second)) ≡ Some next.element

    -- at the head the walk comes to the mark, and goes on at the tail
    at_head : first ≡ row ∷ reverse visited → reverse second ≡ next ∷ left → IsAtNext
    unfolding IsAtNext
    at_head in_it then =
        let turned : second ≡ reverse left ++ next ∷ [] = turned_split second [] next left then in
        let front : List Row = first ++ reverse left in
        let whole : first ++ second ≡ front ++ next ∷ [] = ap (λ (xs : List Row). first ++ xs) turned ∙ sym (append_assoc first (reverse left) (next ∷ [])) in
        let none = nearest_none (first ++ second) (reverse visited ++ second) row (ap (λ (xs : List Row). xs ++ second) in_it) in
        rw none (tail_stays (first ++ second) front next whole stays_there)

    in_the_first : (rest : List Row) → reverse first ≡ visited ++ row ∷ rest → next ∷ left ≡ rest ++ reverse second → IsAtNext
    unfolding IsAtNext
    in_the_first [] in_it then = at_head (turned_split first visited row [] in_it) (sym then)
    in_the_first (r ∷ rest) in_it then =
        let same : r ≡ next = cc in
        let turned : first ≡ reverse (r ∷ rest) ++ row ∷ reverse visited = turned_split first visited row (r ∷ rest) in_it in
        let whole : first ++ second ≡ reverse (r ∷ rest) ++ row ∷ (reverse visited ++ second) =
        ap (λ (xs : List Row). xs ++ second) turned ∙ append_assoc (reverse (r ∷ rest)) (row ∷ reverse visited) second in
        let towards : reverse (reverse (r ∷ rest)) ≡ next ∷ rest = reverse-reverse (r ∷ rest) ∙ ap (λ (x : Row). x ∷ rest) same in
        rw (nearest_found (first ++ second) (reverse (r ∷ rest)) (reverse visited ++ second) rest row next whole once towards stays_there) refl

    in_the_second : (rest : List Row) → reverse second ≡ rest ++ row ∷ (next ∷ left) → IsAtNext
    unfolding IsAtNext
    in_the_second rest then =
        let turned : second ≡ reverse (next ∷ left) ++ row ∷ reverse rest = turned_split second rest row (next ∷ left) then in
        let front : List Row = first ++ reverse (next ∷ left) in
        let whole : first ++ second ≡ front ++ row ∷ reverse rest =
        ap (λ (xs : List Row). first ++ xs) turned ∙ sym (append_assoc first (reverse (next ∷ left)) (row ∷ reverse rest)) in
        let towards : reverse front ≡ next ∷ (left ++ reverse first) =
        reverse-append first (reverse (next ∷ left)) ∙ ap (λ (xs : List Row). xs ++ reverse first) (reverse-reverse (next ∷ left)) in
        rw (nearest_found (first ++ second) front (reverse rest) (left ++ reverse first) row next whole once towards stays_there) refl

    -- After the visit of a row the walk stands at the next one of the order.
    pub stands_at_next : reverse first ++ reverse second ≡ visited ++ row ∷ (next ∷ left) → stands_at (nearest_before row.element gone (first ++ second)) (without_those gone (first ++ second)) ≡ Some next.element
    unfolding IsAtNext
    stands_at_next order = elim (falls (reverse first) (reverse second) visited row (next ∷ left) order) [
      | in_first rest in_it then ↦ in_the_first rest in_it then
      | in_second rest before_it then ↦ in_the_second rest then
    ]

  or_none : (o : Option Row) → option_or o None ≡ o
  or_none None = refl
  or_none (Some row) = refl

  or_assoc : (o p q : Option Row) → option_or (option_or o p) q ≡ option_or o (option_or p q)
  or_assoc None p q = refl
  or_assoc (Some row) p q = refl

  last_of_choice : (b : Bool) (last : Option Row) (row : Row) (rows : List Row) → last_from last (cond b (row ∷ rows) rows) ≡ last_from (option_or (cond b (Some row) None) last) rows
  last_of_choice true last row rows = refl
  last_of_choice false last row rows = refl

  -- the last of those that stay is the first of them from the end
  last_of_those : (last : Option Row) (rows : List Row) → last_from last (without_those gone rows) ≡ option_or (find (λ row. not (gone row.element)) (reverse rows)) last
  last_of_those last [] = refl
  last_of_those last (row ∷ rows) =
      let p : Row → Bool = λ r. not (gone r.element) in
      let rest = last_of_those (option_or (cond (p row) (Some row) None) last) rows in
      let turned : find p (reverse (row ∷ rows)) ≡ option_or (find p (reverse rows)) (cond (p row) (Some row) None) =
      ap (find p) (reverse-append (row ∷ []) rows) ∙ find-append p (reverse rows) (row ∷ []) in
      last_of_choice (p row) last row (without_those gone rows) ∙ rest
      ∙ sym (or_assoc (find p (reverse rows)) (cond (p row) (Some row) None) last)
      ∙ ap (λ (o : Option Row). option_or o last) (sym turned)

  -- the neighbour of a row that stays, among those that stay
  pub neighbour_is_nearest : (rows front back : List Row) (row : Row) → rows ≡ front ++ row ∷ back → AreOnce rows → gone row.element ≡ false → option_map (λ r. r.element) (row_before row.element (without_those gone rows)) ≡ nearest_before row.element gone rows
  neighbour_is_nearest rows front back row is once stays_there =
      let absent : IsAbsent row.element front = (alone front back row (subst AreOnce is once)).0 in
      let left : without_those gone rows ≡ without_those gone front ++ row ∷ without_those gone back =
      rw (is, filter-append (λ r. not (gone r.element)) front (row ∷ back), stays_there) refl in
      let before : row_before row.element (without_those gone rows) ≡ last_from None (without_those gone front) =
      rw left (row_before_split row.element (without_those gone front) row (without_those gone back) (absent-filter (λ r. not (gone r.element)) row.element front absent) refl) in
      rw (before, last_of_those None front, or_none (find (λ r. not (gone r.element)) (reverse front)), is, before_around front back row absent) refl
