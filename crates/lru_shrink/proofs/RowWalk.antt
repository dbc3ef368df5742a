-- A walk over rows from the tail: the rows that it has come by, and those that are left, both in its order.
use Rattle.std.proofs.Common.{◌≡◌, ℕ, ◌+◌, ◌<◌, ◌≤◌, List, [], ◌∷◌, ◌++◌, reverse, length, take, refl, ap, ◌∙◌, sym, subst, arith}
use Rattle.std.specs.Prelude.{Option, None, Some}
use Rattle.std.proofs.lemmas.List.{append_assoc, length-append, length-map, length-reverse, map-append, take_at}
use Rattle.map_types.specs.ElementLists.{times, IsIn}
use Rattle.map_types.specs.Listed.{elements_of}
use Rattle.map_types.specs.declared.row.Row.{Row}
use Rattle.map_types.proofs.RowLemmas.{IsAbsent, AreOnce, alone, times_rows-append, times_rows-cons}
use Rattle.row_list.specs.RowWords.{row_of, head_row, tail_row, row_before}
use Rattle.row_list.proofs.RowLemmas.{row_of_split, last_of_reverse, row_before_split, turned_split}

pub first_of : (left : List Row) (row : Row) → head_row left ≡ Some row → (rest : List Row) × (left ≡ row ∷ rest)
first_of [] row is = absurd cc
first_of (x ∷ left) row is = (left, cc)

pub none_first : (left : List Row) → head_row left ≡ None → left ≡ []
none_first [] is = refl
none_first (x ∷ left) is = absurd cc

pub record Walked (rows : List Row) (elements : List ℕ) (at : Option Row) : Type 0 where
  pub visited : List Row
  pub left : List Row
  pub order : reverse rows ≡ visited ++ left
  pub seen : elements ≡ elements_of visited
  pub next : at ≡ head_row left

pub walked_none : (rows : List Row) (at : Option Row) → at ≡ tail_row rows → Walked rows [] at
walked_none rows at is = record { visited = []; left = reverse rows; order = refl; seen = refl; next = is }

module _ {rows : List Row} {elements : List ℕ} {at : Option Row} (walk : Walked rows elements at) where
  as_many : length elements ≡ length walk.visited
  as_many = ap (length {A = ℕ}) walk.seen ∙ length-map walk.visited (λ (r : Row). r.element)

  counted : length elements + length walk.left ≡ length rows
  counted =
      let same = ap (length {A = Row}) walk.order in
      let apart = length-append walk.visited walk.left in
      let turned = length-reverse rows in
      let many = as_many in
      omega arith

  pub few_walked : length elements ≤ length rows
  few_walked = let all = counted in omega arith

  pub all_walked : at ≡ None → length elements ≡ length rows
  all_walked none =
      let empty = ap (length {A = Row}) (none_first walk.left (sym walk.next ∙ none)) in
      let all = counted in
      omega arith

  pub from_tail : elements ≡ elements_of (take (length elements) (reverse rows))
  from_tail = walk.seen ∙ sym (ap elements_of (ap (take (length elements)) walk.order ∙ take_at walk.visited walk.left (length elements) (sym as_many)))

  -- at the next row
  module _ {row : Row} (here : at ≡ Some row) where
    rest : List Row
    rest = (first_of walk.left row (sym walk.next ∙ here)).0

    rest_is : walk.left ≡ row ∷ rest
    unfolding rest
    rest_is = (first_of walk.left row (sym walk.next ∙ here)).1

    order_here : reverse rows ≡ walk.visited ++ row ∷ rest
    order_here = walk.order ∙ ap (λ (xs : List Row). walk.visited ++ xs) rest_is

    split : rows ≡ reverse rest ++ row ∷ reverse walk.visited
    split = turned_split rows walk.visited row rest order_here

    pub fewer_walked : length elements < length rows
    fewer_walked = let all = counted in let some = ap (length {A = Row}) rest_is in omega arith

    pub row_is_in : IsIn row.element (elements_of rows)
    row_is_in =
        let same = ap (λ (xs : List Row). times row.element (elements_of xs)) split in
        let apart = times_rows-append row.element (reverse rest) (row ∷ reverse walk.visited) in
        let one = times_rows-cons row (reverse walk.visited) in
        omega arith

    module _ (once : AreOnce rows) where
      not_before : IsAbsent row.element (reverse rest)
      not_before = (alone (reverse rest) (reverse walk.visited) row (subst AreOnce split once)).0

      pub its_row : row_of row.element rows ≡ Some row
      its_row = ap (row_of row.element) split ∙ row_of_split row.element (reverse rest) row (reverse walk.visited) not_before refl

      next_row : row_before row.element rows ≡ head_row rest
      next_row = ap (row_before row.element) split ∙ row_before_split row.element (reverse rest) row (reverse walk.visited) not_before refl ∙ last_of_reverse rest

      pub walked_more : {e : ℕ} {at_then : Option Row} → e ≡ row.element → at_then ≡ row_before row.element rows → Walked rows (elements ++ e ∷ []) at_then
      walked_more {e = e} named next = record {
        visited = walk.visited ++ row ∷ [];
        left = rest;
        order = order_here ∙ sym (append_assoc walk.visited (row ∷ []) rest);
        seen =
            ap (λ (xs : List ℕ). xs ++ e ∷ []) walk.seen ∙ ap (λ (n : ℕ). elements_of walk.visited ++ n ∷ []) named
            ∙ sym (map-append (λ (r : Row). r.element) walk.visited (row ∷ []));
        next = next ∙ next_row;
      }
