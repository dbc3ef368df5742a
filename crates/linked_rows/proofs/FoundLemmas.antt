-- What is read from the cells of a list.
use Rattle.std.proofs.Common.{◌≡◌, ℕ, zero, suc, ◌+◌, ◌<◌, ◌≤◌, List, [], ◌∷◌, ◌++◌, length, take, drop, get_or, reverse, Option, Some, None, refl, ap, sym, ◌∙◌, subst, arith, append_assoc, append-nil, drop-cons, inl, inr}
use Rattle.std.specs.Prelude.{IsSome}
use Rattle.std.proofs.lemmas.Bool.{cases_lt}
use Rattle.std.proofs.lemmas.List.{reverse-reverse, take_more, take-append-drop}
use Rattle.map_types.specs.ElementLists.{times, IsIn}
use Rattle.map_types.specs.declared.row.Row.{Row}
use Rattle.map_types.specs.Listed.{elements_of}
use Rattle.row_list.specs.RowWords.{row_of, head_row, tail_row, row_before, row_after}
use Rattle.row_list.proofs.RowLemmas.{elements_append, last_from, last_of_reverse, row_before_split, row_after_split, row_present, splits}
use Rattle.row_list.proofs.PlainLemmas.{around, some_row}
use Rattle.linked_rows.specs.declared.cells.Cell.{Cell}
use Rattle.linked_rows.specs.Cells.{after_at, before_at, row_at, row_first, rows_from, rows_of, IsLinked}
use Rattle.linked_rows.proofs.LeadLemmas.{Leads, leads_round, first_cell, leads_first, leads_at}
use Rattle.linked_rows.proofs.ListLemmas.{row_here, first_behind, first_before}

-- The rows that are met on the way from the mark are those that are linked.

met : (mark : ℕ) (cells : List Cell) (rows seen left : List Row) (start steps : ℕ) → IsLinked mark cells rows → rows ≡ seen ++ left → Leads (after_at cells) start left mark → length left ≤ steps → rows_from steps (after_at cells start) cells ≡ left
met mark cells rows seen [] start zero linked split leads few = refl
met mark cells rows seen [] start (suc steps) linked split leads few =
    let none : row_at cells (after_at cells start) ≡ None =
    ap (row_at cells) leads ∙ linked.its_row mark ∙ first_behind mark rows seen [] linked.are split in
    ap (λ (first : Option Row). row_first first (rows_from steps (after_at cells (after_at cells start)) cells)) none
met mark cells rows seen (row ∷ left) start zero linked split leads few = absurd (omega arith)
met mark cells rows seen (row ∷ left) start (suc steps) linked split leads few =
    let some : row_at cells (after_at cells start) ≡ Some row =
    ap (row_at cells) leads.0 ∙ linked.its_row row.element ∙ row_here mark rows seen row left linked.are split in
    let next : rows_from steps (after_at cells row.element) cells ≡ left =
    met mark cells rows (seen ++ row ∷ []) left row.element steps linked (split ∙ sym (append_assoc seen (row ∷ []) left)) leads.1 (omega arith) in
    ap (λ (first : Option Row). row_first first (rows_from steps (after_at cells (after_at cells start)) cells)) some ∙ ap (λ (rest : List Row). row ∷ rest) (ap (λ (at : ℕ). rows_from steps (after_at cells at) cells) leads.0 ∙ next)

pub rows_are : (mark : ℕ) (cells : List Cell) (rows : List Row) → IsLinked mark cells rows → rows_of mark cells ≡ rows
unfolding rows_of
rows_are mark cells rows linked = met mark cells rows [] rows mark mark linked refl (leads_round (after_at cells) mark rows linked.forth) linked.are.few

-- so that whatever rows are linked, those are that the cells are seen as
pub linked_as_seen : (mark : ℕ) (cells : List Cell) (rows : List Row) → IsLinked mark cells rows → IsLinked mark cells (rows_of mark cells)
linked_as_seen mark cells rows linked = subst (IsLinked mark cells) (sym (rows_are mark cells rows linked)) linked

-- The first row and the last

pub tail_found : (mark : ℕ) (cells : List Cell) (rows : List Row) → IsLinked mark cells rows → row_at cells (before_at cells mark) ≡ tail_row rows
tail_found mark cells rows linked =
    let split : rows ≡ reverse (reverse rows) ++ [] = sym (append-nil (reverse (reverse rows)) ∙ reverse-reverse rows) in
    ap (row_at cells) (leads_first (before_at cells) mark (reverse rows) mark (leads_round (before_at cells) mark (reverse rows) linked.back)) ∙ linked.its_row (first_cell (reverse rows) mark) ∙ first_before mark rows (reverse rows) [] linked.are split

-- The rows beside that of an element

-- an element whose cell has a row stands in the list
pub there : (mark : ℕ) (cells : List Cell) (rows : List Row) (e : ℕ) → IsLinked mark cells rows → IsSome (row_at cells e) → IsIn e (elements_of rows)
there mark cells rows e linked listed = (row_present e rows).0 (subst IsSome (linked.its_row e) listed)

not_some : (found : Option Row) → found ≡ None → IsSome found → ⊥
not_some None none some = absurd cc
not_some (Some row) none some = absurd cc

pub absent : (mark : ℕ) (cells : List Cell) (rows : List Row) (e : ℕ) → IsLinked mark cells rows → row_at cells e ≡ None → times e (elements_of rows) ≡ 0
absent mark cells rows e linked none =
    elim (cases_lt 0 (times e (elements_of rows))) [
      | inl is_in ↦ absurd (not_some (row_of e rows) (sym (linked.its_row e) ∙ none) ((row_present e rows).1 is_in))
      | inr nowhere ↦ omega arith
    ]

pub reverse_links : (mark : ℕ) (cells : List Cell) (rows front : List Row) (row : Row) (back : List Row) → IsLinked mark cells rows → rows ≡ front ++ row ∷ back → Leads (before_at cells) mark (reverse back ++ row ∷ reverse front) mark
reverse_links mark cells rows front row back linked split =
    subst (λ (xs : List Row). Leads (before_at cells) mark xs mark) (ap reverse split ∙ around front back row) (leads_round (before_at cells) mark (reverse rows) linked.back)

pub links : (mark : ℕ) (cells : List Cell) (rows front : List Row) (row : Row) (back : List Row) → IsLinked mark cells rows → rows ≡ front ++ row ∷ back → Leads (after_at cells) mark (front ++ row ∷ back) mark
links mark cells rows front row back linked split =
    subst (λ (xs : List Row). Leads (after_at cells) mark xs mark) split (leads_round (after_at cells) mark rows linked.forth)

pub before_found : (mark : ℕ) (cells : List Cell) (rows : List Row) (e : ℕ) → IsLinked mark cells rows → IsSome (row_at cells e) → row_at cells (before_at cells e) ≡ row_before e rows
before_found mark cells rows e linked listed =
    let parts = splits e rows (there mark cells rows e linked listed) in
    let front = parts.0 in
    let its = parts.1 in
    let back = parts.2 in
    let split : rows ≡ front ++ its ∷ back = parts.3.around in
    let to : before_at cells its.element ≡ first_cell (reverse front) mark =
    leads_at (before_at cells) mark (reverse back) its (reverse front) mark (reverse_links mark cells rows front its back linked split) in
    let behind : rows ≡ reverse (reverse front) ++ its ∷ back = split ∙ ap (λ (xs : List Row). xs ++ its ∷ back) (sym (reverse-reverse front)) in
    let word : row_before e rows ≡ head_row (reverse front) =
    ap (row_before e) split ∙ row_before_split e front its back parts.3.not_before parts.3.its ∙ ap (last_from None) (sym (reverse-reverse front)) ∙ last_of_reverse (reverse front) in
    ap (λ (x : ℕ). row_at cells (before_at cells x)) (sym parts.3.its) ∙ ap (row_at cells) to ∙ linked.its_row (first_cell (reverse front) mark) ∙ first_before mark rows (reverse front) (its ∷ back) linked.are behind ∙ sym word

pub after_found : (mark : ℕ) (cells : List Cell) (rows : List Row) (e : ℕ) → IsLinked mark cells rows → IsSome (row_at cells e) → row_at cells (after_at cells e) ≡ row_after e rows
after_found mark cells rows e linked listed =
    let parts = splits e rows (there mark cells rows e linked listed) in
    let front = parts.0 in
    let its = parts.1 in
    let back = parts.2 in
    let split : rows ≡ front ++ its ∷ back = parts.3.around in
    let to : after_at cells its.element ≡ first_cell back mark =
    leads_at (after_at cells) mark front its back mark (links mark cells rows front its back linked split) in
    let behind : rows ≡ (front ++ its ∷ []) ++ back = split ∙ sym (append_assoc front (its ∷ []) back) in
    let word : row_after e rows ≡ head_row back =
    ap (row_after e) split ∙ row_after_split e front its back parts.3.not_before parts.3.its in
    ap (λ (x : ℕ). row_at cells (after_at cells x)) (sym parts.3.its) ∙ ap (row_at cells) to ∙ linked.its_row (first_cell back mark) ∙ first_behind mark rows (front ++ its ∷ []) back linked.are behind ∙ sym word

-- On the way over the rows

pub met_next : (mark : ℕ) (cells : List Cell) (rows : List Row) (i at : ℕ) (told new : List ℕ) → IsLinked mark cells rows → i < length rows → told ≡ elements_of (take i rows) → at ≡ first_cell (drop i rows) mark → new ≡ told ++ at ∷ [] → (new ≡ elements_of (take (i + 1) rows)) × (after_at cells at ≡ first_cell (drop (i + 1) rows) mark)
met_next mark cells rows i at told new linked within is_told is_at is_new =
    let row = get_or rows i some_row in
    let rest : drop i rows ≡ row ∷ drop (i + 1) rows = drop-cons rows i some_row within ∙ ap (λ (n : ℕ). row ∷ drop n rows) (let one : suc i ≡ i + 1 = omega arith in one) in
    let split : rows ≡ take i rows ++ row ∷ drop (i + 1) rows = sym (take-append-drop i rows) ∙ ap (λ (xs : List Row). take i rows ++ xs) rest in
    let its : at ≡ row.element = is_at ∙ ap (λ (xs : List Row). first_cell xs mark) rest in (
      is_new ∙ ap (λ (xs : List ℕ). xs ++ at ∷ []) is_told ∙ ap (λ (x : ℕ). elements_of (take i rows) ++ x ∷ []) its ∙ sym (ap elements_of (take_more rows i some_row within) ∙ elements_append (take i rows) (row ∷ [])),
      ap (after_at cells) its ∙ leads_at (after_at cells) mark (take i rows) row (drop (i + 1) rows) mark (links mark cells rows (take i rows) row (drop (i + 1) rows) linked split),
    )
