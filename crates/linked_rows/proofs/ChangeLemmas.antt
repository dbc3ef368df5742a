-- What the cells of a list are linked as after a change.
use Rattle.std.proofs.Common.{◌≡◌, ◌≢◌, ℕ, ◌+◌, ◌<◌, ◌≤◌, cond, List, [], ◌∷◌, ◌++◌, length, reverse, Some, None, ap, sym, ◌∙◌, subst, arith}
use Rattle.std.specs.Prelude.{IsSome}
use Rattle.std.proofs.lemmas.List.{reverse-reverse, reverse-append}
use Rattle.std.proofs.lemmas.Grind.{reverse_onto}
use Rattle.map_types.specs.ElementLists.{times}
use Rattle.map_types.specs.declared.row.Row.{Row}
use Rattle.map_types.specs.Listed.{elements_of}
use Rattle.map_types.proofs.RowLemmas.{by_test}
use Rattle.row_list.specs.RowWords.{row_of, without_row, spare_of}
use Rattle.row_list.proofs.ElementLemmas.{times_elsewhere, absent_parts}
use Rattle.row_list.proofs.RowLemmas.{row_of_absent, gone_without, without_are_rows, without_split, length_without, times_rows_reverse, splits}
use Rattle.row_list.proofs.PlainLemmas.{around}
use Rattle.linked_rows.specs.declared.cells.Cell.{Cell}
use Rattle.linked_rows.specs.Cells.{after_at, before_at, row_at, rows_of, IsRing, IsLinked, IsPut, Joins, Keeps}
use Rattle.linked_rows.proofs.LeadLemmas.{Leads, leads_round, is_ring, AreOnce, first_cell, last_cell, last_is_first, leads_first, leads_at, leads_without, leads_with_first, leads_with_last}
use Rattle.linked_rows.proofs.ListLemmas.{once_in_ring, once_in_reverse, apart, are_with, row_of_kept}
use Rattle.linked_rows.proofs.FoundLemmas.{there, links, reverse_links}

put_within : (f g : ℕ → ℕ) (at value mark : ℕ) → IsPut f at value g → ((x : ℕ) → f x ≤ mark) → value ≤ mark → (x : ℕ) → g x ≤ mark
put_within f g at value mark put within small x =
    by_test x at (λ _. g x ≤ mark) (λ is. let same = ap g is ∙ put.there in omega arith) (λ other. let same = put.elsewhere x other in let old = within x in omega arith)

-- One row more, at the head

pub pushed : (mark : ℕ) (c0 c1 c2 c3 : List Cell) (rows : List Row) (row : Row) → IsLinked mark c0 rows → 1 ≤ spare_of mark rows → row.element < mark → times row.element (elements_of rows) ≡ 0 → Keeps row.element (Some row) c0 c1 → Joins mark row.element c1 c2 → Joins row.element (after_at c0 mark) c2 c3 → IsLinked mark c3 (row ∷ rows)
pushed mark c0 c1 c2 c3 rows row linked spare below none kept first second =
    let e = row.element in
    let next = after_at c0 mark in
    let forth_old = leads_round (after_at c0) mark rows linked.forth in
    let back_old = leads_round (before_at c0) mark (reverse rows) linked.back in
    let next_is : next ≡ first_cell rows mark = leads_first (after_at c0) mark rows mark forth_old in
    let last_is : next ≡ last_cell mark (reverse rows) =
    next_is ∙ sym (last_is_first mark (reverse rows) ∙ ap (λ (xs : List Row). first_cell xs mark) (reverse-reverse rows)) in
    let e_is_not_mark : mark ≢ e = λ is. absurd (omega arith) in
    let e_is_not_next : next ≢ e = λ is. not_first (λ same. e_is_not_mark same) (sym next_is ∙ is) in
    let forth : Leads (after_at c3) mark (row ∷ rows) mark =
    leads_with_first (after_at c0) (after_at c3) mark row rows mark (once_in_ring mark rows linked.are) none
    (second.after.elsewhere mark e_is_not_mark ∙ first.after.there)
    second.after.there
    (λ x not_mark not_e. second.after.elsewhere x not_e ∙ first.after.elsewhere x not_mark ∙ kept.after x)
    forth_old in
    let absent : times e (mark ∷ elements_of (reverse rows)) ≡ 0 =
    times_elsewhere mark e (elements_of (reverse rows)) e_is_not_mark ∙ times_rows_reverse e rows ∙ none in
    let back : Leads (before_at c3) mark (reverse rows ++ row ∷ []) mark =
    leads_with_last (before_at c0) (before_at c3) mark (reverse rows) row mark (once_in_reverse mark rows linked.are) absent
    (ap (before_at c3) (sym last_is) ∙ second.before.there)
    (second.before.elsewhere e (λ is. e_is_not_next (sym is)) ∙ first.before.there)
    (λ x not_last not_e. second.before.elsewhere x (λ is. not_last (is ∙ last_is)) ∙ first.before.elsewhere x not_e ∙ kept.before x)
    back_old in
    record {
      are = are_with mark row rows linked.are spare below none;
      all = second.long ∙ first.long ∙ kept.long ∙ linked.all;
      its_row = λ x. second.rows x ∙ first.rows x ∙ its x;
      forth = is_ring (after_at c3) mark (row ∷ rows) forth;
      back = subst (IsRing (before_at c3) mark) (sym (reverse_onto rows row [])) (is_ring (before_at c3) mark (reverse rows ++ row ∷ []) back);
      within = λ x. (
        put_within (after_at c2) (after_at c3) e next mark second.after (put_within (after_at c1) (after_at c2) mark e mark first.after (λ y. let same = kept.after y in let old = (linked.within y).0 in omega arith) (omega arith)) (linked.within mark).0 x,
        put_within (before_at c2) (before_at c3) next e mark second.before (put_within (before_at c1) (before_at c2) e mark mark first.before (λ y. let same = kept.before y in let old = (linked.within y).1 in omega arith) (omega arith)) (omega arith) x,
      );
    }
  where
    its : (x : ℕ) → row_at c1 x ≡ row_of x (row ∷ rows)
    its x =
        by_test row.element x (λ b. row_at c1 x ≡ cond b (Some row) (row_of x rows))
        (λ is. ap (row_at c1) (sym is) ∙ kept.there)
        (λ other. kept.elsewhere x (λ is. other (sym is)) ∙ linked.its_row x)

    not_first : (mark ≢ row.element) → first_cell rows mark ≢ row.element
    not_first other = elim rows as (λ (xs : List Row). times row.element (elements_of xs) ≡ 0 → first_cell xs mark ≢ row.element) [
      | [] ↦ λ _. other
      | y ∷ ys ↦ λ gone. (absent_parts y.element row.element (elements_of ys) gone).0
    ] none

-- One row less

pub taken_out : (mark : ℕ) (c0 c1 c2 : List Cell) (rows : List Row) (e : ℕ) → IsLinked mark c0 rows → IsSome (row_at c0 e) → Joins (before_at c0 e) (after_at c0 e) c0 c1 → Keeps e None c1 c2 → IsLinked mark c2 (without_row e rows)
taken_out mark c0 c1 c2 rows e linked listed joined kept =
    let parts = splits e rows (there mark c0 rows e linked listed) in
    let front = parts.0 in
    let its = parts.1 in
    let back = parts.2 in
    let split : rows ≡ front ++ its ∷ back = parts.3.around in
    let is : its.element ≡ e = parts.3.its in
    let alone = apart mark rows front its back linked.are split in
    let left : without_row e rows ≡ front ++ back =
    ap (without_row e) split ∙ without_split e front its back parts.3.not_before is (ap (λ (n : ℕ). times n (elements_of back)) (sym is) ∙ alone.1) in
    let forth_old = links mark c0 rows front its back linked split in
    let back_old = reverse_links mark c0 rows front its back linked split in
    let after_is : after_at c0 e ≡ first_cell back mark = ap (after_at c0) (sym is) ∙ leads_at (after_at c0) mark front its back mark forth_old in
    let before_is : before_at c0 e ≡ first_cell (reverse front) mark = ap (before_at c0) (sym is) ∙ leads_at (before_at c0) mark (reverse back) its (reverse front) mark back_old in
    let last_before : before_at c0 e ≡ last_cell mark front = before_is ∙ sym (last_is_first mark front) in
    let last_after : after_at c0 e ≡ last_cell mark (reverse back) =
    after_is ∙ sym (last_is_first mark (reverse back) ∙ ap (λ (xs : List Row). first_cell xs mark) (reverse-reverse back)) in
    let forth : Leads (after_at c2) mark (front ++ back) mark =
    leads_without (after_at c0) (after_at c2) mark front its back mark (subst (AreOnce mark) split (once_in_ring mark rows linked.are))
    (ap (after_at c2) (sym last_before) ∙ kept.after (before_at c0 e) ∙ joined.after.there ∙ ap (after_at c0) (sym is))
    (λ x other. kept.after x ∙ joined.after.elsewhere x (λ same. other (same ∙ last_before)))
    forth_old in
    let backwards : Leads (before_at c2) mark (reverse back ++ reverse front) mark =
    leads_without (before_at c0) (before_at c2) mark (reverse back) its (reverse front) mark (subst (AreOnce mark) (ap reverse split ∙ around front back its) (once_in_reverse mark rows linked.are))
    (ap (before_at c2) (sym last_after) ∙ kept.before (after_at c0 e) ∙ joined.before.there ∙ ap (before_at c0) (sym is))
    (λ x other. kept.before x ∙ joined.before.elsewhere x (λ same. other (same ∙ last_after)))
    back_old in
    record {
      are = without_are_rows e mark rows linked.are;
      all = kept.long ∙ joined.long ∙ linked.all;
      its_row = its_row;
      forth = subst (IsRing (after_at c2) mark) (sym left) (is_ring (after_at c2) mark (front ++ back) forth);
      back = subst (IsRing (before_at c2) mark) (sym (ap reverse left ∙ reverse-append front back)) (is_ring (before_at c2) mark (reverse back ++ reverse front) backwards);
      within = λ x. (
        let old = put_within (after_at c0) (after_at c1) (before_at c0 e) (after_at c0 e) mark joined.after (λ y. (linked.within y).0) (linked.within e).0 x in let same = kept.after x in omega arith,
        let old = put_within (before_at c0) (before_at c1) (after_at c0 e) (before_at c0 e) mark joined.before (λ y. (linked.within y).1) (linked.within e).1 x in let same = kept.before x in omega arith,
      );
    }
  where
    its_row : (x : ℕ) → row_at c2 x ≡ row_of x (without_row e rows)
    its_row x =
        by_test x e (λ _. row_at c2 x ≡ row_of x (without_row e rows))
        (λ same. ap (row_at c2) same ∙ kept.there ∙ sym (ap (λ (n : ℕ). row_of n (without_row e rows)) same ∙ row_of_absent e (without_row e rows) (gone_without e rows)))
        (λ other. kept.elsewhere x other ∙ joined.rows x ∙ linked.its_row x ∙ sym (row_of_kept x e rows other))

-- The cells that a list holds after a change, seen as its rows

pub now_linked : (mark : ℕ) (items old now after : List Cell) (change : List Row → List Row) → after ≡ now → old ≡ items → IsLinked mark now (change (rows_of mark old)) → IsLinked mark after (change (rows_of mark items))
now_linked mark items old now after change held value linked =
    subst (λ (cells : List Cell). IsLinked mark after (change (rows_of mark cells))) value (subst (λ (cells : List Cell). IsLinked mark cells (change (rows_of mark old))) (sym held) linked)

-- one row less is one less to count
pub one_less : (mark : ℕ) (cells : List Cell) (rows : List Row) (e : ℕ) → IsLinked mark cells rows → IsSome (row_at cells e) → length (without_row e rows) + 1 ≡ length rows
one_less mark cells rows e linked listed =
    let one = length_without e rows in
    let is_in = there mark cells rows e linked listed in
    let once = linked.are.once e in
    omega arith
