use Rattle.std.proofs.Common.{◌≡◌, ◌∙◌, List, Option, Some, None, length, refl, ap, sym, subst, arith}
use Rattle.std.specs.Prelude.{IsSome}
use Rattle.std.proofs.lemmas.List.{with_items_is}
use Rattle.map_types.specs.ElementLists.{IsIn}
use Rattle.map_types.specs.declared.row.Row.{Row}
use Rattle.map_types.specs.Listed.{elements_of}
use Rattle.row_list.specs.RowWords.{without_row}
use Rattle.row_list.proofs.RowLemmas.{HasSome, row_present, row_of_absent, without_absent}
use Rattle.linked_rows.specs.declared.cells.Cell.{Cell}
use Rattle.linked_rows.specs.Cells.{row_at, rows_of}
use Rattle.linked_rows.proofs.FoundLemmas.{absent, rows_are, linked_as_seen}
use Rattle.linked_rows.proofs.ChangeLemmas.{now_linked, one_less}
use Rattle.linked_rows.proofs.linked.LinkedRowsRows.take_out.Goals as goal

pub returns-in_err-row-clause-present : goal.returns-in_err-row-clause-present
returns-in_err-row-clause-present c =
    let list = c.args.self.now in
    let rows = rows_of list.bound list.cells.items in
    let e = c.args.element in
    let none : row_at list.cells.items e ≡ None = sym (c.in_err-row.ensures ∙ ap (λ (cells : List Cell). row_at cells e) c.deref.ensures.value) in
    let is = c.from_residual.ensures ∙ sym (row_of_absent e rows (absent list.bound list.cells.items rows e list.linked none)) in
    subst (λ (found : Option Row). HasSome found (IsIn e (elements_of rows))) (sym is) (row_present e rows)

pub returns-in_err-row-clause-rows : goal.returns-in_err-row-clause-rows
returns-in_err-row-clause-rows c =
    let list = c.args.self.now in
    let rows = rows_of list.bound list.cells.items in
    let e = c.args.element in
    let none : row_at list.cells.items e ≡ None = sym (c.in_err-row.ensures ∙ ap (λ (cells : List Cell). row_at cells e) c.deref.ensures.value) in
    sym (without_absent e rows (absent list.bound list.cells.items rows e list.linked none))

pub invariant_of-self : goal.invariant_of-self
invariant_of-self c =
    let list = c.args.self.now in
    let rows = rows_of list.bound list.cells.items in
    let e = c.args.element in
    let now = c.take_off.new.cells in
    let long : length now ≡ list.cells.len = omega arith in
    let some : Some c.in_ok-row.row ≡ row_at list.cells.items e = c.in_ok-row.ensures ∙ ap (λ (cells : List Cell). row_at cells e) c.deref.ensures.value in
    let less = one_less list.bound list.cells.items rows e list.linked (subst IsSome some refl) in
    let linked = now_linked list.bound list.cells.items _ now _ (without_row e) (with_items_is list.cells now long) c.deref_mut.ensures.value c.take_off.ensures in
    let counted = ap (λ (xs : List Row). length xs) (rows_are list.bound _ _ linked) in
    record { linked = linked_as_seen list.bound _ _ linked; counted = (let was = list.counted in omega arith) }

pub returns-clause-present : goal.returns-clause-present
returns-clause-present c =
    let list = c.args.self.now in
    let rows = rows_of list.bound list.cells.items in
    let e = c.args.element in
    let some = c.in_ok-row.ensures ∙ ap (λ (cells : List Cell). row_at cells e) c.deref.ensures.value ∙ list.linked.its_row e in
    subst (λ (found : Option Row). HasSome found (IsIn e (elements_of rows))) (sym some) (row_present e rows)

pub returns-clause-rows : goal.returns-clause-rows
returns-clause-rows c =
    let list = c.args.self.now in
    let now = c.take_off.new.cells in
    let long : length now ≡ list.cells.len = omega arith in
    rows_are list.bound _ _ (now_linked list.bound list.cells.items _ now _ (without_row c.args.element) (with_items_is list.cells now long) c.deref_mut.ensures.value c.take_off.ensures)
