use Rattle.std.proofs.Common.{ap, sym, ◌∙◌, subst, List, Option}
use Rattle.map_types.specs.ElementLists.{IsIn, IsHead}
use Rattle.map_types.specs.declared.row.Row.{Row}
use Rattle.map_types.specs.Listed.{elements_of}
use Rattle.row_list.specs.RowWords.{row_before}
use Rattle.row_list.proofs.RowLemmas.{HasSome, before_present}
use Rattle.linked_rows.specs.declared.cells.Cell.{Cell}
use Rattle.linked_rows.specs.Cells.{rows_of}
use Rattle.linked_rows.proofs.linked.LinkedRowsRows.before.Goals as goal

pub returns-clause-present : goal.returns-clause-present
returns-clause-present c =
    let list = c.args.self.now in
    let rows = rows_of list.bound list.cells.items in
    let is = c.before_in.ensures ∙ ap (λ (cells : List Cell). row_before c.args.element (rows_of list.bound cells)) c.deref.ensures.value in
    subst (λ (found : Option Row). HasSome found (IsIn c.args.element (elements_of rows) × (¬ IsHead c.args.element (elements_of rows)))) (sym is) (before_present c.args.element rows)
