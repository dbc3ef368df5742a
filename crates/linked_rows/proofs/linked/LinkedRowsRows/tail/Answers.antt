use Rattle.std.proofs.Common.{◌≢◌, ap, sym, ◌∙◌, subst, List, [], Option}
use Rattle.map_types.specs.declared.row.Row.{Row}
use Rattle.row_list.specs.RowWords.{tail_row}
use Rattle.row_list.proofs.RowLemmas.{HasSome, tail_present}
use Rattle.linked_rows.specs.declared.cells.Cell.{Cell}
use Rattle.linked_rows.specs.Cells.{rows_of}
use Rattle.linked_rows.proofs.linked.LinkedRowsRows.tail.Goals as goal

pub returns-clause-present : goal.returns-clause-present
returns-clause-present c =
    let list = c.args.self.now in
    let rows = rows_of list.bound list.cells.items in
    let is = c.tail_in.ensures ∙ ap (λ (cells : List Cell). tail_row (rows_of list.bound cells)) c.deref.ensures.value in
    subst (λ (found : Option Row). HasSome found (rows ≢ [])) (sym is) (tail_present rows)
