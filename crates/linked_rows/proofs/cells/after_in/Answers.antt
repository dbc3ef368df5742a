use Rattle.std.proofs.Common.{refl, sym, ◌∙◌, subst}
use Rattle.std.specs.Prelude.{IsSome}
use Rattle.linked_rows.specs.Cells.{rows_of}
use Rattle.row_list.proofs.RowLemmas.{row_after_absent}
use Rattle.linked_rows.proofs.FoundLemmas.{after_found, absent}
use Rattle.linked_rows.proofs.cells.after_in.Goals as goal

pub returns-in_err-row_in : goal.returns-in_err-row_in
returns-in_err-row_in c =
    let rows = rows_of c.args.mark c.args.cells.now in
    c.from_residual.ensures ∙ sym (row_after_absent c.args.element rows (absent c.args.mark c.args.cells.now rows c.args.element c.requires (sym c.in_err-row_in.ensures)))

pub returns : goal.returns
returns c =
    c.row_in-2.ensures ∙ after_found c.args.mark c.args.cells.now (rows_of c.args.mark c.args.cells.now) c.args.element c.requires (subst IsSome c.in_ok-row_in.ensures refl)
