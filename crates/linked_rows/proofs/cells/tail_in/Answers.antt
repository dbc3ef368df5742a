use Rattle.std.proofs.Common.{◌∙◌}
use Rattle.linked_rows.specs.Cells.{rows_of}
use Rattle.linked_rows.proofs.FoundLemmas.{tail_found}
use Rattle.linked_rows.proofs.cells.tail_in.Goals as goal

pub returns : goal.returns
returns c = c.row_in.ensures ∙ tail_found c.args.mark c.args.cells.now (rows_of c.args.mark c.args.cells.now) c.requires
