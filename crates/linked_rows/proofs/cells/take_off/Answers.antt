use Rattle.linked_rows.specs.Cells.{rows_of}
use Rattle.linked_rows.proofs.ChangeLemmas.{taken_out}
use Rattle.linked_rows.proofs.cells.take_off.Goals as goal

pub returns : goal.returns
returns c =
    taken_out c.args.mark c.args.cells.now c.join.new.cells c.clear.new.cells (rows_of c.args.mark c.args.cells.now) c.args.element c.requires.linked c.requires.listed c.join.ensures c.clear.ensures
