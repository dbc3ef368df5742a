use Rattle.linked_rows.specs.Cells.{rows_of}
use Rattle.linked_rows.proofs.ChangeLemmas.{pushed}
use Rattle.linked_rows.proofs.cells.put_first.Goals as goal

pub returns : goal.returns
returns c =
    pushed c.args.mark c.args.cells.now c.write.new.cells c.join.new.cells c.join-2.new.cells (rows_of c.args.mark c.args.cells.now) c.args.row c.requires.linked c.requires.room c.requires.below c.requires.absent c.write.ensures c.join.ensures c.join-2.ensures
