use Rattle.place_core.specs.Answers.{view_of}
use Rattle.place_core.proofs.HeldLemmas.{did_clear}
use Rattle.place_core.proofs.rehome.clear.Goals as goal

pub returns : goal.returns
returns c =
    did_clear (view_of c.args.cells.now) c.args.cpu c.args.element c.index-owner.result.now c.index-home.result.now c.requires c.if-cpu-cells.false c.if-element-cells.false c.index-owner.ensures c.index-home.ensures c.if-not-may_clear.ensures
