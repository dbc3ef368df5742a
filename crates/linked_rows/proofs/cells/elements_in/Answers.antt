use Rattle.std.proofs.Common.{◌<◌, length, arith}
use Rattle.linked_rows.specs.Cells.{rows_of}
use Rattle.linked_rows.proofs.FoundLemmas.{met_next}
use Rattle.linked_rows.proofs.cells.elements_in.Goals as goal

pub loop-preserved : goal.loop-preserved
loop-preserved c =
    let rows = rows_of c.args.mark c.args.cells.now in
    let so_far = c.loop.invariant in
    let within : c.loop.counter < length rows = omega arith in
    let next = met_next c.args.mark c.args.cells.now rows c.loop.counter c.loop.at c.loop.elements.items c.push.new.self.items c.requires.linked within so_far.told so_far.next c.in_ok-push.ensures.items in record {
      told = next.0;
      next = next.1;
      within = (c.requires.linked.within c.loop.at).0;
    }
