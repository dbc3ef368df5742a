use Rattle.std.proofs.Common.{arith}
use Rattle.std.proofs.lemmas.List.{take_rest}
use Rattle.run_ends.proofs.Io.{Adds-take}
use Rattle.run_ends.proofs.delivery.deliver.Goals as goal

pub loop-done-preserved : goal.loop-done-preserved
loop-done-preserved g c =
    let added = rw take_rest at c.in_ok-done.ensures.added in
    (grind arith, Adds-take _ _ _ _ _ _ c.loop-done.invariant.1 added, grind arith)
