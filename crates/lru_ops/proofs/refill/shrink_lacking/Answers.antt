use Rattle.std.proofs.Common.{arith}
use Rattle.lru_ops.proofs.Lacking.{nothing_lacks, shrunk_lacking}
use Rattle.lru_ops.proofs.refill.shrink_lacking.Goals as goal

pub returns-then-target-eq0 : goal.returns-then-target-eq0
returns-then-target-eq0 g c = nothing_lacks c.args.tools.now.table.now c.args.set.now c.args.lists.now c.args.shrinking.now c.args.pass.now c.args.target c.if-target-eq0.true

pub returns : goal.returns
returns g c = shrunk_lacking c.args.target (omega (arith, c.if-target-eq0.false)) c.shrink_under.ensures
