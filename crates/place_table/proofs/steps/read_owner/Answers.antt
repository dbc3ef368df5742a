use Rattle.std.proofs.Common.{arith}
use Rattle.place_table.proofs.WordSteps.{sees_owner}
use Rattle.place_table.proofs.steps.read_owner.Goals as goal

pub load-requires : goal.load-requires
load-requires g c =
    let w = c.requires.words in (
      c.requires.table,
      omega (arith, w.0, w.1, c.requires.element.0),
      rw c.requires.element.1 (sees_owner _ _ _ _ c.args.element _ w.1 c.requires.element.0 c.requires.unread),
    )
