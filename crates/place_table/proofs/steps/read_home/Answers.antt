use Rattle.std.proofs.Common.{arith}
use Rattle.place_table.proofs.HomeSteps.{sees_home}
use Rattle.place_table.proofs.steps.read_home.Goals as goal

pub load-requires : goal.load-requires
load-requires g c =
    let w = c.requires.words in (
      c.requires.table,
      omega (arith, w.0, w.1, c.requires.element.0),
      rw c.requires.element.1 (sees_home _ _ _ _ c.args.element _ w.1 c.requires.element.0),
    )
