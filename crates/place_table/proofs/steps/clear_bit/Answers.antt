use Rattle.std.proofs.Common.{arith}
use Rattle.place_table.proofs.HomeSteps.{clears}
use Rattle.place_table.proofs.steps.clear_bit.Goals as goal

pub swap-requires : goal.swap-requires
swap-requires g c =
    let w = c.requires.words in let h = c.requires.hand in (
      c.requires.table,
      omega (arith, w.0, w.1, c.requires.element.0),
      rw c.requires.element.1 (clears _ _ _ _ c.args.element c.args.cpu _ w.1 c.requires.element.0 h.0 h.1),
    )
