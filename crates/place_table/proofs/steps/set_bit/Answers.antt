use Rattle.std.proofs.Common.{arith}
use Rattle.place_table.proofs.WordSteps.{marks}
use Rattle.place_table.proofs.steps.set_bit.Goals as goal

pub store-requires : goal.store-requires
store-requires g c =
    let w = c.requires.words in let b = c.requires.bucket in (
      c.requires.table,
      omega (arith, w.0, w.1, c.requires.element.0),
      rw c.requires.element.1 (marks _ _ _ _ c.args.element c.args.bucket _ b.0 w.1 b.1 b.2 b.3),
    )
