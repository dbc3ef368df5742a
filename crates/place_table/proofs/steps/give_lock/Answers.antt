use Rattle.std.proofs.Common.{arith}
use Rattle.place_table.proofs.GivenBack.{gives_at}
use Rattle.place_table.proofs.steps.give_lock.Goals as goal

pub store-requires : goal.store-requires
store-requires g c =
    let m = c.requires.may in (
      c.requires.table,
      omega (arith, c.requires.words, c.requires.lock.0),
      gives_at _ _ _ _ m.0 m.1 m.2 m.3 _ g.N.Turn.entry g.N.Turn.kept m.4 m.5 m.6 c.requires.lock.1 m.7,
    )
