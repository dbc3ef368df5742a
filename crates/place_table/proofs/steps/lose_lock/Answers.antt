use Rattle.std.proofs.Common.{arith}
use Rattle.place_table.proofs.GivenBack.{gives_some}
use Rattle.place_table.proofs.steps.lose_lock.Goals as goal

pub store-requires : goal.store-requires
store-requires g c =
    let m = c.requires.may in (
      c.requires.table,
      omega (arith, c.requires.words, c.requires.lock.0),
      gives_some _ _ _ _ m.0 m.1 m.2 _ g.N.Caller.cpu g.N.Caller.call m.3 m.4 m.5 m.6 m.7 m.8 c.requires.lock.1 m.9 m.10 m.11,
    )
