use Rattle.std.proofs.Common.{arith}
use Rattle.place_table.proofs.HomeSteps.{rehomes}
use Rattle.place_table.proofs.homes.rehome_word.Goals as goal

pub store-requires : goal.store-requires
store-requires g c =
    let w = c.requires.words in let way = c.requires.way in let at = c.requires.element in (
      c.requires.table,
      omega (arith, w.0, w.1, at.1),
      rw (way.0, way.1) (rehomes _ _ _ _ c.args.cpu c.args.element _ _ c.requires.home.0 c.args.to w.1 c.home_code.ensures.exact at.0 at.1 c.requires.cpu c.requires.home.1 c.requires.goes c.requires.unread c.requires.around),
    )
