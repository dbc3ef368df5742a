use Rattle.std.proofs.Common.{arith}
use Rattle.place_table.proofs.OwnerSteps.{detaches}
use Rattle.place_table.proofs.owners.detach_word.Goals as goal

pub store-requires : goal.store-requires
store-requires g c =
    let w = c.requires.words in let at = c.requires.bucket in (
      c.requires.table,
      omega (arith, w.0, w.1, c.requires.element),
      detaches _ _ _ _ c.args.element c.args.bucket c.args.cpu _ _ at.0 _ w.1 c.owner_code.ensures.exact at.3 c.requires.deed at.1 at.2 at.4 c.requires.unread c.requires.around,
    )
