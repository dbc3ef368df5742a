use Rattle.std.proofs.Common.{arith}
use Rattle.place_table.proofs.OwnerSteps.{claims}
use Rattle.place_table.proofs.owners.claim_word.Goals as goal

pub store-requires : goal.store-requires
store-requires g c =
    let w = c.requires.words in let at = c.requires.lock in (
      c.requires.table,
      omega (arith, w.0, w.1, c.requires.element),
      claims _ _ _ _ c.args.element c.args.cpu _ _ c.args.lock at.0 _ w.1 c.owner_code.ensures.exact at.3 c.requires.deed c.requires.element at.1 at.2 at.4 c.requires.unread c.requires.around,
    )
