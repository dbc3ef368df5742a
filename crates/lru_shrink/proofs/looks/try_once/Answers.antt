use Rattle.lru_shrink.proofs.StackLemmas.{stacked_one}
use Rattle.lru_shrink.proofs.looks.try_once.Goals as goal

pub returns-in-Removed-clause-out : goal.returns-in-Removed-clause-out
returns-in-Removed-clause-out g c =
    stacked_one (g.P.Bits.gives c.evict.new.self) c.args.row.element c.in-Removed.body c.args.out.now c.push.new.self
    c.in-Removed.ensures.body c.in-Removed.ensures.given c.requires.room c.push.ensures
