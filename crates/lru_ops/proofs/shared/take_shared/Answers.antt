use Rattle.lru_ops.proofs.TookShared.{may_steal_then, took_after}
use Rattle.lru_ops.proofs.shared.take_shared.Goals as goal

pub steal_round-requires-clause-can : goal.steal_round-requires-clause-can
steal_round-requires-clause-can g c κs within = may_steal_then c.requires.can c.in-Nothing.ensures.1

pub steal_round-requires-clause-below : goal.steal_round-requires-clause-below
steal_round-requires-clause-below g c κs within = c.in-Nothing.ensures.0

pub returns-in-Nothing : goal.returns-in-Nothing
returns-in-Nothing g c = took_after c.requires.can c.in-Nothing.ensures.1 c.steal_round.ensures
