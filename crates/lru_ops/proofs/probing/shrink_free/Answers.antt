use Rattle.std.proofs.Common.{ap, ◌∙◌}
use Rattle.percpu_values.specs.BodyList.{BodyList}
use Rattle.lru_ops.proofs.SetWork.{freed_below, freed_absent}
use Rattle.lru_ops.proofs.probing.shrink_free.Goals as goal

pub swap_free-requires-2-clause-below : goal.swap_free-requires-2-clause-below
swap_free-requires-2-clause-below g c = freed_below c.shrink.ensures.shrink c.swap_free.ensures.whole (ap (λ (z : BodyList). z.bodies) c.swap_free.ensures.other ∙ c.requires.empty)

pub swap_free-requires-2-clause-absent : goal.swap_free-requires-2-clause-absent
swap_free-requires-2-clause-absent g c = freed_absent c.shrink.ensures.shrink c.swap_free.ensures.whole (ap (λ (z : BodyList). z.bodies) c.swap_free.ensures.other ∙ c.requires.empty)
