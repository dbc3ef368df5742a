use Rattle.std.proofs.Common.{◌∙◌, ap}
use Rattle.map_types.specs.Stored.{Stored}
use Rattle.lru_ops.proofs.MovedFree.{room_free, below_local, absent_local, may_go_local, moved_one}
use Rattle.lru_ops.proofs.refill.move_one.Goals as goal

pub rehome-requires : goal.rehome-requires
rehome-requires c = may_go_local c.requires.can c.in_ok-body.ensures.top (c.element-element.ensures ∙ ap (λ (z : Stored). z.element) c.body.ensures) c.cpu_of.ensures.value

pub push_free-requires-clause-room : goal.push_free-requires-clause-room
push_free-requires-clause-room c = room_free c.requires.can c.in_ok-body.ensures.top

pub push_free-requires-clause-below : goal.push_free-requires-clause-below
push_free-requires-clause-below c = below_local c.requires.can c.in_ok-body.ensures.top

pub push_free-requires-clause-absent : goal.push_free-requires-clause-absent
push_free-requires-clause-absent c = absent_local c.requires.can c.in_ok-body.ensures.top

pub returns : goal.returns
returns c =
    moved_one c.requires.can c.in_ok-body.ensures.top (c.element-element.ensures ∙ ap (λ (z : Stored). z.element) c.body.ensures) c.cpu_of.ensures.value c.rehome.ensures c.free_pop.ensures.exact c.free_pop.ensures.whole c.push_free.ensures.exact c.push_free.ensures.whole
