use Rattle.std.proofs.Common.{ap, ◌∙◌}
use Rattle.map_types.specs.Stored.{Stored}
use Rattle.lru_ops.proofs.PackedParts.{theft_packed}
use Rattle.lru_ops.proofs.StolenFree.{may_carry, may_give_free, free_stolen}
use Rattle.lru_ops.proofs.StolenPending.{may_search, may_give_found, found_stolen}
use Rattle.lru_ops.proofs.steal.steal_from.Goals as goal

pub rehome-requires : goal.rehome-requires
rehome-requires g c =
    may_carry c.requires.evicts c.requires.can c.requires.there c.in-Local.is c.take.ensures c.in-Some.ensures.top c.pop_free.ensures.exact c.pop_free.ensures.whole
    (c.element-element.ensures ∙ ap (λ (z : Stored). z.element) c.body.ensures) c.cpu_of-cpu.ensures.value c.claim.ensures

pub give-requires-after_bounds : goal.give-requires-after_bounds
give-requires-after_bounds g c κs within =
    may_give_free c.requires.evicts c.requires.can c.requires.there c.in-Local.is c.take.ensures c.in-Some.ensures.top c.pop_free.ensures.exact c.pop_free.ensures.whole
    (c.element-element.ensures ∙ ap (λ (z : Stored). z.element) c.body.ensures) c.cpu_of-cpu.ensures.value c.claim.ensures c.rehome.ensures c.steal_free.ensures

pub returns-in-Some : goal.returns-in-Some
returns-in-Some g c =
    free_stolen c.requires.evicts c.requires.can c.requires.there c.in-Local.is c.take.ensures c.in-Some.ensures.top c.pop_free.ensures.exact c.pop_free.ensures.whole
    (c.element-element.ensures ∙ ap (λ (z : Stored). z.element) c.body.ensures) c.cpu_of-cpu.ensures.value c.claim.ensures c.rehome.ensures c.steal_free.ensures c.give.ensures

pub search-got-requires-clause-can : goal.search-got-requires-clause-can
search-got-requires-clause-can g c κs within =
    may_search c.requires.evicts c.requires.can c.requires.there c.in-Local.is c.take.ensures c.in_default-pop_free.ensures.top c.pop_free.ensures.exact

pub give-requires-2-after_bounds : goal.give-requires-2-after_bounds
give-requires-2-after_bounds g c κs within =
    may_give_found c.requires.evicts c.requires.can c.requires.there c.in-Local.is c.take.ensures c.in_default-pop_free.ensures.top c.pop_free.ensures.exact
    c.packed_part-part.result c.empty-first.ensures c.empty-second.ensures c.search-got.ensures c.stolen_of.ensures (theft_packed _ _ _ _ _ c.steal_part.ensures.told c.packed_part-part.ensures)

pub returns : goal.returns
returns g c =
    found_stolen c.requires.evicts c.requires.can c.requires.there c.in-Local.is c.take.ensures c.in_default-pop_free.ensures.top c.pop_free.ensures.exact
    c.packed_part-part.result c.empty-first.ensures c.empty-second.ensures c.search-got.ensures c.stolen_of.ensures (theft_packed _ _ _ _ _ c.steal_part.ensures.told c.packed_part-part.ensures) c.give-2.ensures
