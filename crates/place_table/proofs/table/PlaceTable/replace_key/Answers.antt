use Rattle.std.proofs.Common.{ℕ, ◌<◌, ap, sym, subst, ◌∙◌}
use Rattle.map_types.specs.Shape.{HasBounds}
use Rattle.map_types.specs.Stored.{Stored}
use Rattle.place_table.specs.BucketPuts.{asked_of}
use Rattle.place_table.proofs.BucketOut.{bounds_here}
use Rattle.place_table.proofs.BucketPuts.{can_attach_offered, can_mark_new, can_detach_was, replaces_it}
use Rattle.place_table.proofs.PartsMade.{made_part}
use Rattle.place_table.proofs.table.PlaceTable.replace_key.Goals as goal

pub fill_body-requires-clause-bounds : goal.fill_body-requires-clause-bounds
fill_body-requires-clause-bounds g c = subst HasBounds (sym c.shape-shape.ensures) (bounds_here _ _ c.self.view_is c.self.invariant.2)

pub attach-requires : goal.attach-requires
attach-requires g c =
    let e_is = c.element-new.ensures ∙ ap (λ (z : Stored). z.element) (c.body.ensures ∙ c.fill_body.ensures.stored) in
    can_attach_offered c.requires.holds c.element-new.result c.requires.offered e_is

pub mark_on-requires : goal.mark_on-requires
mark_on-requires g c lru =
    let a = c.args in
    let e_is = c.element-new.ensures ∙ ap (λ (z : Stored). z.element) (c.body.ensures ∙ c.fill_body.ensures.stored) in
    let real = subst (λ (n : ℕ). n < a.self.now.shape.elements) (sym e_is) (c.cpu_of-cpu.ensures.real a.body.element c.requires.offered.in_hand) in
    can_mark_new c.requires.holds c.element-new.result c.attach.new.pass c.attach.ensures real

pub detach-requires : goal.detach-requires
detach-requires g c =
    let old_is = c.element-old.ensures ∙ ap (λ (z : Stored). z.element) c.body-2.ensures in
    can_detach_was c.requires.holds c.element-new.result c.attach.new.pass c.attach.ensures c.mark_on.new.pass c.mark_on.ensures c.fill_body.new.body.key c.replace_head-replaced.result c.element-old.result c.replace_head-replaced.ensures.holder old_is

pub give-requires-after_bounds : goal.give-requires-after_bounds
give-requires-after_bounds g c κs within =
    let a = c.args in
    let asked = asked_of a.write.side a.write.flags a.write.key.now a.write.value.now c.offer_on.result in
    let e_is = c.element-new.ensures ∙ ap (λ (z : Stored). z.element) (c.body.ensures ∙ c.fill_body.ensures.stored) in
    let old_is = c.element-old.ensures ∙ ap (λ (z : Stored). z.element) c.body-2.ensures in
    (replaces_it a.taken.chain c.requires.holds asked c.shape-shape.ensures c.cpu_of-cpu.ensures.value a.body.element c.element-new.result e_is c.offer_on.ensures c.fill_body.new.body c.fill_body.ensures.stored c.fill_body.ensures.sized c.attach.new.pass c.attach.ensures
    c.mark_on.new.pass c.mark_on.ensures c.element-old.result c.detach.new.pass c.detach.ensures a.place c.replace_head-replaced.result c.replace_head-replaced.ensures.taken c.replace_head-replaced.ensures.holder old_is
    c.replace_head-replaced.new.self c.requires.single c.requires.replaces c.replace_head-replaced.ensures.of_key c.ok.result (made_part _ c.updated-part.result c.ok.ensures.value c.updated-part.ensures)).0

pub returns : goal.returns
returns g c =
    let a = c.args in
    let asked = asked_of a.write.side a.write.flags a.write.key.now a.write.value.now c.offer_on.result in
    let e_is = c.element-new.ensures ∙ ap (λ (z : Stored). z.element) (c.body.ensures ∙ c.fill_body.ensures.stored) in
    let old_is = c.element-old.ensures ∙ ap (λ (z : Stored). z.element) c.body-2.ensures in
    (replaces_it a.taken.chain c.requires.holds asked c.shape-shape.ensures c.cpu_of-cpu.ensures.value a.body.element c.element-new.result e_is c.offer_on.ensures c.fill_body.new.body c.fill_body.ensures.stored c.fill_body.ensures.sized c.attach.new.pass c.attach.ensures
    c.mark_on.new.pass c.mark_on.ensures c.element-old.result c.detach.new.pass c.detach.ensures a.place c.replace_head-replaced.result c.replace_head-replaced.ensures.taken c.replace_head-replaced.ensures.holder old_is
    c.replace_head-replaced.new.self c.requires.single c.requires.replaces c.replace_head-replaced.ensures.of_key c.ok.result (made_part _ c.updated-part.result c.ok.ensures.value c.updated-part.ensures)).1 c.give.new.pass c.give.ensures
