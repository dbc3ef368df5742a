use Rattle.std.proofs.Common.{◌<◌, ◌^◌, ◌-◌, List, ◌∷◌, length, ap, sym, subst, ◌∙◌}
use Rattle.map_types.specs.Shape.{HasBounds}
use Rattle.map_types.specs.Stored.{Stored}
use Rattle.bucket_chain.specs.Places.{place_of_key}
use Rattle.place_table.specs.BucketPuts.{asked_of}
use Rattle.place_table.proofs.BucketBodies.{nowhere}
use Rattle.place_table.proofs.BucketOut.{bounds_here, few}
use Rattle.place_table.proofs.BucketPuts.{can_attach_offered, adds}
use Rattle.place_table.proofs.PartsMade.{made_part}
use Rattle.place_table.proofs.table.PlaceTable.add_key.Goals as goal

pub fill_body-requires-clause-bounds : goal.fill_body-requires-clause-bounds
fill_body-requires-clause-bounds g c = subst HasBounds (sym c.shape-shape.ensures) (bounds_here _ _ c.self.view_is c.self.invariant.2)

pub attach-requires : goal.attach-requires
attach-requires g c =
    let e_is = c.element-element.ensures ∙ ap (λ (z : Stored). z.element) (c.body.ensures ∙ c.fill_body.ensures.stored) in
    can_attach_offered c.requires.holds c.element-element.result c.requires.offered e_is

pub add_head-requires-clause-countable : goal.add_head-requires-clause-countable
add_head-requires-clause-countable g c = subst (λ (bodies : List Stored). length bodies < 2 ^ 32 - 1) (sym c.reserve_one.ensures.bodies) (few c.requires.holds (bounds_here _ _ c.self.view_is c.self.invariant.2))

pub add_head-requires-clause-absent : goal.add_head-requires-clause-absent
add_head-requires-clause-absent g c =
    (λ i. place_of_key (c.fill_body.ensures.stored i).key (c.reserve_one.ensures.bodies i)) ∙ nowhere c.args.write.key.now c.args.taken.chain.bodies c.requires.absent

pub give-requires-after_bounds : goal.give-requires-after_bounds
give-requires-after_bounds g c κs within =
    let a = c.args in
    let asked = asked_of a.write.side a.write.flags a.write.key.now a.write.value.now c.offer_on.result in
    let e_is = c.element-element.ensures ∙ ap (λ (z : Stored). z.element) (c.body.ensures ∙ c.fill_body.ensures.stored) in
    (adds a.taken.chain c.requires.holds asked c.shape-shape.ensures c.cpu_of-cpu.ensures.value a.body.element c.element-element.result e_is c.offer_on.ensures c.fill_body.new.body c.fill_body.ensures.stored c.fill_body.ensures.sized c.attach.new.pass c.attach.ensures
    c.add_head.new.self c.requires.absent c.requires.adds (c.add_head.ensures ∙ ap (λ (bodies : List Stored). c.fill_body.new.body ∷ bodies) c.reserve_one.ensures.bodies) c.ok.result (made_part _ c.updated-part.result c.ok.ensures.value c.updated-part.ensures)).0

pub returns : goal.returns
returns g c =
    let a = c.args in
    let asked = asked_of a.write.side a.write.flags a.write.key.now a.write.value.now c.offer_on.result in
    let e_is = c.element-element.ensures ∙ ap (λ (z : Stored). z.element) (c.body.ensures ∙ c.fill_body.ensures.stored) in
    (adds a.taken.chain c.requires.holds asked c.shape-shape.ensures c.cpu_of-cpu.ensures.value a.body.element c.element-element.result e_is c.offer_on.ensures c.fill_body.new.body c.fill_body.ensures.stored c.fill_body.ensures.sized c.attach.new.pass c.attach.ensures
    c.add_head.new.self c.requires.absent c.requires.adds (c.add_head.ensures ∙ ap (λ (bodies : List Stored). c.fill_body.new.body ∷ bodies) c.reserve_one.ensures.bodies) c.ok.result (made_part _ c.updated-part.result c.ok.ensures.value c.updated-part.ensures)).1 c.give.new.pass c.give.ensures
