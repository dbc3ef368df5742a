use Rattle.std.proofs.Common.{refl, sym, subst}
use Rattle.map_types.specs.Shape.{HasBounds}
use Rattle.place_table.specs.BucketPuts.{asked_of}
use Rattle.place_table.proofs.BucketOut.{bounds_here}
use Rattle.place_table.proofs.BucketPuts.{can_mark_there, writes}
use Rattle.place_table.proofs.PartsMade.{made_part}
use Rattle.place_table.proofs.table.PlaceTable.write_key.Goals as goal

pub mark_on-requires : goal.mark_on-requires
mark_on-requires g c lru =
    let a = c.args in
    can_mark_there a.taken.chain c.requires.holds (asked_of a.write.side a.write.flags a.write.key.now a.write.value.now a.offer) refl c.cpu_of-cpu.ensures.value a.place c.requires.at c.body_at.result.now c.element-element.result c.body_at.ensures c.element-element.ensures

pub write_value-requires-clause-bounds : goal.write_value-requires-clause-bounds
write_value-requires-clause-bounds g c = subst HasBounds (sym c.shape.ensures) (bounds_here _ _ c.self.view_is c.self.invariant.2)

pub give-requires-after_bounds : goal.give-requires-after_bounds
give-requires-after_bounds g c κs within =
    let a = c.args in
    (writes a.taken.chain c.requires.holds (asked_of a.write.side a.write.flags a.write.key.now a.write.value.now a.offer) c.shape.ensures c.cpu_of-cpu.ensures.value a.place c.requires.at c.body_at.result.now c.element-element.result c.body_at.ensures c.element-element.ensures c.mark_on.new.pass c.mark_on.ensures
    c.write_value.new.chain c.requires.percpu c.requires.replaces c.write_value.ensures.written c.write_value.ensures.sized c.ok.result (made_part _ c.updated-part.result c.ok.ensures.value c.updated-part.ensures)).0

pub returns : goal.returns
returns g c =
    let a = c.args in
    (writes a.taken.chain c.requires.holds (asked_of a.write.side a.write.flags a.write.key.now a.write.value.now a.offer) c.shape.ensures c.cpu_of-cpu.ensures.value a.place c.requires.at c.body_at.result.now c.element-element.result c.body_at.ensures c.element-element.ensures c.mark_on.new.pass c.mark_on.ensures
    c.write_value.new.chain c.requires.percpu c.requires.replaces c.write_value.ensures.written c.write_value.ensures.sized c.ok.result (made_part _ c.updated-part.result c.ok.ensures.value c.updated-part.ensures)).1 c.give.new.pass c.give.ensures
