use Rattle.std.proofs.Common.{ap, sym, subst, ◌∙◌}
use Rattle.map_types.specs.declared.attr.Shape.{Shape}
use Rattle.map_types.specs.declared.kind.Side.TheVariants.{Sys}
use Rattle.map_types.specs.Shape.{HasBounds}
use Rattle.map_types.specs.Sides.{value_read}
use Rattle.map_types.specs.Stored.{Stored, IsSized}
use Rattle.place_table.proofs.BucketBodies.{sized_at}
use Rattle.place_table.proofs.BucketOut.{bounds_here, can_detach_at}
use Rattle.place_table.proofs.BucketTurned.{take_misses, has_out}
use Rattle.place_table.proofs.PartsMade.{made_part}
use Rattle.place_table.proofs.table.PlaceTable.take_from.Goals as goal

pub give-requires-after_bounds : goal.give-requires-after_bounds
give-requires-after_bounds g c κs within =
    (take_misses c.args.taken.chain c.requires.holds c.args.key.now c.in_default.ensures.holder c.ok.result (made_part _ c.take_missed-part.result c.ok.ensures.value c.take_missed-part.ensures)).0

pub returns-in_default-clause-takes : goal.returns-in_default-clause-takes
returns-in_default-clause-takes g c =
    (take_misses c.args.taken.chain c.requires.holds c.args.key.now c.in_default.ensures.holder c.ok.result (made_part _ c.take_missed-part.result c.ok.ensures.value c.take_missed-part.ensures)).1 c.give.new.pass c.give.ensures

pub read_value-requires-clause-bounds : goal.read_value-requires-clause-bounds
read_value-requires-clause-bounds g c = subst HasBounds (sym c.shape.ensures) (bounds_here _ _ c.self.view_is c.self.invariant.2)

pub read_value-requires-clause-sized : goal.read_value-requires-clause-sized
read_value-requires-clause-sized g c =
    let body = c.body_out-body.result in
    let sized = sized_at c.args.self.now.shape c.args.taken.chain.bodies c.in-Some.place body c.requires.holds.sized c.body_out-body.ensures.found in
    subst (λ (z : Shape × Stored). IsSized z.0 z.1) (λ i. (sym c.shape.ensures i, sym c.body.ensures i)) sized

pub detach-requires : goal.detach-requires
detach-requires g c =
    let body = c.body_out-body.result in
    can_detach_at c.requires.holds body.key body c.element.result c.body_out-body.ensures.present (c.element.ensures ∙ ap (λ (b : Stored). b.element) c.body-2.ensures)

pub returns-clause-takes : goal.returns-clause-takes
returns-clause-takes g c =
    has_out c.requires.holds c.args.key.now c.in-Some.place (record { body = c.body_out-body.result; chain = c.body_out-body.new.chain }) c.element.result c.detach.new.pass c.in-Some.ensures.holder c.body_out-body.ensures.found c.body_out-body.ensures.bodies
    (c.element.ensures ∙ ap (λ (b : Stored). b.element) c.body-2.ensures) c.detach.ensures

pub returns-clause-read : goal.returns-clause-read
returns-clause-read g c = c.read_value.ensures ∙ (λ i. value_read (c.shape.ensures i) Sys (c.cpu_of-cpu.ensures.value i) (c.body.ensures i).values)
