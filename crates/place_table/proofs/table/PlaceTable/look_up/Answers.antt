use Rattle.std.proofs.Common.{◌≡◌, None, Some, refl, sym, subst, ◌∙◌}
use Rattle.map_types.specs.declared.attr.Shape.{Shape}
use Rattle.map_types.specs.Shape.{HasBounds}
use Rattle.map_types.specs.Sides.{value_read}
use Rattle.map_types.specs.Stored.{IsSized}
use Rattle.place_table.proofs.BucketBodies.{sized_at}
use Rattle.bucket_chain.proofs.Turns.{found_body}
use Rattle.place_table.proofs.BucketOut.{bounds_here, can_mark_at}
use Rattle.place_table.proofs.BucketTurned.{lookup_misses, looked}
use Rattle.place_table.proofs.PartsMade.{made_part}
use Rattle.place_table.proofs.table.PlaceTable.look_up.Goals as goal

pub give-requires-after_bounds : goal.give-requires-after_bounds
give-requires-after_bounds g c κs within =
    (lookup_misses c.args.taken.chain c.requires.holds c.args.side c.args.key.now c.in_default.ensures.holder c.ok.result (made_part _ c.lookup_missed-part.result c.ok.ensures.value c.lookup_missed-part.ensures)).0

pub returns-in_default-clause-looks_up : goal.returns-in_default-clause-looks_up
returns-in_default-clause-looks_up g c = record {
  got = None;
  gives = (lookup_misses c.args.taken.chain c.requires.holds c.args.side c.args.key.now c.in_default.ensures.holder c.ok.result (made_part _ c.lookup_missed-part.result c.ok.ensures.value c.lookup_missed-part.ensures)).1 c.give.new.pass c.give.ensures;
  reply_is = refl;
}

pub read_value-requires-clause-bounds : goal.read_value-requires-clause-bounds
read_value-requires-clause-bounds g c = subst HasBounds (sym c.shape.ensures) (bounds_here _ _ c.self.view_is c.self.invariant.2)

pub read_value-requires-clause-sized : goal.read_value-requires-clause-sized
read_value-requires-clause-sized g c =
    subst (λ (s : Shape). IsSized s c.body_at-body.result.now) (sym c.shape.ensures) (sized_at c.args.self.now.shape c.args.taken.chain.bodies c.in-Some.place c.body_at-body.result.now c.requires.holds.sized c.body_at-body.ensures)

pub mark_for-requires : goal.mark_for-requires
mark_for-requires g c =
    let body = c.body_at-body.result.now in
    can_mark_at c.requires.holds c.args.key.now body c.element-element.result (found_body c.args.key.now c.args.taken.chain.bodies c.in-Some.place body c.in-Some.ensures.holder (sym c.body_at-body.ensures)) c.element-element.ensures

pub give-requires-2-after_bounds : goal.give-requires-2-after_bounds
give-requires-2-after_bounds g c κs within =
    let body = c.body_at-body.result.now in
    let read : c.read_value.new.out ≡ value_read c.args.self.now.shape c.args.side c.args.pass.now.cpu body.values = c.read_value.ensures ∙ (λ i. value_read (c.shape.ensures i) c.args.side (c.cpu_of-cpu.ensures.value i) body.values) in
    (looked c.args.taken.chain c.requires.holds c.args.side c.element-element.result c.mark_for.new.pass c.mark_for.ensures c.args.key.now c.read_value.new.out c.in-Some.place body c.in-Some.ensures.holder (sym c.body_at-body.ensures) c.element-element.ensures read c.ok-2.result (made_part _ c.lookup_got-part.result c.ok-2.ensures.value c.lookup_got-part.ensures)).0

pub returns-clause-looks_up : goal.returns-clause-looks_up
returns-clause-looks_up g c =
    let body = c.body_at-body.result.now in
    let read : c.read_value.new.out ≡ value_read c.args.self.now.shape c.args.side c.args.pass.now.cpu body.values = c.read_value.ensures ∙ (λ i. value_read (c.shape.ensures i) c.args.side (c.cpu_of-cpu.ensures.value i) body.values) in
    record {
      got = Some (c.element-element.result, c.read_value.new.out);
      gives = (looked c.args.taken.chain c.requires.holds c.args.side c.element-element.result c.mark_for.new.pass c.mark_for.ensures c.args.key.now c.read_value.new.out c.in-Some.place body c.in-Some.ensures.holder (sym c.body_at-body.ensures) c.element-element.ensures read c.ok-2.result (made_part _ c.lookup_got-part.result c.ok-2.ensures.value c.lookup_got-part.ensures)).1 c.give-2.new.pass c.give-2.ensures;
      reply_is = refl;
    }
