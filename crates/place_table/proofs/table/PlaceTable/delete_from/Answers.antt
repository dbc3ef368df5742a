use Rattle.std.proofs.Common.{ap, ◌∙◌}
use Rattle.map_types.specs.Stored.{Stored}
use Rattle.place_table.proofs.BucketOut.{can_detach_at}
use Rattle.place_table.proofs.BucketTurned.{delete_misses, has_out}
use Rattle.place_table.proofs.PartsMade.{made_part}
use Rattle.place_table.proofs.table.PlaceTable.delete_from.Goals as goal

pub give-requires-after_bounds : goal.give-requires-after_bounds
give-requires-after_bounds g c κs within =
    (delete_misses c.args.taken.chain c.requires c.args.key.now c.in_default.ensures.holder c.ok.result (made_part _ c.deleted-part.result c.ok.ensures.value c.deleted-part.ensures)).0

pub returns-in_default : goal.returns-in_default
returns-in_default g c =
    (delete_misses c.args.taken.chain c.requires c.args.key.now c.in_default.ensures.holder c.ok.result (made_part _ c.deleted-part.result c.ok.ensures.value c.deleted-part.ensures)).1 c.give.new.pass c.give.ensures

pub detach-requires : goal.detach-requires
detach-requires g c =
    let body = c.body_out-body.result in
    can_detach_at c.requires body.key body c.element.result c.body_out-body.ensures.present (c.element.ensures ∙ ap (λ (b : Stored). b.element) c.body.ensures)

pub returns : goal.returns
returns g c =
    has_out c.requires c.args.key.now c.in-Some.place (record { body = c.body_out-body.result; chain = c.body_out-body.new.chain }) c.element.result c.detach.new.pass c.in-Some.ensures.holder c.body_out-body.ensures.found c.body_out-body.ensures.bodies
    (c.element.ensures ∙ ap (λ (b : Stored). b.element) c.body.ensures) c.detach.ensures
