use Rattle.std.proofs.Common.{◌∙◌, sym, ap, subst}
use Rattle.map_types.proofs.CreationLemmas.{bounds_of_shape}
use Rattle.map_types.specs.declared.kind.DomainId.TheVariants as locks
use Rattle.map_types.specs.Shape.{HasBounds}
use Rattle.place_table.specs.declared.content.Content.TheVariants as contents
use Rattle.place_table.specs.Passes.{TableView, MayGiveBack, GaveBack}
use Rattle.place_table.specs.BucketTurns.{Entered}
use Rattle.place_table.proofs.PartsMade.{made_part}
use Rattle.map_batch.proofs.TakenOut.{may_give_taken, takes_into}
use Rattle.map_batch.proofs.take_plain.take_in.Goals as goal

pub read_whole-whole-requires-clause-bounds : goal.read_whole-whole-requires-clause-bounds
read_whole-whole-requires-clause-bounds g c =
    subst HasBounds (sym (c.shape-shape.ensures ∙ ap (λ (t : TableView). t.shape) c.table-table.ensures.value)) (bounds_of_shape c.args.map.now.shape c.table-table.ensures.shape)

pub walk_part-part-requires-clause-bounds : goal.walk_part-part-requires-clause-bounds
walk_part-part-requires-clause-bounds g c =
    subst HasBounds (sym (c.shape-shape.ensures ∙ ap (λ (t : TableView). t.shape) c.table-table.ensures.value)) (bounds_of_shape c.args.map.now.shape c.table-table.ensures.shape)

pub give-requires-after_bounds : goal.give-requires-after_bounds
give-requires-after_bounds g c κs within =
    let t = c.args.map.now in
    let chain = c.enter_bucket-chain.result in
    let back = c.push_read.new.chain in
    let shape = c.shape-shape.result.now in
    let shape_is = c.shape-shape.ensures ∙ ap (λ (z : TableView). z.shape) c.table-table.ensures.value in
    let entered = subst (λ (z : TableView). Entered z c.args.bucket c.args.pass.now c.enter_bucket-chain.new.pass chain) c.table-table.ensures.value c.enter_bucket-chain.ensures in
    subst (λ (z : TableView). MayGiveBack z (locks.Bucket c.args.bucket) c.push_read.new.pass (contents.Bucket back) c.ok.result) (sym c.table-table.ensures.value)
    (may_give_taken entered c.table-table.ensures.plain c.push_read.new.pass back c.args.out.now c.read_whole-whole.new.out shape c.cpu_of-cpu.result c.left-room.result c.read_whole-whole.result c.ok.result shape_is c.cpu_of-cpu.ensures.value c.left-room.ensures.value c.read_whole-whole.ensures (made_part _ c.walk_part-part.result c.ok.ensures.value c.walk_part-part.ensures) c.push_read.ensures)

pub returns : goal.returns
returns g c =
    let chain = c.enter_bucket-chain.result in
    let back = c.push_read.new.chain in
    let shape = c.shape-shape.result.now in
    let shape_is = c.shape-shape.ensures ∙ ap (λ (z : TableView). z.shape) c.table-table.ensures.value in
    let entered = subst (λ (z : TableView). Entered z c.args.bucket c.args.pass.now c.enter_bucket-chain.new.pass chain) c.table-table.ensures.value c.enter_bucket-chain.ensures in
    takes_into entered c.table-table.ensures.plain c.push_read.new.pass back c.args.out.now c.read_whole-whole.new.out shape c.cpu_of-cpu.result c.left-room.result c.read_whole-whole.result c.ok.result shape_is c.cpu_of-cpu.ensures.value c.left-room.ensures.value c.read_whole-whole.ensures (made_part _ c.walk_part-part.result c.ok.ensures.value c.walk_part-part.ensures) c.push_read.ensures
    (subst (λ (z : TableView). GaveBack z (locks.Bucket c.args.bucket) c.push_read.new.pass c.give.new.pass (contents.Bucket back) c.ok.result) c.table-table.ensures.value c.give.ensures)
