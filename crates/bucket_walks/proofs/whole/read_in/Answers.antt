use Rattle.std.proofs.Common.{◌-◌, false, inr, length, refl}
use Rattle.place_words.specs.declared.bucket_part.BucketPart.TheVariants.{Walk}
use Rattle.place_table.proofs.PartsMade.{made_part}
use Rattle.bucket_walks.specs.BatchReads.{walked_by}
use Rattle.bucket_walks.proofs.Paged.{fits_there}
use Rattle.bucket_walks.proofs.Turn.{may_give, looks}
use Rattle.bucket_walks.proofs.Wholes.{walk_turn_told, reads_into}
use Rattle.bucket_walks.proofs.whole.read_in.Goals as goal

pub give-requires-after_bounds : goal.give-requires-after_bounds
give-requires-after_bounds g c κs within =
    let chain = c.enter_bucket-chain.result in
    let shape = c.shape-shape.result.now in
    let room = c.left-room.result in
    let walked = walked_by shape c.cpu_of-cpu.result room chain.bodies in
    let turn = walk_turn_told c.args.table.now.shape shape c.enter_bucket-chain.new.pass.cpu c.cpu_of-cpu.result room chain.bodies c.shape-shape.ensures c.cpu_of-cpu.ensures.value in
    may_give chain c.enter_bucket-chain.ensures.inside (Walk false room walked) (inr (inr (room, walked, refl))) turn c.ok.result (made_part _ c.walk_part-part.result c.ok.ensures.value c.walk_part-part.ensures)

pub returns : goal.returns
returns g c =
    let chain = c.enter_bucket-chain.result in
    let shape = c.shape-shape.result.now in
    let room = c.left-room.result in
    let walked = walked_by shape c.cpu_of-cpu.result room chain.bodies in
    let turn = walk_turn_told c.args.table.now.shape shape c.enter_bucket-chain.new.pass.cpu c.cpu_of-cpu.result room chain.bodies c.shape-shape.ensures c.cpu_of-cpu.ensures.value in
    reads_into shape c.cpu_of-cpu.result room chain.bodies c.read_whole-whole.result c.left-room.ensures.value
    (looks chain c.enter_bucket-chain.ensures.inside (Walk false room walked) (inr (inr (room, walked, refl))) turn c.enter_bucket-chain.ensures.no_lock c.enter_bucket-chain.ensures.took c.ok.result (made_part _ c.walk_part-part.result c.ok.ensures.value c.walk_part-part.ensures) c.give.ensures)
    c.read_whole-whole.ensures
    (fits_there c.enter_bucket-chain.ensures.inside shape c.cpu_of-cpu.result (c.args.out.now.limit - length c.args.out.now.pairs) c.shape-shape.ensures c.cpu_of-cpu.ensures.value)
