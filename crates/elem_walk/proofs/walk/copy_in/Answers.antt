use Rattle.std.proofs.Common.{◌≡◌, false, inr, refl, ap, ◌∙◌, sym}
use Rattle.place_words.specs.declared.bucket_part.BucketPart.TheVariants.{Walk}
use Rattle.place_words.specs.declared.history.Part.{Part}
use Rattle.place_words.specs.declared.history.Part.TheVariants as parts
use Rattle.place_table.specs.Passes.{PassView}
use Rattle.place_table.proofs.PartsMade.{made_part}
use Rattle.bucket_walks.specs.BatchReads.{walked_by}
use Rattle.bucket_walks.proofs.Turn.{may_give, looks}
use Rattle.bucket_walks.proofs.Wholes.{walk_turn_told}
use Rattle.elem_walk.proofs.Copies.{copies_into}
use Rattle.elem_walk.proofs.walk.copy_in.Goals as goal

pub give-requires-after_bounds : goal.give-requires-after_bounds
give-requires-after_bounds g c κs within =
    let chain = c.enter_bucket-chain.result in
    let shape = c.args.shape.now in
    let room = c.left-room.result in
    let walked = walked_by shape c.args.cpu room chain.bodies in
    let same_cpu = c.requires.cpu ∙ sym (ap (λ (p : PassView). p.cpu) c.enter_bucket-chain.ensures.took.after_is) in
    let turn = walk_turn_told c.args.table.now.shape shape c.enter_bucket-chain.new.pass.cpu c.args.cpu room chain.bodies c.requires.shape same_cpu in
    may_give chain c.enter_bucket-chain.ensures.inside (Walk false room walked) (inr (inr (room, walked, refl))) turn c.ok.result (made_part (λ (part : Part). part ≡ parts.Bucket (Walk false room walked)) c.walk_part-part.result c.ok.ensures.value c.walk_part-part.ensures)

pub returns : goal.returns
returns g c =
    let chain = c.enter_bucket-chain.result in
    let shape = c.args.shape.now in
    let room = c.left-room.result in
    let walked = walked_by shape c.args.cpu room chain.bodies in
    let same_cpu = c.requires.cpu ∙ sym (ap (λ (p : PassView). p.cpu) c.enter_bucket-chain.ensures.took.after_is) in
    let turn = walk_turn_told c.args.table.now.shape shape c.enter_bucket-chain.new.pass.cpu c.args.cpu room chain.bodies c.requires.shape same_cpu in
    copies_into shape c.args.cpu room chain.bodies c.copy_whole-whole.result c.requires.shape c.requires.cpu c.left-room.ensures.value c.left-room.ensures.within
    (looks chain c.enter_bucket-chain.ensures.inside (Walk false room walked) (inr (inr (room, walked, refl))) turn c.enter_bucket-chain.ensures.no_lock c.enter_bucket-chain.ensures.took c.ok.result (made_part (λ (part : Part). part ≡ parts.Bucket (Walk false room walked)) c.walk_part-part.result c.ok.ensures.value c.walk_part-part.ensures) c.give.ensures)
    c.copy_whole-whole.ensures
