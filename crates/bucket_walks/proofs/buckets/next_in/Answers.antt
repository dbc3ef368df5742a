use Rattle.std.proofs.Common.{inl, inr, refl}
use Rattle.place_words.specs.declared.bucket_part.BucketPart.TheVariants.{Next}
use Rattle.place_table.proofs.PartsMade.{made_part}
use Rattle.bucket_walks.specs.Looks.{found_after}
use Rattle.bucket_walks.proofs.Found.{next_turn}
use Rattle.bucket_walks.proofs.Turn.{may_give, looks}
use Rattle.bucket_walks.proofs.buckets.next_in.Goals as goal

pub give-requires-after_bounds : goal.give-requires-after_bounds
give-requires-after_bounds g c κs within =
    let chain = c.enter_bucket-chain.result in
    let found = found_after c.copy_after-after.result c.copy_after-after.new.out in
    let turn = next_turn c.args.table.now.shape c.enter_bucket-chain.new.pass.cpu chain.bodies c.args.from.key.now found c.copy_after-after.ensures.follows in
    may_give chain c.enter_bucket-chain.ensures.inside (Next c.args.from.key.now found) (inr (inl (c.args.from.key.now, found, refl))) turn c.ok.result (made_part _ c.next_part-part.result c.ok.ensures.value c.next_part-part.ensures)

pub returns-clause-looks : goal.returns-clause-looks
returns-clause-looks g c =
    let chain = c.enter_bucket-chain.result in
    let found = found_after c.copy_after-after.result c.copy_after-after.new.out in
    let turn = next_turn c.args.table.now.shape c.enter_bucket-chain.new.pass.cpu chain.bodies c.args.from.key.now found c.copy_after-after.ensures.follows in
    looks chain c.enter_bucket-chain.ensures.inside (Next c.args.from.key.now found) (inr (inl (c.args.from.key.now, found, refl))) turn c.enter_bucket-chain.ensures.no_lock c.enter_bucket-chain.ensures.took c.ok.result (made_part _ c.next_part-part.result c.ok.ensures.value c.next_part-part.ensures) c.give.ensures
