use Rattle.std.proofs.Common.{inl, refl}
use Rattle.place_words.specs.declared.bucket_part.BucketPart.TheVariants.{First}
use Rattle.place_table.proofs.PartsMade.{made_part}
use Rattle.bucket_walks.specs.Looks.{key_where}
use Rattle.bucket_walks.proofs.Found.{first_turn}
use Rattle.bucket_walks.proofs.Turn.{may_give, looks}
use Rattle.bucket_walks.proofs.buckets.first_in.Goals as goal

pub give-requires-after_bounds : goal.give-requires-after_bounds
give-requires-after_bounds g c κs within =
    let chain = c.enter_bucket-chain.result in
    let found = key_where c.copy_first-found.result c.copy_first-found.new.out in
    let turn = first_turn c.args.table.now.shape c.enter_bucket-chain.new.pass.cpu chain.bodies found c.copy_first-found.ensures.first in
    may_give chain c.enter_bucket-chain.ensures.inside (First found) (inl (found, refl)) turn c.ok.result (made_part _ c.first_part-part.result c.ok.ensures.value c.first_part-part.ensures)

pub returns-clause-looks : goal.returns-clause-looks
returns-clause-looks g c =
    let chain = c.enter_bucket-chain.result in
    let found = key_where c.copy_first-found.result c.copy_first-found.new.out in
    let turn = first_turn c.args.table.now.shape c.enter_bucket-chain.new.pass.cpu chain.bodies found c.copy_first-found.ensures.first in
    looks chain c.enter_bucket-chain.ensures.inside (First found) (inl (found, refl)) turn c.enter_bucket-chain.ensures.no_lock c.enter_bucket-chain.ensures.took c.ok.result (made_part _ c.first_part-part.result c.ok.ensures.value c.first_part-part.ensures) c.give.ensures
