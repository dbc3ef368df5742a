use Rattle.place_table.specs.BucketPuts.{asked_of}
use Rattle.place_table.proofs.BucketPuts.{refuses}
use Rattle.place_table.proofs.PartsMade.{made_part}
use Rattle.place_table.proofs.table.PlaceTable.refuse_update.Goals as goal

pub give-requires-after_bounds : goal.give-requires-after_bounds
give-requires-after_bounds g c κs within =
    let a = c.args in
    (refuses a.taken.chain c.requires.holds (asked_of a.write.side a.write.flags a.write.key.now a.write.value.now a.offer) a.put c.requires.refusal c.requires.allowed c.ok.result (made_part _ c.updated-part.result c.ok.ensures.value c.updated-part.ensures)).0

pub returns : goal.returns
returns g c =
    let a = c.args in
    (refuses a.taken.chain c.requires.holds (asked_of a.write.side a.write.flags a.write.key.now a.write.value.now a.offer) a.put c.requires.refusal c.requires.allowed c.ok.result (made_part _ c.updated-part.result c.ok.ensures.value c.updated-part.ensures)).1 c.give.new.pass c.give.ensures
