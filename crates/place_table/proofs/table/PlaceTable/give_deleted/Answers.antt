use Rattle.place_table.proofs.BucketTurned.{deletes}
use Rattle.place_table.proofs.PartsMade.{made_part}
use Rattle.place_table.proofs.table.PlaceTable.give_deleted.Goals as goal

pub give-requires-after_bounds : goal.give-requires-after_bounds
give-requires-after_bounds g c κs within = (deletes c.args.left.chain c.requires.1 c.args.element c.requires.2 c.ok.result (made_part _ c.deleted-part.result c.ok.ensures.value c.deleted-part.ensures)).0

pub returns : goal.returns
returns g c = (deletes c.args.left.chain c.requires.1 c.args.element c.requires.2 c.ok.result (made_part _ c.deleted-part.result c.ok.ensures.value c.deleted-part.ensures)).1 c.give.new.pass c.give.ensures
