use Rattle.place_table.proofs.BucketTurned.{takes}
use Rattle.place_table.proofs.PartsMade.{made_part}
use Rattle.place_table.proofs.table.PlaceTable.give_taken.Goals as goal

pub give-requires-after_bounds : goal.give-requires-after_bounds
give-requires-after_bounds g c κs within = (takes c.args.left.chain c.requires.1 c.args.element c.requires.2 c.args.value.now c.requires.3 c.ok.result (made_part _ c.take_got-part.result c.ok.ensures.value c.take_got-part.ensures)).0

pub returns : goal.returns
returns g c = (takes c.args.left.chain c.requires.1 c.args.element c.requires.2 c.args.value.now c.requires.3 c.ok.result (made_part _ c.take_got-part.result c.ok.ensures.value c.take_got-part.ensures)).1 c.give.new.pass c.give.ensures
