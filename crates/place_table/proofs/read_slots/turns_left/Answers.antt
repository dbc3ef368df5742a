use Rattle.std.proofs.Common.{◌∙◌, arith}
use Rattle.map_types.proofs.CreationLemmas.{bounds_of_shape}
use Rattle.place_table.proofs.StrandsLeft.{told_none, told_all}
use Rattle.place_table.proofs.read_slots.turns_left.Goals as goal

pub strands_left-requires : goal.strands_left-requires
strands_left-requires c = let bounds = bounds_of_shape c.args.shape.now c.requires.shape in omega arith

pub returns-in_default : goal.returns-in_default
returns-in_default c = λ log lost strands histories finished.
    told_none c.args.shape.now log lost strands c.of.result c.of-in_default.result c.requires.shape (c.of.ensures ∙ c.new.ensures.items) (c.of-in_default.ensures ∙ c.new-in_default.ensures.items)

pub returns : goal.returns
returns c = λ log lost strands histories finished.
    told_all c.args.shape.now log lost strands c.args.ended c.in-Some.ended c.args.histories.kept.items c.of-2.result c.in_ok-strands_left.field-0 c.args.histories.lost c.requires.shape c.in-Some.is finished histories c.of-2.ensures c.in_ok-strands_left.ensures
