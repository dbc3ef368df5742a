use Rattle.std.proofs.Common.{◌<◌, sym, subst, arith}
use Rattle.map_types.proofs.CreationLemmas.{bounds_of_shape}
use Rattle.place_words.specs.Codes.{HasHomeCode}
use Rattle.place_table.proofs.FirstWords.{home_has_code, homes_next}
use Rattle.place_table.proofs.create.push_homes.Goals as goal

pub home_code-requires : goal.home_code-requires
home_code-requires c =
    let test = c.loop-element-test.true in
    let real : c.loop-element.element < c.args.shape.now.elements = omega arith in
    subst HasHomeCode (sym c.home_at_first.ensures) (home_has_code c.args.shape.now c.loop-element.element (bounds_of_shape c.args.shape.now c.requires) real)

pub loop-element-preserved : goal.loop-element-preserved
loop-element-preserved c =
    homes_next c.args.shape.now c.loop-element.element c.home_code.result c.home_at_first.result c.args.words.now.items c.loop-element.words.items c.push.new.self.items
    c.loop-element.invariant c.home_at_first.ensures c.home_code.ensures.exact c.in_ok-push.ensures.items
