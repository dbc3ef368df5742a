use Rattle.map_script.proofs.PlaceLemmas.{comparison_told}
use Rattle.map_script.proofs.FrontLemmas.{is_update, is_sysupdate}
use Rattle.map_script.proofs.front.update_side.Goals as goal

pub returns-then-eq : goal.returns-then-eq
returns-then-eq c = is_update c.args.name.now (comparison_told c.args.name.now c.eq.ensures c.as_slice.ensures c.if-eq.true)

pub returns-then-eq-2 : goal.returns-then-eq-2
returns-then-eq-2 c = is_sysupdate c.args.name.now (comparison_told c.args.name.now c.eq-else-eq.ensures c.as_slice-else-eq.ensures c.if-eq-2.true)
