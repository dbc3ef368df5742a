use Rattle.map_script.proofs.PlaceLemmas.{comparison_told}
use Rattle.map_script.proofs.FrontLemmas.{is_syslookup, is_take, is_next_key}
use Rattle.map_script.proofs.front.verb_with_key.Goals as goal

pub returns-then-eq : goal.returns-then-eq
returns-then-eq c = is_syslookup c.args.key c.args.name.now (comparison_told c.args.name.now c.eq.ensures c.as_slice.ensures c.if-eq.true)

pub returns-then-eq-2 : goal.returns-then-eq-2
returns-then-eq-2 c = is_take c.args.key c.args.name.now (comparison_told c.args.name.now c.eq-else-eq.ensures c.as_slice-else-eq.ensures c.if-eq-2.true)

pub returns-then-eq-3 : goal.returns-then-eq-3
returns-then-eq-3 c = is_next_key c.args.key c.args.name.now (comparison_told c.args.name.now c.eq-else-eq-2.ensures c.as_slice-else-eq-2.ensures c.if-eq-3.true)
