use Rattle.step_check.proofs.AllPlaces.{all_those, pushed_all}
use Rattle.step_check.proofs.places.all_places.Goals as goal

pub returns-clause-named : goal.returns-clause-named
returns-clause-named c = (all_those c.args.histories.now c.loop-number.places.items (pushed_all c.args.histories.now c.loop-number.number c.loop-number.places.items c.loop-number-test.false c.loop-number.invariant)).named

pub returns-clause-real : goal.returns-clause-real
returns-clause-real c = (all_those c.args.histories.now c.loop-number.places.items (pushed_all c.args.histories.now c.loop-number.number c.loop-number.places.items c.loop-number-test.false c.loop-number.invariant)).real
