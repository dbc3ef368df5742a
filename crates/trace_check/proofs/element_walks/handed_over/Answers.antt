use Rattle.trace_check.proofs.KeyPlaces.{all_handed, some_handed}
use Rattle.trace_check.proofs.element_walks.handed_over.Goals as goal

pub returns-in-None-clause-over : goal.returns-in-None-clause-over
returns-in-None-clause-over c = λ shape cpu. (all_handed shape cpu c.args.stop.now c.args.all.now c.in-None.ensures.exact).0

pub returns-in-None-clause-stopped : goal.returns-in-None-clause-stopped
returns-in-None-clause-stopped c = λ shape cpu. (all_handed shape cpu c.args.stop.now c.args.all.now c.in-None.ensures.exact).1

pub returns-in-Some-clause-over : goal.returns-in-Some-clause-over
returns-in-Some-clause-over c = λ shape cpu. (some_handed shape cpu c.args.stop.now c.args.all.now c.in-Some.place c.in-Some.ensures.exact).0

pub returns-in-Some-clause-stopped : goal.returns-in-Some-clause-stopped
returns-in-Some-clause-stopped c = λ shape cpu. (some_handed shape cpu c.args.stop.now c.args.all.now c.in-Some.place c.in-Some.ensures.exact).1
