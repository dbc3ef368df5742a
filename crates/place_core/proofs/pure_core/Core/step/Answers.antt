use Rattle.place_core.specs.Answers.{view_of}
use Rattle.place_core.proofs.Answered.{answered_core}
use Rattle.place_core.proofs.pure_core.Core.step.Goals as goal

pub invariant_of-self : goal.invariant_of-self
invariant_of-self c =
    answered_core (view_of c.self.inside.cells) c.args.step.now (view_of c.do_step.new.cells) c.do_step.result c.self.invariant c.do_step.ensures

pub returns-clause-placed : goal.returns-clause-placed
returns-clause-placed c =
    (answered_core (view_of c.self.inside.cells) c.args.step.now (view_of c.do_step.new.cells) c.do_step.result c.self.invariant c.do_step.ensures).placed

pub returns-clause-ranked : goal.returns-clause-ranked
returns-clause-ranked c =
    (answered_core (view_of c.self.inside.cells) c.args.step.now (view_of c.do_step.new.cells) c.do_step.result c.self.invariant c.do_step.ensures).ranked
