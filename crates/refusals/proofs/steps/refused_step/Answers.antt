use Rattle.place_core.specs.CoreView.{state_of}
use Rattle.refusals.proofs.StepLemmas.{not_done}
use Rattle.refusals.proofs.steps.refused_step.Goals as goal

pub returns : goal.returns
returns c = not_done c.args.core.now.shape (state_of c.args.core.now) (state_of c.step.new.self) c.args.step.now c.step.result c.requires c.step.ensures.done
