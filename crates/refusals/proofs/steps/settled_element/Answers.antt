use Rattle.place_core.specs.CoreView.{state_of}
use Rattle.refusals.proofs.StepLemmas.{settled_is_free}
use Rattle.refusals.proofs.steps.settled_element.Goals as goal

pub returns : goal.returns
returns c = settled_is_free c.args.core.now.shape (state_of c.args.core.now) (state_of c.step.new.self) c.args.step.now c.step.result c.step.ensures.done
