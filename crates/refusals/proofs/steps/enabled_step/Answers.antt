use Rattle.refusals.proofs.steps.enabled_step.Goals as goal

pub returns : goal.returns
returns c is = c.step.ensures.not_enabled is c.requires
