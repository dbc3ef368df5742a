use Rattle.std.proofs.Common.{ap, map, ◌∙◌}
use Rattle.step_check.specs.Ran.{step_of}
use Rattle.step_check.proofs.PartLemmas.{detached_steps}
use Rattle.step_check.proofs.parts.walk_changes.Goals as goal

pub returns : goal.returns
returns c = λ cpu. ap (map (step_of cpu)) c.in_ok-changes.ensures ∙ detached_steps cpu c.args.bucket c.args.all.now
