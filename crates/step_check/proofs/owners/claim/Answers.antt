use Rattle.step_check.specs.Answers.{view_of}
use Rattle.step_check.proofs.HeldLemmas.{did_owner}
use Rattle.step_check.proofs.owners.claim.Goals as goal

pub returns : goal.returns
returns c = did_owner (view_of c.args.kept.now) _ c.args.element _ c.requires c.if-element-kept.false (c.if-not-holds.ensures, c.if-element-kept.false)
