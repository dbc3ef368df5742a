use Rattle.step_check.specs.Answers.{view_of}
use Rattle.step_check.proofs.HeldLemmas.{past_free, seen_there}
use Rattle.step_check.proofs.owners.sees.Goals as goal

pub returns-then-element-kept : goal.returns-then-element-kept
returns-then-element-kept c = λ in_hand. past_free (view_of c.args.kept.now) c.args.element c.args.hand c.requires c.if-element-kept.true in_hand

pub returns : goal.returns
returns c = seen_there (view_of c.args.kept.now) c.args.element c.args.hand c.index.result.now c.is_hand.result c.requires c.if-element-kept.false c.index.ensures c.is_hand.ensures
