use Rattle.std.proofs.Common.{◌∙◌}
use Rattle.step_check.specs.Answers.{view_of}
use Rattle.step_check.proofs.HeldLemmas.{did_owner, owner_read}
use Rattle.step_check.proofs.owners.detach.Goals as goal

pub returns : goal.returns
returns c =
    let kept = view_of c.args.kept.now in
    did_owner kept _ c.args.element _ c.requires c.if-element-kept.false record {
      holds = c.if-not-holds.ensures;
      real = c.if-element-kept.false;
      inside = owner_read kept c.args.element c.index.result.now c.requires c.if-element-kept.false c.index.ensures ∙ c.if-not-is_in_bucket.ensures;
    }
