use Rattle.std.proofs.Common.{sym, subst, ◌∙◌}
use Rattle.place_words.specs.Steps.{IsLockHome}
use Rattle.step_check.specs.Answers.{view_of}
use Rattle.step_check.proofs.HeldLemmas.{did_owner, owner_read, home_read}
use Rattle.step_check.proofs.owners.attach.Goals as goal

pub returns : goal.returns
returns c =
    let kept = view_of c.args.kept.now in
    did_owner kept _ c.args.element _ c.requires c.if-element-kept.false record {
      holds = c.if-not-holds.ensures;
      real = c.if-element-kept.false;
      in_hand = owner_read kept c.args.element c.index.result.now c.requires c.if-element-kept.false c.index.ensures ∙ c.if-not-is_hand.ensures;
      not_carried = λ lru. subst IsLockHome (sym (home_read kept c.args.element c.index-2.result.now c.requires c.if-element-kept.false c.index-2.ensures)) (c.if-not-is_lock_home_if.ensures (c.is_lru.ensures ∙ lru));
    }
