use Rattle.std.proofs.Common.{sym, subst}
use Rattle.place_words.specs.declared.owner.Owner.{Owner}
use Rattle.core_runs.specs.Words.{LeavesWord, EntersWord}
use Rattle.step_check.specs.Answers.{view_of}
use Rattle.step_check.specs.WordsView.{words_in}
use Rattle.step_check.proofs.HeldLemmas.{did_home, owner_read, home_read}
use Rattle.step_check.proofs.rehome.rehome.Goals as goal

pub returns : goal.returns
returns c =
    let kept = view_of c.args.kept.now in
    let real = c.if-element-kept.false in
    did_home kept _ c.args.element _ c.requires real record {
      common = c.if-not-kept.false;
      is_cpu = c.if-cpu-kept.false;
      real = real;
      from_there = subst (LeavesWord kept.shape (words_in kept) c.args.cpu) (sym (home_read kept c.args.element c.index-home.result.now c.requires real c.index-home.ensures)) c.if-not-may_leave.ensures;
      to_there = subst (λ (o : Owner). EntersWord kept.shape (words_in kept) c.args.cpu o c.args.to) (sym (owner_read kept c.args.element c.index-owner.result.now c.requires real c.index-owner.ensures)) c.if-not-may_enter.ensures;
    }
