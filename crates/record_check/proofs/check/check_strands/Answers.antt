use Rattle.std.proofs.Common.{ℕ, suc, Option, length, subst}
use Rattle.record_flaws.specs.First.{IsFirstWrong}
use Rattle.record_flaws.specs.StrandFlaws.{IsRightPlace}
use Rattle.record_check.proofs.Verdicts.{strand_flaw, strands_right}
use Rattle.record_check.proofs.check.check_strands.Goals as goal

pub check_calls-requires-clause-strands : goal.check_calls-requires-clause-strands
check_calls-requires-clause-strands c =
    strands_right c.args.script.now c.args.kept.now c.requires.script c.requires.shaped
    (subst (λ (flaw : Option ℕ). IsFirstWrong (IsRightPlace c.args.script.now c.args.kept.now) (suc (length c.args.kept.now.strands)) flaw) c.in-None.is c.in_ok-index.ensures)

pub returns-in-Some : goal.returns-in-Some
returns-in-Some c =
    strand_flaw c.args.script.now c.args.kept.now c.requires.script c.requires.shaped c.requires.replayed.legal c.requires.phases c.in-Some.index
    (subst (λ (flaw : Option ℕ). IsFirstWrong (IsRightPlace c.args.script.now c.args.kept.now) (suc (length c.args.kept.now.strands)) flaw) c.in-Some.is c.in_ok-index.ensures)
