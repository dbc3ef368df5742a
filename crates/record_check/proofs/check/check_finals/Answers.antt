use Rattle.std.proofs.Common.{Bool, subst}
use Rattle.std.specs.Prelude.{MatchBool}
use Rattle.record_check.specs.Flaws.{AreWhole}
use Rattle.record_check.proofs.Verdicts.{finals_flaw}
use Rattle.record_check.proofs.check.check_finals.Goals as goal

pub returns-else-branch : goal.returns-else-branch
returns-else-branch c =
    finals_flaw c.args.script.now c.args.kept.now c.requires.script c.requires.shaped c.requires.legal c.requires.phases c.requires.strands c.requires.calls
    (λ finals.
    subst (λ (b : Bool). MatchBool b (AreWhole c.args.script.now c.args.kept.now) (AreWhole c.args.script.now c.args.kept.now → ⊥)) c.if-branch.false c.in_ok-are_finals_right.ensures finals.whole)
