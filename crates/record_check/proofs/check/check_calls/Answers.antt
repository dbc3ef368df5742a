use Rattle.std.proofs.Common.{ℕ, Option, length, subst, arith}
use Rattle.record_flaws.specs.First.{IsFirstWrong}
use Rattle.call_check.specs.RightCalls.{IsRightAt}
use Rattle.record_check.proofs.Laws.{replays_decide}
use Rattle.record_check.proofs.Verdicts.{call_flaw}
use Rattle.record_check.proofs.check.check_calls.Goals as goal

pub check_finals-requires-clause-calls : goal.check_finals-requires-clause-calls
check_finals-requires-clause-calls c =
    subst (λ (flaw : Option ℕ). IsFirstWrong (IsRightAt c.args.script.now c.args.kept.now) (length c.args.script.now.calls) flaw) c.in-None.is c.in_ok-place.ensures

pub check_finals-requires-clause-told : goal.check_finals-requires-clause-told
check_finals-requires-clause-told c = (replays_decide c.args.script.now c.args.kept.now c.args.replayed.now c.requires.shaped.locks c.requires.replayed).1

pub returns-in-Some : goal.returns-in-Some
returns-in-Some c =
    call_flaw c.args.script.now c.args.kept.now c.requires.script c.requires.shaped c.requires.replayed.legal c.requires.phases c.requires.strands c.in-Some.place _ (omega arith)
    (subst (λ (flaw : Option ℕ). IsFirstWrong (IsRightAt c.args.script.now c.args.kept.now) (length c.args.script.now.calls) flaw) c.in-Some.is c.in_ok-place.ensures)
