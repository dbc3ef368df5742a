use Rattle.std.proofs.Common.{true, false}
use Rattle.map_types.specs.declared.kind.DomainId.TheVariants.{Local}
use Rattle.step_check.specs.Answers.{view_of}
use Rattle.step_check.specs.declared.change.Change.TheVariants.{Claim}
use Rattle.step_check.proofs.ChangeRuns.{change_fails, change_done, changes_end, are_after}
use Rattle.step_check.proofs.change.run_changes.Goals as goal

pub returns-then-not-run_change : goal.returns-then-not-run_change
returns-then-not-run_change c =
    c.loop-change.invariant.1 (view_of c.run_change.new.kept) false
    (change_fails (view_of c.loop-change.kept) (view_of c.run_change.new.kept) c.args.cpu c.loop-change.change-index c.args.changes.now (Claim 0 (Local 0)) c.run_change.result c.loop-change-test.true c.run_change.ensures c.if-not-run_change.true)

pub loop-change-preserved : goal.loop-change-preserved
loop-change-preserved c = (
  are_after (view_of c.loop-change.kept) (view_of c.run_change.new.kept) _ c.run_change.result c.run_change.ensures,
  λ now answer rest. c.loop-change.invariant.1 now answer
      (change_done (view_of c.loop-change.kept) (view_of c.run_change.new.kept) now c.args.cpu c.loop-change.change-index c.args.changes.now (Claim 0 (Local 0)) c.run_change.result answer c.loop-change-test.true c.run_change.ensures c.if-not-run_change.false rest),
)

pub returns : goal.returns
returns c =
    c.loop-change.invariant.1 (view_of c.loop-change.kept) true
    (changes_end (view_of c.loop-change.kept) c.args.cpu c.loop-change.change-index c.args.changes.now c.loop-change.invariant.0 c.loop-change-test.false)
