use Rattle.std.specs.Prelude.{◌<◌, ℕ, suc}
use Rattle.call_check.specs.RightCalls.{IsRightAt}
use Rattle.call_check.specs.Steps.{AreBehind}
use Rattle.call_check.proofs.flaw.call_flaw.Given as goal

abbrev pub invariant-loop-place : goal.invariant-loop-place
invariant-loop-place l = AreBehind l.kept.histories (suc l.place) l.kept.strands l.cursors.items
    × ((q : ℕ) → q < l.place → IsRightAt l.script l.kept q)
