use Rattle.std.proofs.Common.{◌-◌, ◌≤◌}
use Rattle.script_source.proofs.SoFar.{SoFar}
use Rattle.script_source.proofs.script_from.Given as goal

abbrev pub invariant-loop-taken : goal.invariant-loop-taken
invariant-loop-taken g l = record {
  so_far : SoFar (g.S.Source.left l.fn.source) (g.S.Source.left l.source) l.fn.form l.reader l.taken;
  fits : l.taken ≤ 16777217;
  faults : g.S.Source.faults l.fn.source ≤ g.S.Source.faults l.source;
}

abbrev pub decreases-loop-taken : goal.decreases-loop-taken
decreases-loop-taken g l = 16777217 - l.taken
