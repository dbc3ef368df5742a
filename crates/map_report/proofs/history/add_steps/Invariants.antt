use Rattle.std.proofs.Common.{◌≡◌, ◌++◌, drop, map}
use Rattle.std.specs.List.{flat_map}
use Rattle.map_report.specs.History.{step_line}
use Rattle.map_report.proofs.history.add_steps.Given as goal

-- the lines so far and those of the steps that are left are all the lines
abbrev pub invariant-loop-place : goal.invariant-loop-place
invariant-loop-place g l =
    g.L.Lines.written l.lines ++ flat_map g.L.Lines.line (map step_line (drop l.place l.steps))
    ≡ g.L.Lines.written l.initial.lines ++ flat_map g.L.Lines.line (map step_line l.steps)
