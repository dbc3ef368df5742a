use Rattle.std.proofs.Common.{◌≡◌, ◌++◌, drop, map}
use Rattle.std.specs.List.{flat_map}
use Rattle.map_report.specs.Summary.{outcome_line}
use Rattle.map_report.proofs.summary.add_outcomes.Given as goal

-- the lines so far and those of the errors that are left are all the lines
abbrev pub invariant-loop-error : goal.invariant-loop-error
invariant-loop-error g l =
    g.L.Lines.written l.lines ++ flat_map g.L.Lines.line (map (outcome_line l.kept.replies) (drop l.error-index l.errors))
    ≡ g.L.Lines.written l.initial.lines ++ flat_map g.L.Lines.line (map (outcome_line l.kept.replies) l.errors)
