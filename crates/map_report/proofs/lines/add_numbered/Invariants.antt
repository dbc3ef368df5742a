use Rattle.std.proofs.Common.{◌≡◌, ◌+◌, ◌++◌, drop}
use Rattle.std.specs.List.{flat_map}
use Rattle.map_report.specs.Words.{numbered}
use Rattle.map_report.proofs.lines.add_numbered.Given as goal

-- the lines so far and those of the sections that are left are all the lines
abbrev pub invariant-loop-index : goal.invariant-loop-index
invariant-loop-index g l =
    g.L.Lines.written l.lines ++ flat_map g.L.Lines.line (numbered g.S.Section.lines_at (l.first + l.index) (drop l.index l.sections))
    ≡ g.L.Lines.written l.initial.lines ++ flat_map g.L.Lines.line (numbered g.S.Section.lines_at l.first l.sections)
