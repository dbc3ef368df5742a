use Rattle.std.proofs.Common.{◌≡◌, ◌++◌, drop, map}
use Rattle.std.specs.List.{flat_map}
use Rattle.map_report.specs.History.{entry_line}
use Rattle.map_report.proofs.history.add_entries.Given as goal

-- the lines so far and those of the turns that are left are all the lines
abbrev pub invariant-loop-index : goal.invariant-loop-index
invariant-loop-index g l =
    g.L.Lines.written l.lines ++ flat_map g.L.Lines.line (map entry_line (drop l.index l.entries))
    ≡ g.L.Lines.written l.initial.lines ++ flat_map g.L.Lines.line (map entry_line l.entries)
