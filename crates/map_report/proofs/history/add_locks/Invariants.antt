use Rattle.std.proofs.Common.{◌≡◌, ◌++◌, drop}
use Rattle.std.specs.List.{flat_map}
use Rattle.map_report.specs.History.{lock_lines}
use Rattle.map_report.proofs.history.add_locks.Given as goal

-- the lines so far and those of the locks that are left are all the lines
abbrev pub invariant-loop-history : goal.invariant-loop-history
invariant-loop-history g l =
    g.L.Lines.written l.lines ++ flat_map g.L.Lines.line (flat_map lock_lines (drop l.history-index l.histories))
    ≡ g.L.Lines.written l.initial.lines ++ flat_map g.L.Lines.line (flat_map lock_lines l.histories)
