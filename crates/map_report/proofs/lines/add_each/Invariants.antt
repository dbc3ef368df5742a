use Rattle.std.proofs.Common.{◌≡◌, ◌++◌, drop, map}
use Rattle.std.specs.List.{flat_map}
use Rattle.map_report.proofs.lines.add_each.Given as goal

-- the lines so far and those of the items that are left are all the lines
abbrev pub invariant-loop-item : goal.invariant-loop-item
invariant-loop-item g l =
    g.L.Lines.written l.lines ++ flat_map g.L.Lines.line (map g.T.Piece.shown (drop l.item-index l.items))
    ≡ g.L.Lines.written l.initial.lines ++ flat_map g.L.Lines.line (map g.T.Piece.shown l.items)
