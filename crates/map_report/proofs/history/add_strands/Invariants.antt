use Rattle.std.proofs.Common.{◌≡◌, ◌++◌, drop}
use Rattle.std.specs.List.{flat_map}
use Rattle.map_report.specs.History.{strand_lines}
use Rattle.map_report.proofs.history.add_strands.Given as goal

-- the lines so far and those of the strands that are left are all the lines
abbrev pub invariant-loop-strand : goal.invariant-loop-strand
invariant-loop-strand g l =
    g.L.Lines.written l.lines ++ flat_map g.L.Lines.line (flat_map (strand_lines l.version) (drop l.strand-index l.strands))
    ≡ g.L.Lines.written l.initial.lines ++ flat_map g.L.Lines.line (flat_map (strand_lines l.version) l.strands)
