use Rattle.std.proofs.Common.{◌≡◌, ◌++◌, drop}
use Rattle.std.specs.List.{flat_map}
use Rattle.map_report.specs.Dump.{bucket_lines}
use Rattle.map_report.proofs.dump.add_bucket.Given as goal

-- the lines so far and those of the elements that are left are all the lines
abbrev pub invariant-loop-kept : goal.invariant-loop-kept
invariant-loop-kept g l =
    g.L.Lines.written l.lines ++ flat_map g.L.Lines.line (bucket_lines l.bucket (drop l.kept-index l.elements))
    ≡ g.L.Lines.written l.initial.lines ++ flat_map g.L.Lines.line (bucket_lines l.bucket l.elements)
