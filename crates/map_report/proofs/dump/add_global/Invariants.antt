use Rattle.std.proofs.Common.{◌≡◌, ◌++◌, drop}
use Rattle.std.specs.List.{flat_map}
use Rattle.map_types.specs.declared.kind.DomainId.TheVariants.{Global}
use Rattle.map_report.specs.Dump.{set_lines}
use Rattle.map_report.specs.Words.{lock_name}
use Rattle.map_report.proofs.dump.add_global.Given as goal

-- the lines so far and those of the sets that are left are all the lines
abbrev pub invariant-loop-set : goal.invariant-loop-set
invariant-loop-set g l =
    g.L.Lines.written l.lines ++ flat_map g.L.Lines.line (flat_map (set_lines (lock_name Global)) (drop l.set-index l.sets))
    ≡ g.L.Lines.written l.initial.lines ++ flat_map g.L.Lines.line (flat_map (set_lines (lock_name Global)) l.sets)
