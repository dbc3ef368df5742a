use Rattle.std.specs.Prelude.{◌+◌, ◌<◌, ℕ, take}
use Rattle.record_flaws.specs.StrandFlaws.{IsRightPlace}
use Rattle.record_parts.specs.StrandTables.{AreMarks, AreMet}
use Rattle.record_parts.proofs.strands.strand_flaw.Given as goal

abbrev pub invariant-loop-place : goal.invariant-loop-place
invariant-loop-place l = AreMet l.size (take l.place l.strands) l.met.items × AreMarks l.script.shape (l.place + 1) l.marks.items
    × ((q : ℕ) → q < l.place → IsRightPlace l.script l.kept q)
