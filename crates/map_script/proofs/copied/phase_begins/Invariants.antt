use Rattle.std.proofs.Common.{◌≡◌, length}
use Rattle.map_script.specs.Reading.{phase_begins}
use Rattle.map_script.proofs.copied.phase_begins.Given as goal

-- a phase begins in the lines that are left, where one begins in all
abbrev pub invariant-loop-line : goal.invariant-loop-line
invariant-loop-line l = (phase_begins l.lines.lines ≡ phase_begins l.fn.lines.lines) × (l.lines.end ≡ l.fn.lines.end)

abbrev pub decreases-loop-line : goal.decreases-loop-line
decreases-loop-line l = length l.lines.lines
