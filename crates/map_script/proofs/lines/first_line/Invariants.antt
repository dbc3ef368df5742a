use Rattle.std.proofs.Common.{◌≡◌, length}
use Rattle.map_script.specs.Lines.{lines_from, end_from}
use Rattle.map_script.proofs.lines.first_line.Given as goal

abbrev pub invariant-loop-rest : goal.invariant-loop-rest
invariant-loop-rest l =
    (lines_from l.next l.rest ≡ lines_from l.number l.text) × (end_from l.next l.rest ≡ end_from l.number l.text)

abbrev pub decreases-loop-rest : goal.decreases-loop-rest
decreases-loop-rest l = length l.rest
