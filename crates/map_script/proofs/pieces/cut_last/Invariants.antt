use Rattle.std.proofs.Common.{◌≡◌, ◌≤◌, length, drop, count_by}
use Rattle.map_script.specs.Lines.{is_line_feed}
use Rattle.map_script.proofs.pieces.cut_last.Given as goal

abbrev pub invariant-loop-end : goal.invariant-loop-end
invariant-loop-end l = (l.end ≤ length l.text) × (count_by is_line_feed (drop l.end l.text) ≡ 0)

abbrev pub decreases-loop-end : goal.decreases-loop-end
decreases-loop-end l = l.end
