use Rattle.std.proofs.Common.{◌≡◌, length}
use Rattle.map_script.specs.Reading.{body_with, body_from}
use Rattle.map_script.proofs.BodyLines.{SoFar}
use Rattle.map_script.proofs.calls.read_each.Given as goal

abbrev pub invariant-loop-next : goal.invariant-loop-next
invariant-loop-next l =
    SoFar l.head.version l.head.shape (body_from l.head.version l.head.shape (body_with l.fn.calls.items l.fn.cuts.items) l.fn.lines.lines) (body_with l.calls.items l.cuts.items) l.room l.lines.lines
    × (l.lines.end ≡ l.fn.lines.end)

abbrev pub decreases-loop-next : goal.decreases-loop-next
decreases-loop-next l = length l.lines.lines
