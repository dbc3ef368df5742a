use Rattle.std.proofs.Common.{◌≡◌, ◌++◌, length}
use Rattle.map_script.specs.CopyLines.{copied_behind}
use Rattle.map_script.specs.Reading.{body_with}
use Rattle.map_script.proofs.CopyLemmas.{CopiedSoFar}
use Rattle.map_script.proofs.copied.copy_each.Given as goal

abbrev pub invariant-loop-next : goal.invariant-loop-next
invariant-loop-next l =
    CopiedSoFar l.head.version l.head.shape (λ more. copied_behind l.head.version l.head.shape l.fn.held (body_with l.fn.calls.items l.fn.cuts.items) (l.fn.lines.lines ++ more)) l.held (body_with l.calls.items l.cuts.items) l.room l.lines.lines
    × (l.lines.end ≡ l.fn.lines.end)

abbrev pub decreases-loop-next : goal.decreases-loop-next
decreases-loop-next l = length l.lines.lines
