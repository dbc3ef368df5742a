use Rattle.std.proofs.Common.{◌-◌, ◌≤◌, vec_len}
use Rattle.run_ends.specs.SourceReads.{TakesFront}
use Rattle.run_ends.proofs.reading.read_all.Given as goal

abbrev pub invariant-loop-buffer : goal.invariant-loop-buffer
invariant-loop-buffer g l =
    TakesFront (g.S.Source.left l.fn.source) (g.S.Source.left l.source) l.bytes.items
    × (vec_len l.bytes ≤ 16777217)
    × (g.S.Source.faults l.fn.source ≤ g.S.Source.faults l.source)

abbrev pub decreases-loop-buffer : goal.decreases-loop-buffer
decreases-loop-buffer g l = 16777217 - vec_len l.bytes
