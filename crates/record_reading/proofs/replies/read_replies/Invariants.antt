use Rattle.std.proofs.Common.{◌≡◌}
use Rattle.record_reading.proofs.ReplyLemmas.{RepliesSoFar}
use Rattle.record_reading.proofs.replies.read_replies.Given as goal

abbrev pub invariant-loop-index : goal.invariant-loop-index
invariant-loop-index l = RepliesSoFar l.script.shape l.script.calls l.index l.initial.lines.0 l.lines.0 l.replies × (l.lines.1 ≡ l.initial.lines.1)
