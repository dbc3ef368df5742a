use Rattle.std.proofs.Common.{◌≡◌, ◌++◌, length}
use Rattle.map_run.proofs.copy_race.all_of.Given as goal

-- those so far, and those that are left
abbrev pub invariant-loop-reply : goal.invariant-loop-reply
invariant-loop-reply l = l.replies.items ++ l.queue ≡ l.fn.queue

abbrev pub decreases-loop-reply : goal.decreases-loop-reply
decreases-loop-reply l = length l.queue
