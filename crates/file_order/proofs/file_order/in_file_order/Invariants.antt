use Rattle.std.proofs.Common.{◌≡◌, ℕ, ◌<◌, length, take}
use Rattle.file_order.proofs.FileOrder.{AreTaken}
use Rattle.file_order.proofs.file_order.in_file_order.Given as goal

-- the replies to the calls so far were taken
abbrev pub invariant-loop-call : goal.invariant-loop-call
invariant-loop-call l = record {
  count : length l.all.items ≡ l.call-index;
  lists : length l.replies.items ≡ length l.fn.replies.items;
  each : (cpu : ℕ) → cpu < length l.fn.replies.items → AreTaken (take l.call-index l.calls) l.calls l.all.items l.replies.items l.fn.replies.items cpu;
}
