use Rattle.std.proofs.Common.{◌≡◌, ◌++◌, length, reverse}
use Rattle.bucket_chain.proofs.cells.Cells.put_front.Given as goal

abbrev pub invariant-loop-body : goal.invariant-loop-body
invariant-loop-body l = reverse l.front ++ l.self ≡ reverse l.initial.front ++ l.initial.self

abbrev pub decreases-loop-body : goal.decreases-loop-body
decreases-loop-body l = length l.front
