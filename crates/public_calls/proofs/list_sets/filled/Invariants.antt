use Rattle.std.proofs.Common.{◌≡◌}
use Rattle.public_calls.proofs.list_sets.filled.Given as goal

abbrev pub invariant-loop-element : goal.invariant-loop-element
invariant-loop-element l = l.set.elements ≡ 6
