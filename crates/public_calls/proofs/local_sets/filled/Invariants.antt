use Rattle.std.proofs.Common.{◌≡◌}
use Rattle.public_calls.proofs.local_sets.filled.Given as goal

abbrev pub invariant-loop-element : goal.invariant-loop-element
invariant-loop-element l = (l.lists.elements ≡ 5) × (l.lists.free.spare ≡ 5)
