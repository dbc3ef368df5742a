use Rattle.std.specs.Prelude.{◌≡◌, take}
use Rattle.lru_compare.specs.Comparison.{lookups}
use Rattle.lru_compare.proofs.comparison.lookups.Given as goal

abbrev pub invariant-loop-call : goal.invariant-loop-call
invariant-loop-call l = l.count ≡ lookups (take l.call-index l.calls)
