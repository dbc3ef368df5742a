use Rattle.std.proofs.Common.{◌≡◌, ◌≤◌, ◌+◌, ◌++◌, drop}
use Rattle.lru_compare.specs.Strict.{held_after, replies_from}
use Rattle.lru_compare.proofs.cache.replies_of.Given as goal

-- the replies so far and those still to come are those of all calls, and at most one pair was evicted for each call
abbrev pub invariant-loop-call : goal.invariant-loop-call
invariant-loop-call l = record {
  held : held_after l.cache (drop l.call-index l.calls) ≡ held_after l.initial.cache l.calls;
  replies : l.replies.items ++ replies_from l.cache (drop l.call-index l.calls) ≡ replies_from l.initial.cache l.calls;
  count : l.cache.evicted ≤ l.initial.cache.evicted + l.call-index;
}
