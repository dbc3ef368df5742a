use Rattle.std.proofs.Common.{◌≡◌, ◌++◌, ◌≤◌}
use Rattle.place_words.specs.Shares.{pushed_from}
use Rattle.place_words.proofs.opening.push_from.Given as goal

abbrev pub invariant-loop-left : goal.invariant-loop-left
invariant-loop-left l = record {
  few : l.left ≤ l.count;
  same : l.list.items ++ pushed_from l.first l.left ≡ l.initial.list.items ++ pushed_from l.first l.count;
}

abbrev pub decreases-loop-left : goal.decreases-loop-left
decreases-loop-left l = l.left
