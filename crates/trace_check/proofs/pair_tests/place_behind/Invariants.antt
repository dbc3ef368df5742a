use Rattle.std.proofs.Common.{◌≡◌, ◌+◌, ◌≤◌, drop, length, map}
use Rattle.trace_check.specs.Pairs.{are_first, pair_for}
use Rattle.trace_check.proofs.pair_tests.place_behind.Given as goal

abbrev pub invariant-loop-kept : goal.invariant-loop-kept
invariant-loop-kept l =
    (l.place ≤ length l.given) × (l.place ≡ l.from + l.kept-index)
    × (are_first (map (pair_for l.shape l.reader) l.all) (drop l.from l.given)
    ≡ are_first (map (pair_for l.shape l.reader) (drop l.kept-index l.all)) (drop l.place l.given))
