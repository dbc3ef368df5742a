use Rattle.std.specs.Prelude.{◌≡◌, take}
use Rattle.map_report.specs.Summary.{evicted}
use Rattle.lru_compare.proofs.comparison.evicted.Given as goal

abbrev pub invariant-loop-history : goal.invariant-loop-history
invariant-loop-history l = l.total ≡ evicted (take l.history-index l.histories)
