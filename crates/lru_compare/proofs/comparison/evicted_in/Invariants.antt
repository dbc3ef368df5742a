use Rattle.std.specs.Prelude.{◌≡◌, count_by, take}
use Rattle.map_report.specs.Summary.{evicts}
use Rattle.lru_compare.proofs.comparison.evicted_in.Given as goal

abbrev pub invariant-loop-index : goal.invariant-loop-index
invariant-loop-index l = l.count ≡ count_by (λ entry. evicts entry.part) (take l.index l.entries)
