use Rattle.std.specs.Prelude.{◌≡◌, ◌+◌}
use Rattle.std.specs.Iterator.Adapters.{zip_first, zip_second}
use Rattle.std.specs.Slice.Iter.{iter_rest}
use Rattle.lru_compare.specs.Comparison.{hits}
use Rattle.lru_compare.proofs.comparison.hits.Given as goal

-- those counted and those that are left are all
abbrev pub invariant-loop-call : goal.invariant-loop-call
invariant-loop-call l = l.count + hits (iter_rest (zip_first l.call-iterator)) (iter_rest (zip_second l.call-iterator)) ≡ hits l.calls l.replies
