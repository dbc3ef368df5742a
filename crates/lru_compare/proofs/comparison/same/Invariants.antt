use Rattle.std.specs.Prelude.{◌≡◌, ◌+◌}
use Rattle.std.specs.Iterator.Adapters.{zip_first, zip_second}
use Rattle.std.specs.Slice.Iter.{iter_rest}
use Rattle.lru_compare.specs.Comparison.{same}
use Rattle.lru_compare.proofs.comparison.same.Given as goal

-- those counted and those that are left are all
abbrev pub invariant-loop-reply : goal.invariant-loop-reply
invariant-loop-reply l = l.count + same (iter_rest (zip_first l.reply-iterator)) (iter_rest (zip_second l.reply-iterator)) ≡ same l.replies l.others
