use Rattle.std.proofs.Common.{◌≡◌, ◌++◌, ◌≤◌}
use Rattle.std.specs.Prelude.{filter, slice_index_or}
use Rattle.place_words.specs.declared.owner.Owner.TheVariants as names
use Rattle.place_words.specs.Shares.{pushed_from}
use Rattle.place_words.specs.Openings.{is_free}
use Rattle.place_words.proofs.opening.only_free.Given as goal

abbrev pub invariant-loop-left : goal.invariant-loop-left
invariant-loop-left l = record {
  few : l.left ≤ l.count;
  same : l.list.items ++ filter (λ e. is_free (slice_index_or l.owners e names.Free)) (pushed_from l.first l.left) ≡ filter (λ e. is_free (slice_index_or l.owners e names.Free)) (pushed_from l.first l.count);
}

abbrev pub decreases-loop-left : goal.decreases-loop-left
decreases-loop-left l = l.left
