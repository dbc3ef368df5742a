use Rattle.std.proofs.Common.{◌<◌, subst, eqb, ap, sym, ◌∙◌, rules}
use Rattle.std.specs.Prelude.{filter}
use Rattle.std.proofs.lemmas.List.Sorted.{IsNonDecreasingBy-from_sort_by_key, answers_always}
use Rattle.std.proofs.lemmas.List.Sorted.{All-permutation}
use Rattle.call_check.specs.Spares.{AreLow}
use Rattle.call_check.specs.declared.changes.Change.{Change}
use Rattle.call_check.proofs.SparesAre.{same_by_moment}
use Rattle.call_check.proofs.changes.sorted_changes.Goals as goal

pub returns-clause-rise : goal.returns-clause-rise
returns-clause-rise c = IsNonDecreasingBy-from_sort_by_key (λ change. change.moment) _ c.in_ok-sort_by_key.ensures.sorted (λ a r q k. search rules)

pub returns-clause-same : goal.returns-clause-same
returns-clause-same c = λ moment.
    same_by_moment _ _ (c.in_ok-sort_by_key.ensures.stable (λ change. change.moment) (answers_always _ _ _ (λ f a r g h. search rules))) moment
    ∙ ap (filter (λ (change : Change). eqb change.moment moment)) c.in_ok-changes.ensures

pub returns-clause-low : goal.returns-clause-low
returns-clause-low c = λ bound low.
    All-permutation (λ (change : Change). change.moment < bound) _ _ c.in_ok-sort_by_key.ensures.permutation (subst (AreLow bound) (sym c.in_ok-changes.ensures) low)
