use Rattle.std.proofs.Common.{eqb, ap, ◌∙◌, rules}
use Rattle.std.specs.Prelude.{filter}
use Rattle.std.proofs.lemmas.List.Sorted.{IsNonDecreasingBy-from_sort_by_key, answers_always}
use Rattle.call_check.specs.declared.moved.Ticketed.{Ticketed}
use Rattle.call_check.proofs.GoneTurns.{permuted, same_by_ticket}
use Rattle.call_check.proofs.moved.by_ticket.Goals as goal

pub returns-clause-rise : goal.returns-clause-rise
returns-clause-rise c = IsNonDecreasingBy-from_sort_by_key (λ turn. turn.ticket) _ c.in_ok-sort_by_key.ensures.sorted (λ a r q k. search rules)

pub returns-clause-same : goal.returns-clause-same
returns-clause-same c = λ ticket.
    same_by_ticket _ _ (c.in_ok-sort_by_key.ensures.stable (λ turn. turn.ticket) (answers_always _ _ _ (λ f a r g h. search rules))) ticket
    ∙ ap (filter (λ (turn : Ticketed). eqb turn.ticket ticket)) c.in_ok-order.ensures

pub returns-clause-all : goal.returns-clause-all
returns-clause-all c = permuted _ _ _ c.in_ok-order.ensures c.in_ok-sort_by_key.ensures.permutation
