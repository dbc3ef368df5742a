use Rattle.std.proofs.Common.{◌≡◌, ◌<◌, ℕ, List, None, Some, sym, ap, ◌∙◌, subst}
use Rattle.std.specs.Prelude.{All}
use Rattle.std.proofs.lemmas.List.Elements.{All-head, All-rest}
use Rattle.map_types.specs.declared.attr.Shape.{Shape}
use Rattle.map_types.specs.Stored.{Stored}
use Rattle.place_words.specs.Turns.{ring}
use Rattle.lru_ops.specs.Shared.{StoleRound}
use Rattle.lru_ops.proofs.StolenRounds.{round_none, round_more, steals_on, can_bring, round_got}
use Rattle.lru_ops.proofs.steal.steal_round.Goals as goal

pub loop-from-init : goal.loop-from-init
loop-from-init g c =
    let ring_is : c.into_iter-from-iterator.result ≡ ring c.args.cursor c.args.table.now.shape.cpus = c.into_iter-from-iterator.ensures.into_iter_gives ∙ (c.of-from-items.ensures.exact ∙ ap (λ (z : Shape). ring c.args.cursor z.cpus) c.shape.ensures) in (
      c.requires.can,
      subst (λ (z : List ℕ × Shape). All (λ cpu. cpu < z.1.cpus) z.0) (λ i. (sym c.into_iter-from-iterator.ensures.into_iter_gives i, c.shape.ensures i)) c.of-from-items.ensures.round.below,
      λ after found round. subst (λ (z : List ℕ). StoleRound c.args.table.now c.args.hash z c.args.pass.now after found) ring_is round,
    )

pub steal_from-requires-clause-can : goal.steal_from-requires-clause-can
steal_from-requires-clause-can g c κs within = c.loop-from.invariant.0

pub steal_from-requires-clause-there : goal.steal_from-requires-clause-there
steal_from-requires-clause-there g c κs within =
    All-head (λ (cpu : ℕ). cpu < c.args.table.now.shape.cpus) c.in-Some.from c.next.new.self (subst (All (λ (cpu : ℕ). cpu < c.args.table.now.shape.cpus)) c.in-Some.ensures.steps c.loop-from.invariant.1)

pub bring_home-requires-clause-can : goal.bring_home-requires-clause-can
bring_home-requires-clause-can g c κs within = can_bring c.loop-from.invariant.0 c.in-Some-steal_from.ensures c.element-element.result (c.element-element.ensures ∙ ap (λ (z : Stored). z.element) c.body.ensures)

pub returns-in-Some-steal_from : goal.returns-in-Some-steal_from
returns-in-Some-steal_from g c =
    c.loop-from.invariant.2 c.bring_home.new.pass (Some c.in-Some-steal_from.body)
    (subst (λ (z : List ℕ). StoleRound c.args.table.now c.args.hash z c.loop-from.pass c.bring_home.new.pass (Some c.in-Some-steal_from.body)) (sym c.in-Some.ensures.steps)
    (round_got c.loop-from.invariant.0 c.in-Some-steal_from.ensures c.next.new.self (c.element-element.ensures ∙ ap (λ (z : Stored). z.element) c.body.ensures) c.bring_home.ensures))

pub loop-from-preserved : goal.loop-from-preserved
loop-from-preserved g c = (
  steals_on c.in_default.ensures c.loop-from.invariant.0,
  All-rest (λ (cpu : ℕ). cpu < c.args.table.now.shape.cpus) c.in-Some.from c.next.new.self c.loop-from.from-iterator c.in-Some.ensures.steps c.loop-from.invariant.1,
  λ after found round.
      c.loop-from.invariant.2 after found
      (subst (λ (z : List ℕ). StoleRound c.args.table.now c.args.hash z c.loop-from.pass after found) (sym c.in-Some.ensures.steps) (round_more c.in_default.ensures round)),
)

pub returns : goal.returns
returns g c =
    c.loop-from.invariant.2 c.loop-from.pass None
    (subst (λ (z : List ℕ). StoleRound c.args.table.now c.args.hash z c.loop-from.pass c.loop-from.pass None) (sym c.in-None.ensures.steps.0)
    (round_none c.args.hash c.loop-from.pass c.requires.evicts.1))
