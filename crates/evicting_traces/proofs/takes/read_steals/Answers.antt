use Rattle.std.proofs.Common.{ℕ, ◌+◌, ◌≤◌, List, Some, ap, sym, subst, ◌∙◌}
use Rattle.evicting_traces.specs.Calls.{read_steals}
use Rattle.evicting_traces.proofs.Rings.{past}
use Rattle.evicting_traces.proofs.Telling.{steals_none, steals_other, steals_on, steals_home}
use Rattle.evicting_traces.proofs.takes.read_steals.Goals as goal

pub returns-in_err-tried : goal.returns-in_err-tried
returns-in_err-tried c =
    c.from_residual.ensures ∙ sym (c.loop-place.invariant ∙ steals_none c.args.shape.now c.args.cpu c.args.hash c.loop-place.left c.in_ring-from.ensures.there c.in_err-tried.ensures)

pub returns-in_err-theft : goal.returns-in_err-theft
returns-in_err-theft c =
    c.from_residual-in_err-theft.ensures
    ∙ sym (c.loop-place.invariant ∙ steals_other c.args.shape.now c.args.cpu c.args.hash c.loop-place.left c.in_ring-from.ensures.there c.in_ok-tried.tried.now c.in_ok-tried.rest c.in_ok-tried.ensures (sym c.in_err-theft.ensures))

pub returns-in-Some : goal.returns-in-Some
returns-in-Some c =
    c.read_home.ensures
    ∙ sym (c.loop-place.invariant
    ∙ steals_home c.args.shape.now c.args.cpu c.args.hash c.loop-place.left c.in_ring-from.ensures.there c.in_ok-tried.tried.now c.in_ok-tried.rest c.in-Some.element c.in_ok-tried.ensures (sym c.in_ok-theft.ensures ∙ ap Some c.in-Some.is))

pub loop-place-preserved : goal.loop-place-preserved
loop-place-preserved c =
    c.loop-place.invariant
    ∙ steals_on c.args.shape.now c.args.cpu c.args.hash c.loop-place.left c.in_ring-from.ensures.there c.in_ok-tried.tried.now c.in_ok-tried.rest c.in_ok-tried.ensures (sym c.in_ok-theft.ensures ∙ ap Some c.in-None.is)

pub returns : goal.returns
returns c =
    sym
    (c.loop-place.invariant
    ∙ ap (λ (l : List ℕ). read_steals c.args.shape.now c.args.cpu c.args.hash l c.loop-place.left)
    (past c.args.start c.args.shape.now.cpus c.loop-place.place (subst (λ n. n + c.args.start ≤ c.loop-place.place) c.saturating_sub.ensures c.loop-place-test.false)))
