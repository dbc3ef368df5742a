use Rattle.std.proofs.Common.{List, Some, ap, sym, ◌∙◌, arith}
use Rattle.std.specs.Prelude.{is_some}
use Rattle.evicting_traces.specs.Parts.{evicted}
use Rattle.evicting_traces.specs.Reading.{Seen, turns_in}
use Rattle.evicting_traces.proofs.Grouping.{no_group, one_group, one_passed, all_passed}
use Rattle.evicting_traces.proofs.chase.first_group.Goals as goal

pub returns-in_err-seen : goal.returns-in_err-seen
returns-in_err-seen c = c.from_residual.ensures ∙ no_group c.loop-count.invariant c.in_err-seen.ensures

pub returns-then-not-is_evict : goal.returns-then-not-is_evict
returns-then-not-is_evict c =
    ap (λ (before : List Seen). Some ((turns_in before, c.in_ok-seen.seen.now), c.in_ok-seen.behind)) c.first.ensures
    ∙ one_group c.loop-count.invariant c.in_ok-seen.ensures (ap (λ (s : Seen). is_some (evicted s.turn.part)) (sym c.seen.view_is) ∙ sym c.is_evict.ensures ∙ c.if-not-is_evict.true)

pub loop-count-preserved : goal.loop-count-preserved
loop-count-preserved c =
    one_passed c.loop-count.invariant c.in_ok-seen.ensures (ap (λ (s : Seen). is_some (evicted s.turn.part)) (sym c.seen.view_is) ∙ sym c.is_evict.ensures ∙ c.if-not-is_evict.false)

pub returns : goal.returns
returns c = no_group c.loop-count.invariant (all_passed c.loop-count.invariant (omega (arith, c.loop-count-test.false, c.len-count-end.ensures)))
