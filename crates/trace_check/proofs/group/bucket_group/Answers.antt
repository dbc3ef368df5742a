use Rattle.std.proofs.Common.{List, None, Some, ap, sym, ◌∙◌, arith}
use Rattle.place_words.specs.Turns.{Turn}
use Rattle.trace_check.specs.Reading.{is_free}
use Rattle.trace_check.proofs.Grouping.{no_bucket_group, one_bucket_group, one_passed, all_passed}
use Rattle.trace_check.proofs.group.bucket_group.Goals as goal

pub returns-in_err-turn : goal.returns-in_err-turn
returns-in_err-turn c = c.from_residual.ensures ∙ no_bucket_group c.args.bucket c.loop-count.invariant c.in_err-turn.ensures

pub returns-in_err-part : goal.returns-in_err-part
returns-in_err-part c =
    c.from_residual-in_err-part.ensures
    ∙ one_bucket_group c.args.bucket None c.loop-count.invariant c.in_ok-turn.ensures
    (ap (λ (t : Turn). is_free t.part) (sym c.turn.view_is) ∙ sym c.is_free.ensures ∙ c.if-not-is_free.true) c.in_err-part.ensures

pub returns-then-not-is_free : goal.returns-then-not-is_free
returns-then-not-is_free c =
    ap (λ (before : List Turn). Some ((before, c.in_ok-part.part.now), c.in_ok-turn.behind)) c.first.ensures
    ∙ one_bucket_group c.args.bucket (Some c.in_ok-part.part.now) c.loop-count.invariant c.in_ok-turn.ensures
    (ap (λ (t : Turn). is_free t.part) (sym c.turn.view_is) ∙ sym c.is_free.ensures ∙ c.if-not-is_free.true) c.in_ok-part.ensures

pub loop-count-preserved : goal.loop-count-preserved
loop-count-preserved c =
    one_passed c.loop-count.invariant c.in_ok-turn.ensures
    (ap (λ (t : Turn). is_free t.part) (sym c.turn.view_is) ∙ sym c.is_free.ensures ∙ c.if-not-is_free.false)

pub returns : goal.returns
returns c =
    no_bucket_group c.args.bucket c.loop-count.invariant
    (all_passed c.loop-count.invariant (omega (arith, c.loop-count-test.false, c.len-count-end.ensures)))
