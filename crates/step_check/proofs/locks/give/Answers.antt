use Rattle.std.proofs.Common.{◌∙◌, ap, not, eqb}
use Rattle.std.specs.Prelude.{filter}
use Rattle.step_check.specs.Answers.{view_of}
use Rattle.step_check.proofs.HeldLemmas.{did_give}
use Rattle.step_check.proofs.locks.give.Goals as goal

pub returns : goal.returns
returns c =
    did_give (view_of c.args.kept.now) c.args.cpu c.lock_number-number.result c.args.lock c.in_ok-held.held.items c.requires c.if-not-holds.ensures c.lock_number-number.ensures.exact
    (c.in_ok-held.ensures ∙ ap (filter (λ hold. not (eqb hold.0 c.lock_number-number.result))) c.as_slice.ensures.value)
