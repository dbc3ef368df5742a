use Rattle.std.proofs.Common.{sym, ◌∙◌}
use Rattle.call_check.proofs.Last.{last_is, none_last}
use Rattle.call_check.proofs.spares.left_after.Goals as goal

pub returns-in-Some : goal.returns-in-Some
returns-in-Some c = sym (last_is _ c.args.changes.now c.in-Some.change.now (sym c.in-Some.ensures.value))

pub returns-in-None : goal.returns-in-None
returns-in-None c = c.spare_at.ensures ∙ sym (none_last _ c.args.changes.now (sym c.in-None.ensures.value))
