use Rattle.std.proofs.Common.{sym, ◌∙◌}
use Rattle.call_check.proofs.FirstSpares.{none_at_first, some_at_first}
use Rattle.call_check.proofs.spares.first_spares.Goals as goal

pub returns-in_ok-first : goal.returns-in_ok-first
returns-in_ok-first c = c.in_ok-first.ensures ∙ sym (some_at_first c.args.shape.now c.requires (sym c.has_spares.ensures ∙ c.if-has_spares.true))

pub returns-else-has_spares : goal.returns-else-has_spares
returns-else-has_spares c = c.new.ensures.items ∙ sym (none_at_first c.args.shape.now (sym c.has_spares.ensures ∙ c.if-has_spares.false))
