use Rattle.std.proofs.Common.{[], refl, sym, ◌∙◌}
use Rattle.trace_check.specs.Calls.{first_in}
use Rattle.trace_check.specs.Reading.{same_turns}
use Rattle.trace_check.proofs.Taking.{here, nowhere, no_group, says_nothing, others_stand, stands}
use Rattle.trace_check.proofs.next_key.read_head.Goals as goal

pub returns-in_err-group : goal.returns-in_err-group
returns-in_err-group c = rw c.from_residual.ensures (no_group c.args.bucket first_in (λ key before. same_turns [] before) c.args.turns.now (nowhere c.args.turns.now refl c.in_err-group.ensures))

pub returns-in_err-key : goal.returns-in_err-key
returns-in_err-key c = rw c.from_residual-in_err-key.ensures (says_nothing first_in (λ key before. same_turns [] before) (here c.args.turns.now refl c.in_ok-group.ensures c.group.view_is) c.in_err-key.ensures)

pub returns-then-is_empty : goal.returns-then-is_empty
returns-then-is_empty c = stands first_in (λ key before. same_turns [] before) c.in_ok-key.key.now (here c.args.turns.now refl c.in_ok-group.ensures c.group.view_is) c.in_ok-key.ensures (sym c.is_empty.ensures ∙ c.if-is_empty.true)

pub returns-else-is_empty : goal.returns-else-is_empty
returns-else-is_empty c = others_stand first_in (λ key before. same_turns [] before) c.in_ok-key.key.now (here c.args.turns.now refl c.in_ok-group.ensures c.group.view_is) c.in_ok-key.ensures (sym c.is_empty.ensures ∙ c.if-is_empty.false)
