use Rattle.std.proofs.Common.{sym, ◌∙◌}
use Rattle.place_words.specs.PlainTraces.{pushes}
use Rattle.place_words.specs.Turns.{bucket_of_key}
use Rattle.trace_check.specs.Calls.{gone_in}
use Rattle.trace_check.specs.Reading.{same_turns}
use Rattle.trace_check.proofs.Taking.{here, nowhere, no_group, says_nothing, others_stand, stands}
use Rattle.trace_check.proofs.key_calls.read_gone.Goals as goal

pub returns-in_err-group : goal.returns-in_err-group
returns-in_err-group c = c.from_residual.ensures ∙ sym (no_group (bucket_of_key c.args.shape.now c.args.key.now) (gone_in c.args.key.now) (λ gone before. same_turns (pushes c.args.cpu gone) before) c.args.turns.now (nowhere c.args.turns.now c.bucket_number.ensures.value c.in_err-group.ensures))

pub returns-in_err-gone : goal.returns-in_err-gone
returns-in_err-gone c = c.from_residual-in_err-gone.ensures ∙ sym (says_nothing (gone_in c.args.key.now) (λ gone before. same_turns (pushes c.args.cpu gone) before) (here c.args.turns.now c.bucket_number.ensures.value c.in_ok-group.ensures c.group.view_is) (sym c.in_err-gone.ensures))

pub returns-then-are_pushes : goal.returns-then-are_pushes
returns-then-are_pushes c = sym (stands (gone_in c.args.key.now) (λ gone before. same_turns (pushes c.args.cpu gone) before) c.in_ok-gone.gone (here c.args.turns.now c.bucket_number.ensures.value c.in_ok-group.ensures c.group.view_is) (sym c.in_ok-gone.ensures) (sym c.are_pushes.ensures ∙ c.if-are_pushes.true))

pub returns-else-are_pushes : goal.returns-else-are_pushes
returns-else-are_pushes c = sym (others_stand (gone_in c.args.key.now) (λ gone before. same_turns (pushes c.args.cpu gone) before) c.in_ok-gone.gone (here c.args.turns.now c.bucket_number.ensures.value c.in_ok-group.ensures c.group.view_is) (sym c.in_ok-gone.ensures) (sym c.are_pushes.ensures ∙ c.if-are_pushes.false))
