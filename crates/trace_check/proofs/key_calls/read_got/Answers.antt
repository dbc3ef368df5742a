use Rattle.std.proofs.Common.{[], sym, ◌∙◌}
use Rattle.place_words.specs.Turns.{bucket_of_key}
use Rattle.trace_check.specs.Calls.{got_in}
use Rattle.trace_check.specs.Reading.{same_turns}
use Rattle.trace_check.proofs.Taking.{here, nowhere, no_group, says_nothing, others_stand, stands}
use Rattle.trace_check.proofs.key_calls.read_got.Goals as goal

pub returns-in_err-group : goal.returns-in_err-group
returns-in_err-group c = c.from_residual.ensures ∙ sym (no_group (bucket_of_key c.args.shape.now c.args.key.now) (got_in c.args.side c.args.key.now) (λ got before. same_turns [] before) c.args.turns.now (nowhere c.args.turns.now c.bucket_number.ensures.value c.in_err-group.ensures))

pub returns-in_err-got : goal.returns-in_err-got
returns-in_err-got c = c.from_residual-in_err-got.ensures ∙ sym (says_nothing (got_in c.args.side c.args.key.now) (λ got before. same_turns [] before) (here c.args.turns.now c.bucket_number.ensures.value c.in_ok-group.ensures c.group.view_is) (sym c.in_err-got.ensures))

pub returns-then-is_empty : goal.returns-then-is_empty
returns-then-is_empty c = sym (stands (got_in c.args.side c.args.key.now) (λ got before. same_turns [] before) c.in_ok-got.got (here c.args.turns.now c.bucket_number.ensures.value c.in_ok-group.ensures c.group.view_is) (sym c.in_ok-got.ensures) (sym c.is_empty.ensures ∙ c.if-is_empty.true))

pub returns : goal.returns
returns c = sym (others_stand (got_in c.args.side c.args.key.now) (λ got before. same_turns [] before) c.in_ok-got.got (here c.args.turns.now c.bucket_number.ensures.value c.in_ok-group.ensures c.group.view_is) (sym c.in_ok-got.ensures) (sym c.is_empty.ensures ∙ c.if-is_empty.false))
