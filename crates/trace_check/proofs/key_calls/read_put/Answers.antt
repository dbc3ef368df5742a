use Rattle.std.proofs.Common.{sym, ◌∙◌}
use Rattle.place_words.specs.Turns.{bucket_of_key}
use Rattle.trace_check.specs.Calls.{put_in, looks_for}
use Rattle.trace_check.proofs.Taking.{here, nowhere, no_group, says_nothing, others_stand, stands}
use Rattle.trace_check.proofs.key_calls.read_put.Goals as goal

pub returns-in_err-group : goal.returns-in_err-group
returns-in_err-group c = c.from_residual.ensures ∙ sym (no_group (bucket_of_key c.args.shape.now c.args.asked.now.key.now) (put_in c.args.asked.now.side c.args.asked.now.flags c.args.asked.now.key.now c.args.asked.now.value.now) (looks_for c.args.shape.now c.args.cpu c.args.spare) c.args.turns.now (nowhere c.args.turns.now c.bucket_number.ensures.value c.in_err-group.ensures))

pub returns-in_err-put : goal.returns-in_err-put
returns-in_err-put c = c.from_residual-in_err-put.ensures ∙ sym (says_nothing (put_in c.args.asked.now.side c.args.asked.now.flags c.args.asked.now.key.now c.args.asked.now.value.now) (looks_for c.args.shape.now c.args.cpu c.args.spare) (here c.args.turns.now c.bucket_number.ensures.value c.in_ok-group.ensures c.group.view_is) (sym c.in_err-put.ensures))

pub returns-then-looks_for : goal.returns-then-looks_for
returns-then-looks_for c = sym (stands (put_in c.args.asked.now.side c.args.asked.now.flags c.args.asked.now.key.now c.args.asked.now.value.now) (looks_for c.args.shape.now c.args.cpu c.args.spare) c.in_ok-put.put (here c.args.turns.now c.bucket_number.ensures.value c.in_ok-group.ensures c.group.view_is) (sym c.in_ok-put.ensures) (sym c.looks_for.ensures ∙ c.if-looks_for.true))

pub returns-else-looks_for : goal.returns-else-looks_for
returns-else-looks_for c = sym (others_stand (put_in c.args.asked.now.side c.args.asked.now.flags c.args.asked.now.key.now c.args.asked.now.value.now) (looks_for c.args.shape.now c.args.cpu c.args.spare) c.in_ok-put.put (here c.args.turns.now c.bucket_number.ensures.value c.in_ok-group.ensures c.group.view_is) (sym c.in_ok-put.ensures) (sym c.looks_for.ensures ∙ c.if-looks_for.false))
