use Rattle.std.proofs.Common.{[], sym, ◌∙◌}
use Rattle.place_words.specs.Turns.{bucket_of_key}
use Rattle.trace_check.specs.Calls.{found_in}
use Rattle.trace_check.specs.Reading.{same_turns}
use Rattle.trace_check.proofs.Taking.{here, nowhere, no_group, says_nothing, others_stand, stands}
use Rattle.trace_check.proofs.next_key.read_found.Goals as goal

pub returns-in_err-group : goal.returns-in_err-group
returns-in_err-group c = rw c.from_residual.ensures (no_group (bucket_of_key c.args.shape.now c.args.key.now) (found_in c.args.key.now) (λ found before. same_turns [] before) c.args.turns.now (nowhere c.args.turns.now c.bucket_number.ensures.value c.in_err-group.ensures))

pub returns-in_err-found : goal.returns-in_err-found
returns-in_err-found c = rw c.from_residual-in_err-found.ensures (says_nothing (found_in c.args.key.now) (λ found before. same_turns [] before) (here c.args.turns.now c.bucket_number.ensures.value c.in_ok-group.ensures c.group.view_is) c.in_err-found.ensures)

pub returns-then-is_empty : goal.returns-then-is_empty
returns-then-is_empty c = stands (found_in c.args.key.now) (λ found before. same_turns [] before) c.in_ok-found.found.now (here c.args.turns.now c.bucket_number.ensures.value c.in_ok-group.ensures c.group.view_is) c.in_ok-found.ensures (sym c.is_empty.ensures ∙ c.if-is_empty.true)

pub returns-else-is_empty : goal.returns-else-is_empty
returns-else-is_empty c = others_stand (found_in c.args.key.now) (λ found before. same_turns [] before) c.in_ok-found.found.now (here c.args.turns.now c.bucket_number.ensures.value c.in_ok-group.ensures c.group.view_is) c.in_ok-found.ensures (sym c.is_empty.ensures ∙ c.if-is_empty.false)
