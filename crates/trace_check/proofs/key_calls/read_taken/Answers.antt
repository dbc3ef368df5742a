use Rattle.std.proofs.Common.{ℕ, Option, sym, ap, ◌∙◌}
use Rattle.place_words.specs.PlainTraces.{element_gone, pushes}
use Rattle.place_words.specs.Turns.{bucket_of_key}
use Rattle.trace_check.specs.Calls.{taken_in}
use Rattle.trace_check.specs.Reading.{same_turns}
use Rattle.trace_check.proofs.Taking.{here, nowhere, no_group, says_nothing, others_stand, stands}
use Rattle.trace_check.proofs.key_calls.read_taken.Goals as goal

pub returns-in_err-group : goal.returns-in_err-group
returns-in_err-group c = rw c.from_residual.ensures (no_group (bucket_of_key c.args.shape.now c.args.key.now) (taken_in c.args.key.now) (λ gone before. same_turns (pushes c.args.cpu (element_gone gone)) before) c.args.turns.now (nowhere c.args.turns.now c.bucket_number.ensures.value c.in_err-group.ensures))

pub returns-in_err-gone : goal.returns-in_err-gone
returns-in_err-gone c = rw c.from_residual-in_err-gone.ensures (says_nothing (taken_in c.args.key.now) (λ gone before. same_turns (pushes c.args.cpu (element_gone gone)) before) (here c.args.turns.now c.bucket_number.ensures.value c.in_ok-group.ensures c.group.view_is) c.in_err-gone.ensures)

pub returns-then-are_pushes : goal.returns-then-are_pushes
returns-then-are_pushes c = stands (taken_in c.args.key.now) (λ gone before. same_turns (pushes c.args.cpu (element_gone gone)) before) c.in_ok-gone.gone.now (here c.args.turns.now c.bucket_number.ensures.value c.in_ok-group.ensures c.group.view_is) c.in_ok-gone.ensures (ap (λ (gone : Option ℕ). same_turns (pushes c.args.cpu gone) c.group.inside.before) (sym c.element_gone.ensures) ∙ sym c.are_pushes.ensures ∙ c.if-are_pushes.true)

pub returns-else-are_pushes : goal.returns-else-are_pushes
returns-else-are_pushes c = others_stand (taken_in c.args.key.now) (λ gone before. same_turns (pushes c.args.cpu (element_gone gone)) before) c.in_ok-gone.gone.now (here c.args.turns.now c.bucket_number.ensures.value c.in_ok-group.ensures c.group.view_is) c.in_ok-gone.ensures (ap (λ (gone : Option ℕ). same_turns (pushes c.args.cpu gone) c.group.inside.before) (sym c.element_gone.ensures) ∙ sym c.are_pushes.ensures ∙ c.if-are_pushes.false)
