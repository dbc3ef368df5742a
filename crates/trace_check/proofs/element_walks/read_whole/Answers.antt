use Rattle.std.proofs.Common.{[], false, refl, sym, ◌∙◌}
use Rattle.trace_check.specs.Calls.{walked_in}
use Rattle.trace_check.specs.Reading.{same_turns}
use Rattle.trace_check.proofs.Taking.{here, nowhere, no_group, says_nothing, others_stand, stands}
use Rattle.trace_check.proofs.element_walks.read_whole.Goals as goal

pub returns-in_err-group : goal.returns-in_err-group
returns-in_err-group c =
    rw c.from_residual.ensures
    (no_group c.args.bucket (walked_in false c.args.room) (λ result before. same_turns [] before) c.args.turns.now (nowhere c.args.turns.now refl c.in_err-group.ensures))

pub returns-in_err-walked : goal.returns-in_err-walked
returns-in_err-walked c =
    rw c.from_residual-in_err-walked.ensures
    (says_nothing (walked_in false c.args.room) (λ result before. same_turns [] before) (here c.args.turns.now refl c.in_ok-group.ensures c.group.view_is) c.in_err-walked.ensures)

pub returns-then-is_empty : goal.returns-then-is_empty
returns-then-is_empty c =
    stands (walked_in false c.args.room) (λ result before. same_turns [] before) c.in_ok-walked.walked.now (here c.args.turns.now refl c.in_ok-group.ensures c.group.view_is)
    c.in_ok-walked.ensures (sym c.is_empty.ensures ∙ c.if-is_empty.true)

pub returns-else-is_empty : goal.returns-else-is_empty
returns-else-is_empty c =
    others_stand (walked_in false c.args.room) (λ result before. same_turns [] before) c.in_ok-walked.walked.now (here c.args.turns.now refl c.in_ok-group.ensures c.group.view_is)
    c.in_ok-walked.ensures (sym c.is_empty.ensures ∙ c.if-is_empty.false)
