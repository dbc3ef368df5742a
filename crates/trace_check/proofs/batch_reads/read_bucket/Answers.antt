use Rattle.std.proofs.Common.{refl, sym, ◌∙◌}
use Rattle.place_words.specs.Walks.{walked_out}
use Rattle.trace_check.specs.Calls.{walked_in, pushes_all}
use Rattle.trace_check.specs.Reading.{same_turns}
use Rattle.trace_check.proofs.Taking.{here, nowhere, no_group, says_nothing, others_stand, stands}
use Rattle.trace_check.proofs.batch_reads.read_bucket.Goals as goal

pub returns-in_err-group : goal.returns-in_err-group
returns-in_err-group c =
    rw c.from_residual.ensures
    (no_group c.args.bucket (walked_in c.args.remove c.args.room) (λ result before. same_turns (pushes_all c.args.cpu (walked_out c.args.remove result)) before) c.args.turns.now
    (nowhere c.args.turns.now refl c.in_err-group.ensures))

pub returns-in_err-walked : goal.returns-in_err-walked
returns-in_err-walked c =
    rw c.from_residual-in_err-walked.ensures
    (says_nothing (walked_in c.args.remove c.args.room) (λ result before. same_turns (pushes_all c.args.cpu (walked_out c.args.remove result)) before)
    (here c.args.turns.now refl c.in_ok-group.ensures c.group.view_is) c.in_err-walked.ensures)

pub returns-then-are_taken_out : goal.returns-then-are_taken_out
returns-then-are_taken_out c =
    stands (walked_in c.args.remove c.args.room) (λ result before. same_turns (pushes_all c.args.cpu (walked_out c.args.remove result)) before) c.in_ok-walked.walked.now
    (here c.args.turns.now refl c.in_ok-group.ensures c.group.view_is) c.in_ok-walked.ensures (sym c.are_taken_out.ensures ∙ c.if-are_taken_out.true)

pub returns-else-are_taken_out : goal.returns-else-are_taken_out
returns-else-are_taken_out c =
    others_stand (walked_in c.args.remove c.args.room) (λ result before. same_turns (pushes_all c.args.cpu (walked_out c.args.remove result)) before) c.in_ok-walked.walked.now
    (here c.args.turns.now refl c.in_ok-group.ensures c.group.view_is) c.in_ok-walked.ensures (sym c.are_taken_out.ensures ∙ c.if-are_taken_out.false)
