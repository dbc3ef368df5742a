use Rattle.std.proofs.Common.{◌++◌, ◌∙◌}
use Rattle.place_words.specs.Entries.{entry_read}
use Rattle.place_words.specs.Interleaving.{tickets_of}
use Rattle.step_check.specs.Answers.{view_of}
use Rattle.step_check.specs.Begun.{around_in, turns_of}
use Rattle.step_check.proofs.LocksTaken.{around_after, own_ticket, turn_told}
use Rattle.step_check.proofs.RunLemmas.{are_words, same_shape}
use Rattle.step_check.proofs.TurnRuns.{no_lists, run_all, run_not_around, run_not_taken}
use Rattle.step_check.proofs.flaw.run_turn.Goals as goal

pub returns-then-not-around-clause-ran : goal.returns-then-not-around-clause-ran
returns-then-not-around-clause-ran c = λ before lists begun.
    run_not_around (turns_of c.args.histories.now c.args.turns.now) c.args.ticket before lists (view_of c.args.kept.now) (view_of c.take_around.new.kept) c.take_around.new.begun c.in_ok-around.around (c.in_ok-around.ensures.taken before begun) c.if-not-around.true

pub returns-then-not-taken-clause-ran : goal.returns-then-not-taken-clause-ran
returns-then-not-taken-clause-ran c = λ before lists begun.
    run_not_taken (turns_of c.args.histories.now c.args.turns.now) c.args.ticket before lists (view_of c.args.kept.now) (view_of c.take_around.new.kept) (view_of c.take_one.new.kept) c.take_around.new.begun c.take_one.new.begun c.in_ok-around.around c.in_ok-taken.taken
    (own_ticket c.args.histories.now c.args.turns.now c.args.ticket c.requires.turns c.requires.within) (around_after c.args.histories.now c.args.turns.now c.args.ticket c.requires.turns)
    (c.in_ok-around.ensures.taken before begun) c.if-not-around.false (λ so_far. c.in_ok-taken.ensures.taken (tickets_of (around_in (turns_of c.args.histories.now c.args.turns.now) c.args.ticket) ++ before) so_far) c.if-not-taken.true

pub returns-clause-words : goal.returns-clause-words
returns-clause-words c = are_words (view_of c.take_one.new.kept) (view_of c.run_part.new.kept) _ c.in_ok-given.given (c.in_ok-given.ensures no_lists)

pub returns-clause-shape : goal.returns-clause-shape
returns-clause-shape c = same_shape (view_of c.take_one.new.kept) (view_of c.run_part.new.kept) _ c.in_ok-given.given (c.in_ok-given.ensures no_lists) ∙ (c.in_ok-taken.ensures.shape ∙ c.in_ok-around.ensures.shape)

pub returns-clause-ran : goal.returns-clause-ran
returns-clause-ran c = λ before lists begun.
    run_all (turns_of c.args.histories.now c.args.turns.now) c.args.ticket before lists (view_of c.args.kept.now) (view_of c.take_around.new.kept) (view_of c.take_one.new.kept) (view_of c.run_part.new.kept) c.take_around.new.begun c.take_one.new.begun c.in_ok-around.around c.in_ok-taken.taken c.in_ok-given.given
    c.bucket_around-bucket.result record { lock = c.lock_at.result; entry = entry_read c.entry_at-entry.result }
    (own_ticket c.args.histories.now c.args.turns.now c.args.ticket c.requires.turns c.requires.within) (around_after c.args.histories.now c.args.turns.now c.args.ticket c.requires.turns)
    (c.in_ok-around.ensures.taken before begun) c.if-not-around.false (λ so_far. c.in_ok-taken.ensures.taken (tickets_of (around_in (turns_of c.args.histories.now c.args.turns.now) c.args.ticket) ++ before) so_far) c.if-not-taken.false
    (c.in_ok-taken.ensures.shape ∙ c.in_ok-around.ensures.shape) c.bucket_around-bucket.ensures
    (turn_told c.args.histories.now c.args.turns.now c.args.ticket c.index-place.result.now _ c.lock_at.result (entry_read c.entry_at-entry.result) c.requires.within c.index-place.ensures c.lock_at.ensures c.entry_at-entry.ensures)
    (c.in_ok-given.ensures lists)
