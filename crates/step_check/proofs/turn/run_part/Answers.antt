use Rattle.std.proofs.Common.{ap, map, ◌∙◌}
use Rattle.place_words.specs.Entries.{part_read}
use Rattle.place_words.specs.Interleaving.{does, seen_by}
use Rattle.step_check.specs.Answers.{view_of}
use Rattle.step_check.specs.Ran.{step_of}
use Rattle.step_check.proofs.RunLemmas.{part_not, part_unseen, part_given, ran_give, answered_ok, are_words}
use Rattle.step_check.proofs.turn.run_part.Goals as goal

pub returns-then-not-run_changes : goal.returns-then-not-run_changes
returns-then-not-run_changes c = λ lists.
    part_not (view_of c.args.kept.now) (view_of c.run_changes.new.kept) (map does (map (step_of c.args.cpu) c.as_slice.result.now)) _ _ _ c.run_changes.result
    (ap (map does) (ap (map (step_of c.args.cpu)) c.as_slice.ensures.value ∙ c.in_ok-changes.ensures)) c.run_changes.ensures c.if-not-run_changes.true

pub returns-then-not-all_seen : goal.returns-then-not-all_seen
returns-then-not-all_seen c = λ lists.
    part_unseen (view_of c.args.kept.now) (view_of c.run_changes.new.kept) (map does (map (step_of c.args.cpu) c.as_slice.result.now)) _ (seen_by (part_read c.args.part)) _ c.run_changes.result c.all_seen.result
    (ap (map does) (ap (map (step_of c.args.cpu)) c.as_slice.ensures.value ∙ c.in_ok-changes.ensures)) c.run_changes.ensures c.if-not-run_changes.false c.all_seen.ensures c.if-not-all_seen.true

pub returns : goal.returns
returns c = λ lists.
    part_given (view_of c.args.kept.now) (view_of c.run_changes.new.kept) (view_of c.give.new.kept) (map does (map (step_of c.args.cpu) c.as_slice.result.now)) _ (seen_by (part_read c.args.part)) _ c.run_changes.result c.all_seen.result c.in_ok-given.given
    (ap (map does) (ap (map (step_of c.args.cpu)) c.as_slice.ensures.value ∙ c.in_ok-changes.ensures)) c.run_changes.ensures c.if-not-run_changes.false c.all_seen.ensures c.if-not-all_seen.false
    (ran_give (view_of c.run_changes.new.kept) (view_of c.give.new.kept) c.args.cpu c.args.lock lists c.in_ok-given.given
    (are_words (view_of c.args.kept.now) (view_of c.run_changes.new.kept) (map does (map (step_of c.args.cpu) c.as_slice.result.now)) c.run_changes.result c.run_changes.ensures)
    (answered_ok (view_of c.run_changes.new.kept) (view_of c.give.new.kept) _ _ c.in_ok-given.given c.in_ok-given.ensures))
