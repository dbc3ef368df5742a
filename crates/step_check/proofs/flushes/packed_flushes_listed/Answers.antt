use Rattle.std.proofs.Common.{◌≢◌, subst}
use Rattle.std.specs.Prelude.{All, MatchBool}
use Rattle.place_words.specs.declared.list_part.GlobalPart.{GlobalPart}
use Rattle.place_words.specs.declared.owner.Owner.TheVariants as owners
use Rattle.step_check.specs.Answers.{view_of}
use Rattle.step_check.specs.Judged.{flushed_in}
use Rattle.step_check.specs.WordsView.{words_in}
use Rattle.step_check.proofs.flushes.packed_flushes_listed.Goals as goal

pub returns-in-Err : goal.returns-in-Err
returns-in-Err c =
    subst (λ (p : GlobalPart). MatchBool c.turn_flushes_listed-in-Err.result (All (λ e. (words_in (view_of c.args.kept.now)).owner e ≢ owners.Free) (flushed_in p))
    (¬ All (λ e. (words_in (view_of c.args.kept.now)).owner e ≢ owners.Free) (flushed_in p))) c.in-Err.ensures c.turn_flushes_listed-in-Err.ensures
