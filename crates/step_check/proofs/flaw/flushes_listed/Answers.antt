use Rattle.std.proofs.Common.{refl, subst}
use Rattle.std.specs.Prelude.{MatchBool}
use Rattle.place_words.specs.Entries.{entry_read}
use Rattle.place_words.specs.Interleaving.{Drawn}
use Rattle.step_check.specs.Answers.{view_of}
use Rattle.step_check.specs.Judged.{FlushesListed}
use Rattle.step_check.specs.Places.{history_at}
use Rattle.step_check.specs.WordsView.{words_in}
use Rattle.step_check.proofs.LocksTaken.{turn_told}
use Rattle.step_check.proofs.flaw.flushes_listed.Goals as goal

pub returns : goal.returns
returns c =
    subst (λ (x : Drawn). MatchBool c.part_flushes_listed.result (FlushesListed (words_in (view_of c.args.kept.now)) x.entry.part) (¬ FlushesListed (words_in (view_of c.args.kept.now)) x.entry.part))
    (turn_told c.args.histories.now c.args.turns.now c.args.ticket c.index.result.now _ (history_at c.args.histories.now c.index.result.now).lock (entry_read c.entry_at.result) c.requires.within c.index.ensures refl c.entry_at.ensures)
    c.part_flushes_listed.ensures
