use Rattle.std.proofs.Common.{◌++◌, ◌∷◌, [], List, ap, sym, ◌∙◌, arith}
use Rattle.std.specs.List.{filter_map}
use Rattle.place_words.specs.Entries.{entry_read}
use Rattle.call_check.specs.Spares.{change_of}
use Rattle.call_check.specs.declared.changes.Change.{Change}
use Rattle.call_check.proofs.SparesAre.{entries_more}
use Rattle.call_check.proofs.changes.push_changes.Goals as goal

pub loop-index-preserved : goal.loop-index-preserved
loop-index-preserved c =
    c.in_ok-push_change.ensures
    ∙ (ap (λ (l : List Change). l ++ filter_map (change_of c.args.cuts.now) (entry_read c.at.result ∷ [])) c.loop-index.invariant
    ∙ entries_more c.args.cuts.now c.args.changes.now.items c.args.entries.now c.loop-index.index (entry_read c.at.result) (omega (arith, c.loop-index-test.true, c.len-index-end.ensures)) (sym (c.at.ensures.whatever (entry_read c.at.result))))
