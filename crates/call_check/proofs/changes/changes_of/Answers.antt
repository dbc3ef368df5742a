use Rattle.std.proofs.Common.{◌++◌, List, ap, ◌∙◌, arith}
use Rattle.std.specs.List.{filter_map}
use Rattle.call_check.specs.Spares.{change_of}
use Rattle.call_check.specs.declared.changes.Change.{Change}
use Rattle.call_check.proofs.SparesAre.{histories_more}
use Rattle.call_check.proofs.changes.changes_of.Goals as goal

pub loop-history-preserved : goal.loop-history-preserved
loop-history-preserved c =
    c.in_ok-push_changes.ensures
    ∙ (ap (λ (l : List Change). l ++ filter_map (change_of c.args.cuts.now) c.history-item.result.entries) c.loop-history.invariant
    ∙ histories_more c.args.cuts.now c.args.histories.now c.loop-history.history-index c.history-item.result (omega arith) c.history-item.is)
