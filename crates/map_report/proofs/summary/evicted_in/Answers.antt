use Rattle.place_words.specs.Entries.{entry_read}
use Rattle.map_report.specs.Summary.{evicts}
use Rattle.map_report.proofs.TurnLemmas.{counted, not_counted}
use Rattle.map_report.proofs.summary.evicted_in.Goals.{then-evicts, else-evicts}
use Rattle.map_report.proofs.summary.evicted_in.Goals as goal

pub loop-index-preserved : goal.loop-index-preserved
loop-index-preserved c =
    elim c.if-evicts.branch [
      | then-evicts w ↦ counted (λ entry. evicts entry.part) c.args.entries.now c.loop-index.index c.loop-index.count c.if-evicts.count (entry_read c.at.result) c.evicts.result c.at.ensures.found c.loop-index.invariant c.evicts.ensures w.if-evicts.true w.count-is
      | else-evicts w ↦ not_counted (λ entry. evicts entry.part) c.args.entries.now c.loop-index.index c.loop-index.count c.if-evicts.count (entry_read c.at.result) c.evicts.result c.at.ensures.found c.loop-index.invariant c.evicts.ensures w.if-evicts.false w.count-is
    ]
