use Rattle.std.proofs.Common.{◌++◌, map}
use Rattle.std.specs.List.{flat_map}
use Rattle.place_words.specs.Entries.{entry_read}
use Rattle.map_report.specs.History.{entry_line}
use Rattle.map_report.proofs.TurnLemmas.{added_more}
use Rattle.map_report.proofs.history.add_entries.Goals as goal

pub loop-index-preserved : goal.loop-index-preserved
loop-index-preserved g c =
    added_more g.L.Lines.line entry_line c.args.entries.now c.loop-index.index (entry_read c.at.result) (g.L.Lines.written c.loop-index.lines) (g.L.Lines.written c.add.new.self)
    (g.L.Lines.written c.args.lines.now ++ flat_map g.L.Lines.line (map entry_line c.args.entries.now)) c.at.ensures.found c.loop-index.invariant c.in_ok-add.ensures
