use Rattle.std.proofs.Common.{◌++◌, map}
use Rattle.std.specs.List.{flat_map}
use Rattle.map_report.specs.History.{step_line}
use Rattle.map_report.proofs.TurnLemmas.{added_more}
use Rattle.map_report.proofs.history.add_steps.Goals as goal

pub loop-place-preserved : goal.loop-place-preserved
loop-place-preserved g c =
    added_more g.L.Lines.line step_line c.args.steps.now c.loop-place.place c.at.result (g.L.Lines.written c.loop-place.lines) (g.L.Lines.written c.add.new.self)
    (g.L.Lines.written c.args.lines.now ++ flat_map g.L.Lines.line (map step_line c.args.steps.now)) c.at.ensures.found c.loop-place.invariant c.in_ok-add.ensures
