use Rattle.std.proofs.Common.{◌≡◌, ap, sym, ◌∙◌, subst}
use Rattle.std.proofs.lemmas.Result.{IfOk-weaker}
use Rattle.map_types.specs.Creation.{IsShape}
use Rattle.map_types.specs.declared.attr.Shape.{Shape}
use Rattle.place_table.specs.Closing.{IsClosed}
use Rattle.map_batch.specs.Calls.{table_of}
use Rattle.map_report.specs.Runs.{serial}
use Rattle.map_report.specs.declared.record.RunRecord.{RunRecord}
use Rattle.record_shape.specs.WellShaped.{WellShaped}
use Rattle.run_records.specs.Copies.{IsCopyOf}
use Rattle.run_records.proofs.RunEnds.{end_by_phases, copy_by_phases}
use Rattle.run_records.proofs.Shaped.{serial_is_shaped}
use Rattle.map_run.proofs.serial.run_script.Goals as goal

pub returns-clause-record : goal.returns-clause-record
returns-clause-record g c =
    let same = c.in_ok-map.ensures.0 in
    IfOk-weaker c.keep.result _ (λ kept. kept.0 ≡ serial c.args.script.now)
    (λ kept is. is.0 ∙ end_by_phases c.args.script.now (table_of c.in_ok-map.map) c.run_phases.new.pass c.in_ok-closed.closed c.in_ok-told.told.replies.items c.in_ok-told.told.starts.items c.in_ok-told.told.pieces.items same (subst IsShape (sym same) c.requires.shape) c.requires.phases.rise c.in_ok-told.ensures c.in_ok-closed.ensures is.2)
    c.keep.ensures

pub returns-clause-shaped : goal.returns-clause-shaped
returns-clause-shaped g c =
    let same = c.in_ok-map.ensures.0 in
    IfOk-weaker c.keep.result _ (λ kept. WellShaped c.args.script.now kept.0)
    (λ kept is. serial_is_shaped c.args.script.now c.requires.script c.run_phases.new.pass c.in_ok-closed.closed
    (subst (λ (s : Shape). IsClosed s c.run_phases.new.pass c.in_ok-closed.closed) same c.in_ok-closed.ensures) is.2 kept.0
    (is.0 ∙ end_by_phases c.args.script.now (table_of c.in_ok-map.map) c.run_phases.new.pass c.in_ok-closed.closed c.in_ok-told.told.replies.items c.in_ok-told.told.starts.items c.in_ok-told.told.pieces.items same (subst IsShape (sym same) c.requires.shape) c.requires.phases.rise c.in_ok-told.ensures c.in_ok-closed.ensures is.2)
    (ap (λ (r : RunRecord). r.histories) is.0) (ap (λ (r : RunRecord). r.finals) is.0))
    c.keep.ensures

pub returns-clause-closed : goal.returns-clause-closed
returns-clause-closed g c =
    let same = c.in_ok-map.ensures.0 in
    IfOk-weaker c.keep.result _ (λ kept. IsCopyOf kept.0 kept.1)
    (λ kept is. copy_by_phases c.args.script.now (table_of c.in_ok-map.map) c.run_phases.new.pass c.in_ok-closed.closed c.in_ok-told.told.replies.items c.in_ok-told.told.starts.items c.in_ok-told.told.pieces.items same (subst IsShape (sym same) c.requires.shape) c.requires.phases.rise c.in_ok-told.ensures c.in_ok-closed.ensures is.2 kept.0 kept.1 is.0 is.1)
    c.keep.ensures
