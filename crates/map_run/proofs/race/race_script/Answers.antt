use Rattle.std.proofs.Common.{◌≡◌, ℕ, suc, ◌+◌, length, ap, sym, subst, arith}
use Rattle.std.proofs.lemmas.Result.{IfOk-weaker}
use Rattle.map_types.specs.declared.attr.Shape.{Shape}
use Rattle.place_table.specs.Closing.{IsClosed}
use Rattle.map_report.specs.declared.record.RunRecord.{RunRecord}
use Rattle.map_report.proofs.CutLemmas.{cuts_rise}
use Rattle.map_batch.specs.Calls.{table_of}
use Rattle.record_shape.specs.WellShaped.{WellShaped}
use Rattle.run_records.specs.Copies.{IsCopyOf}
use Rattle.run_records.specs.Races.{HaveComeTo, IsRaceRecord}
use Rattle.place_words.specs.Phases.{phase_count}
use Rattle.run_records.proofs.PhaseParts.{whole_to}
use Rattle.run_records.proofs.RaceEnds.{race_is_record}
use Rattle.run_records.proofs.Shaped.{race_is_shaped}
use Rattle.map_run.proofs.race.race_script.Goals as goal

pub returns-clause-record : goal.returns-clause-record
returns-clause-record g c =
    let told = c.in_ok-told.told in
    let phases_is : c.len-phases.result + 1 ≡ suc (length c.args.script.now.cuts) = omega (arith, c.len-phases.ensures) in
    let come = subst (λ (k : ℕ). HaveComeTo (table_of c.in_ok-map.map) c.args.script.now k c.race_phases.new.pass told.replies.items told.starts.items told.pieces.items) phases_is c.in_ok-told.ensures in
    IfOk-weaker c.keep.result _ (λ kept. IsRaceRecord c.args.script.now kept.0)
    (λ kept is. subst (IsRaceRecord c.args.script.now) (sym is.0)
    (race_is_record c.args.script.now (table_of c.in_ok-map.map) c.race_phases.new.pass told.replies.items told.starts.items told.pieces.items c.in_ok-closed.closed c.in_ok-map.ensures.0 c.requires.shape c.requires.served (cuts_rise 0 c.args.script.now.cuts (length c.args.script.now.calls) (omega arith) c.requires.phases.rise) come c.in_ok-closed.ensures is.2).0)
    c.keep.ensures

pub returns-clause-shaped : goal.returns-clause-shaped
returns-clause-shaped g c =
    let told = c.in_ok-told.told in
    let phases_is : c.len-phases.result + 1 ≡ suc (length c.args.script.now.cuts) = omega (arith, c.len-phases.ensures) in
    let come = subst (λ (k : ℕ). HaveComeTo (table_of c.in_ok-map.map) c.args.script.now k c.race_phases.new.pass told.replies.items told.starts.items told.pieces.items) phases_is c.in_ok-told.ensures in
    IfOk-weaker c.keep.result _ (λ kept. WellShaped c.args.script.now kept.0)
    (λ kept is. race_is_shaped c.args.script.now c.requires.script c.race_phases.new.pass c.in_ok-closed.closed
    (subst (λ (s : Shape). IsClosed s c.race_phases.new.pass c.in_ok-closed.closed) c.in_ok-map.ensures.0 c.in_ok-closed.ensures) is.2 kept.0
    (subst (IsRaceRecord c.args.script.now) (sym is.0)
    (race_is_record c.args.script.now (table_of c.in_ok-map.map) c.race_phases.new.pass told.replies.items told.starts.items told.pieces.items c.in_ok-closed.closed c.in_ok-map.ensures.0 c.requires.shape c.requires.served (cuts_rise 0 c.args.script.now.cuts (length c.args.script.now.calls) (omega arith) c.requires.phases.rise) come c.in_ok-closed.ensures is.2).0)
    (ap (λ (r : RunRecord). r.histories) is.0) (ap (λ (r : RunRecord). r.finals) is.0))
    c.keep.ensures

pub returns-clause-closed : goal.returns-clause-closed
returns-clause-closed g c =
    let told = c.in_ok-told.told in
    let phases_is : c.len-phases.result + 1 ≡ suc (length c.args.script.now.cuts) = omega (arith, c.len-phases.ensures) in
    let come = subst (λ (k : ℕ). HaveComeTo (table_of c.in_ok-map.map) c.args.script.now k c.race_phases.new.pass told.replies.items told.starts.items told.pieces.items) phases_is c.in_ok-told.ensures in
    IfOk-weaker c.keep.result _ (λ kept. IsCopyOf kept.0 kept.1)
    (λ kept is. subst (IsCopyOf kept.0) (sym is.1) (subst (λ (record_kept : RunRecord). IsCopyOf record_kept c.in_ok-closed.closed) (sym is.0)
    (race_is_record c.args.script.now (table_of c.in_ok-map.map) c.race_phases.new.pass told.replies.items told.starts.items told.pieces.items c.in_ok-closed.closed c.in_ok-map.ensures.0 c.requires.shape c.requires.served (cuts_rise 0 c.args.script.now.cuts (length c.args.script.now.calls) (omega arith) c.requires.phases.rise) come c.in_ok-closed.ensures is.2).1))
    c.keep.ensures

pub close-requires-clause-all_cpus : goal.close-requires-clause-all_cpus
close-requires-clause-all_cpus g c =
    let told = c.in_ok-told.told in
    let phases_is : c.len-phases.result + 1 ≡ suc (length c.args.script.now.cuts) = omega (arith, c.len-phases.ensures) in
    let come = subst (λ (k : ℕ). HaveComeTo (table_of c.in_ok-map.map) c.args.script.now k c.race_phases.new.pass told.replies.items told.starts.items told.pieces.items) phases_is c.in_ok-told.ensures in
    (whole_to (table_of c.in_ok-map.map) c.args.script.now (phase_count c.args.script.now.cuts) c.race_phases.new.pass told.replies.items told.starts.items told.pieces.items come).all_cpus

pub close-requires-clause-in_no_call : goal.close-requires-clause-in_no_call
close-requires-clause-in_no_call g c =
    let told = c.in_ok-told.told in
    let phases_is : c.len-phases.result + 1 ≡ suc (length c.args.script.now.cuts) = omega (arith, c.len-phases.ensures) in
    let come = subst (λ (k : ℕ). HaveComeTo (table_of c.in_ok-map.map) c.args.script.now k c.race_phases.new.pass told.replies.items told.starts.items told.pieces.items) phases_is c.in_ok-told.ensures in
    (whole_to (table_of c.in_ok-map.map) c.args.script.now (phase_count c.args.script.now.cuts) c.race_phases.new.pass told.replies.items told.starts.items told.pieces.items come).in_no_call

pub close-requires-clause-table : goal.close-requires-clause-table
close-requires-clause-table g c =
    let told = c.in_ok-told.told in
    let phases_is : c.len-phases.result + 1 ≡ suc (length c.args.script.now.cuts) = omega (arith, c.len-phases.ensures) in
    let come = subst (λ (k : ℕ). HaveComeTo (table_of c.in_ok-map.map) c.args.script.now k c.race_phases.new.pass told.replies.items told.starts.items told.pieces.items) phases_is c.in_ok-told.ensures in
    (whole_to (table_of c.in_ok-map.map) c.args.script.now (phase_count c.args.script.now.cuts) c.race_phases.new.pass told.replies.items told.starts.items told.pieces.items come).of_table
