use Rattle.std.proofs.Common.{arith}
use Rattle.map_batch.specs.Calls.{table_of}
use Rattle.run_records.proofs.RunPhases.{kept_span}
use Rattle.map_run.proofs.BesideRaced.{copied_alone}
use Rattle.map_run.proofs.copy_race.copy_alone.Goals as goal

pub overflow_sub-step_count : goal.overflow_sub-step_count
overflow_sub-step_count g c =
    let worked = c.in_ok-reads.ensures.made.worked in
    let grows = (kept_span (table_of c.args.source.now).shape worked.made c.args.pass.now.view.kept c.copy_map.new.pass.view.kept worked.kept).0 in
    let before = c.step_count-steps.ensures in
    let after = c.step_count.ensures in
    omega (arith, grows, before, after)

pub returns : goal.returns
returns g c =
    let worked = c.in_ok-reads.ensures.made.worked in
    let grows = (kept_span (table_of c.args.source.now).shape worked.made c.args.pass.now.view.kept c.copy_map.new.pass.view.kept worked.kept).0 in
    let before = c.step_count-steps.ensures in
    let after = c.step_count.ensures in
    copied_alone (table_of c.args.source.now) (table_of c.args.target.now) c.args.phase c.args.before c.args.count _ c.args.pass.now c.copy_map.new.pass c.args.put_pass.now c.copy_map.new.put_pass _ c.new.result.items c.in_ok-all_of.field-0.items c.in_ok-reads.field-0.puts.items c.in_ok-pieces.pieces.items
    c.requires.whole c.in_ok-reads.ensures c.new.ensures.items c.in_ok-all_of.ensures (omega (arith, grows, before, after)) c.in_ok-pieces.ensures
