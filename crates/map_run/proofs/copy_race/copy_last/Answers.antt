use Rattle.std.proofs.Common.{◌-◌, length, take, drop, ap, ◌∙◌, arith}
use Rattle.map_batch.specs.Calls.{table_of}
use Rattle.run_records.proofs.BitsSeen.{whole_still}
use Rattle.run_records.proofs.PhaseParts.{whole_to}
use Rattle.run_records.proofs.RunEnds.{few_more, in_order}
use Rattle.map_run.proofs.LastPhase.{can_copy, copied_last, first_whole, last_of_others, put_grows}
use Rattle.map_run.proofs.copy_race.copy_last.Goals as goal

pub phase_start-requires : goal.phase_start-requires
phase_start-requires g c = first_whole (table_of c.args.target.now) c.args.script.now c.args.put_pass.now c.requires.first

pub phase_start-requires-2 : goal.phase_start-requires-2
phase_start-requires-2 g c = whole_to (table_of c.args.source.now) c.args.script.now (length c.args.script.now.cuts) c.args.pass.now c.args.told.now.replies.items c.args.told.now.starts.items c.args.told.now.pieces.items c.requires.before

pub calls_between-calls-requires-clause-order : goal.calls_between-calls-requires-clause-order
calls_between-calls-requires-clause-order g c = (in_order c.args.script.now c.phase_first-first.result c.phase_end.result c.len-phase.result c.requires.phases.rise c.phase_first-first.ensures c.phase_end.ensures).0

pub overflow_cast-first : goal.overflow_cast-first
overflow_cast-first g c =
    let order = in_order c.args.script.now c.phase_first-first.result c.phase_end.result c.len-phase.result c.requires.phases.rise c.phase_first-first.ensures c.phase_end.ensures in
    let low = order.0 in
    let high = order.1 in
    let few = c.requires.few in
    omega (arith, low, high, few)

pub copy_phase-requires-clause-can : goal.copy_phase-requires-clause-can
copy_phase-requires-clause-can g c κs within =
    can_copy (table_of c.args.source.now) (table_of c.args.target.now) c.args.script.now.shape c.phase_start-2.new.pass c.phase_start.new.pass c.requires.same c.requires.shape c.requires.target c.requires.fits
    (whole_still (table_of c.args.source.now) c.args.pass.now c.phase_start-2.new.pass c.in_ok-start.start c.in_ok-start.ensures
    (whole_to (table_of c.args.source.now) c.args.script.now (length c.args.script.now.cuts) c.args.pass.now c.args.told.now.replies.items c.args.told.now.starts.items c.args.told.now.pieces.items c.requires.before))
    (whole_still (table_of c.args.target.now) c.args.put_pass.now c.phase_start.new.pass c.in_ok-put_start.put_start c.in_ok-put_start.ensures (first_whole (table_of c.args.target.now) c.args.script.now c.args.put_pass.now c.requires.first))

pub copy_phase-requires-clause-whole : goal.copy_phase-requires-clause-whole
copy_phase-requires-clause-whole g c κs within =
    whole_still (table_of c.args.source.now) c.args.pass.now c.phase_start-2.new.pass c.in_ok-start.start c.in_ok-start.ensures
    (whole_to (table_of c.args.source.now) c.args.script.now (length c.args.script.now.cuts) c.args.pass.now c.args.told.now.replies.items c.args.told.now.starts.items c.args.told.now.pieces.items c.requires.before)

pub copy_phase-requires-clause-others : goal.copy_phase-requires-clause-others
copy_phase-requires-clause-others g c κs within =
    last_of_others c.args.script.now c.len-phase.result c.phase_first-first.result c.phase_end.result c.calls_between-calls.result.now c.len-phase.ensures c.phase_first-first.ensures c.phase_end.ensures
    (c.calls_between-calls.ensures ∙ ap (λ calls. take (c.phase_end.result - c.phase_first-first.result) (drop c.phase_first-first.result calls)) c.as_slice.ensures) c.requires.free

pub copy_phase-requires-clause-few : goal.copy_phase-requires-clause-few
copy_phase-requires-clause-few g c κs within =
    let order = in_order c.args.script.now c.phase_first-first.result c.phase_end.result c.len-phase.result c.requires.phases.rise c.phase_first-first.ensures c.phase_end.ensures in
    few_more c.args.script.now.calls c.calls_between-calls.result.now c.phase_first-first.result c.phase_end.result order.0 order.1
    (c.calls_between-calls.ensures ∙ ap (λ calls. take (c.phase_end.result - c.phase_first-first.result) (drop c.phase_first-first.result calls)) c.as_slice.ensures) c.requires.few

pub returns : goal.returns
returns g c =
    let grows = put_grows c.in_ok-more.ensures.put in
    let before = c.step_count-put_steps.ensures in
    let after = c.step_count.ensures in
    copied_last c.args.script.now c.len-phase.result c.phase_first-first.result c.phase_end.result c.calls_between-calls.result.now c.len-phase.ensures c.phase_first-first.ensures c.phase_end.ensures
    (c.calls_between-calls.ensures ∙ ap (λ calls. take (c.phase_end.result - c.phase_first-first.result) (drop c.phase_first-first.result calls)) c.as_slice.ensures)
    c.args.told.now.replies.items c.args.told.now.starts.items c.args.told.now.pieces.items c.requires.phases.rise c.requires.before c.in_ok-start.ensures c.requires.target c.requires.first c.in_ok-put_start.ensures c.in_ok-more.ensures
    c.in_ok-add_phase.ensures.replies c.in_ok-add_phase.ensures.starts c.in_ok-add_phase.ensures.pieces (omega (arith, grows, before, after)) c.in_ok-put.ensures.replies c.in_ok-put.ensures.starts c.in_ok-put.ensures.pieces
