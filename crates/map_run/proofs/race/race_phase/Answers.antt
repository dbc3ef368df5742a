use Rattle.std.proofs.Common.{◌≤◌, ◌-◌, length, take, drop, sym, ap, ◌∙◌, subst, arith}
use Rattle.map_batch.specs.Calls.{table_of}
use Rattle.run_records.proofs.BitsSeen.{whole_still}
use Rattle.run_records.proofs.PhaseParts.{whole_to}
use Rattle.run_records.proofs.RunEnds.{few_more, in_order}
use Rattle.map_run.proofs.race.race_phase.Goals as goal

pub phase_start-requires : goal.phase_start-requires
phase_start-requires g c = whole_to (table_of c.args.map.now) c.args.script.now c.args.phase c.args.pass.now c.args.told.now.replies.items c.args.told.now.starts.items c.args.told.now.pieces.items c.requires.before

pub calls_between-calls-requires-clause-order : goal.calls_between-calls-requires-clause-order
calls_between-calls-requires-clause-order g c = (in_order c.args.script.now c.phase_first-first.result c.phase_end.result c.args.phase c.requires.phases.rise c.phase_first-first.ensures c.phase_end.ensures).0

pub calls_between-calls-requires-clause-within : goal.calls_between-calls-requires-clause-within
calls_between-calls-requires-clause-within g c =
    subst (λ calls. c.phase_end.result ≤ length calls) (sym c.as_slice.ensures) (in_order c.args.script.now c.phase_first-first.result c.phase_end.result c.args.phase c.requires.phases.rise c.phase_first-first.ensures c.phase_end.ensures).1

pub overflow_cast-first : goal.overflow_cast-first
overflow_cast-first g c =
    let order = in_order c.args.script.now c.phase_first-first.result c.phase_end.result c.args.phase c.requires.phases.rise c.phase_first-first.ensures c.phase_end.ensures in
    let low = order.0 in
    let high = order.1 in
    let few = c.requires.few in
    omega (arith, low, high, few)

pub run_phase-requires-clause-few : goal.run_phase-requires-clause-few
run_phase-requires-clause-few g c κs within =
    let order = in_order c.args.script.now c.phase_first-first.result c.phase_end.result c.args.phase c.requires.phases.rise c.phase_first-first.ensures c.phase_end.ensures in
    few_more c.args.script.now.calls c.calls_between-calls.result.now c.phase_first-first.result c.phase_end.result order.0 order.1
    (c.calls_between-calls.ensures ∙ ap (λ calls. take (c.phase_end.result - c.phase_first-first.result) (drop c.phase_first-first.result calls)) c.as_slice.ensures) c.requires.few

pub run_phase-requires-clause-whole : goal.run_phase-requires-clause-whole
run_phase-requires-clause-whole g c κs within =
    whole_still (table_of c.args.map.now) c.args.pass.now c.phase_start.new.pass c.in_ok-start.start c.in_ok-start.ensures
    (whole_to (table_of c.args.map.now) c.args.script.now c.args.phase c.args.pass.now c.args.told.now.replies.items c.args.told.now.starts.items c.args.told.now.pieces.items c.requires.before)
