use Rattle.std.proofs.Common.{◌≡◌, ◌≤◌, ◌+◌, ◌-◌, suc, length, take, drop, refl, ap, sym, ◌∙◌, subst, arith}
use Rattle.map_batch.specs.Calls.{table_of}
use Rattle.place_words.specs.Phases.{calls_before}
use Rattle.run_records.specs.SerialPhases.{HaveRunPhases}
use Rattle.run_records.proofs.RunEnds.{few_more, in_order, phase_on}
use Rattle.run_records.proofs.RunPhases.{kept_span, phases_first, run_whole}
use Rattle.map_run.proofs.serial.run_phases.Goals as goal
use Rattle.run_records.proofs.BitsSeen.{whole_still}

pub loop-phase-init : goal.loop-phase-init
loop-phase-init g c = record {
  ran = phases_first (table_of c.args.map.now) c.args.script.now c.args.pass.now c.new-replies.result.items c.in_ok-starts.starts.items c.in_ok-pieces.pieces.items c.requires.first c.new-replies.ensures.items c.in_ok-starts.ensures.items c.in_ok-pieces.ensures.items;
  first = refl;
}

pub calls_between-calls-requires-clause-order : goal.calls_between-calls-requires-clause-order
calls_between-calls-requires-clause-order g c = (in_order c.args.script.now c.loop-phase.first c.phase_end-next.result c.loop-phase.phase c.requires.phases.rise c.loop-phase.invariant.first c.phase_end-next.ensures).0

pub calls_between-calls-requires-clause-within : goal.calls_between-calls-requires-clause-within
calls_between-calls-requires-clause-within g c =
    subst (λ calls. c.phase_end-next.result ≤ length calls) (sym c.as_slice.ensures) (in_order c.args.script.now c.loop-phase.first c.phase_end-next.result c.loop-phase.phase c.requires.phases.rise c.loop-phase.invariant.first c.phase_end-next.ensures).1

pub overflow_cast-first : goal.overflow_cast-first
overflow_cast-first g c =
    let order = in_order c.args.script.now c.loop-phase.first c.phase_end-next.result c.loop-phase.phase c.requires.phases.rise c.loop-phase.invariant.first c.phase_end-next.ensures in
    let low = order.0 in
    let high = order.1 in
    let few = c.requires.few in
    omega (arith, low, high, few)

pub run_calls-requires-clause-few : goal.run_calls-requires-clause-few
run_calls-requires-clause-few g c κs within =
    let order = in_order c.args.script.now c.loop-phase.first c.phase_end-next.result c.loop-phase.phase c.requires.phases.rise c.loop-phase.invariant.first c.phase_end-next.ensures in
    few_more c.args.script.now.calls c.calls_between-calls.result.now c.loop-phase.first c.phase_end-next.result order.0 order.1
    (c.calls_between-calls.ensures ∙ ap (λ calls. take (c.phase_end-next.result - c.loop-phase.first) (drop c.loop-phase.first calls)) c.as_slice.ensures) c.requires.few

pub run_calls-requires-clause-whole : goal.run_calls-requires-clause-whole
run_calls-requires-clause-whole g c κs within =
    whole_still (table_of c.args.map.now) c.loop-phase.pass c.phase_start.new.pass c.in_ok-start.start c.in_ok-start.ensures (run_whole (table_of c.args.map.now) _ _ c.loop-phase.pass c.loop-phase.replies.items c.loop-phase.invariant.ran.run)

pub overflow_sub-step_count : goal.overflow_sub-step_count
overflow_sub-step_count g c =
    let gone = c.in_ok-more.ensures.gone in
    let grows = (kept_span (table_of c.args.map.now).shape gone.made c.phase_start.new.pass.view.kept c.run_calls.new.pass.view.kept gone.kept).0 in
    let before = c.step_count-steps.ensures in
    let after = c.step_count.ensures in
    omega (arith, grows, before, after)

pub loop-phase-preserved : goal.loop-phase-preserved
loop-phase-preserved g c =
    let gone = c.in_ok-more.ensures.gone in
    let grows = (kept_span (table_of c.args.map.now).shape gone.made c.phase_start.new.pass.view.kept c.run_calls.new.pass.view.kept gone.kept).0 in
    let before = c.step_count-steps.ensures in
    let after = c.step_count.ensures in
    record {
      ran = phase_on (table_of c.args.map.now) c.args.script.now c.loop-phase.phase _ c.loop-phase.first c.phase_end-next.result c.loop-phase.pass c.phase_start.new.pass c.run_calls.new.pass c.in_ok-start.start c.loop-phase.replies.items c.in_ok-more.more.items c.add_replies.new.replies.items
          c.loop-phase.starts.items c.push.new.self.items c.loop-phase.pieces.items c.push-in-loop-phase.new.self.items (c.step_count.result - c.step_count-steps.result) c.calls_between-calls.result.now c.requires.same c.requires.shape c.requires.served.calls c.requires.phases.rise
          c.loop-phase.invariant.first c.phase_end-next.ensures (c.calls_between-calls.ensures ∙ ap (λ calls. take (c.phase_end-next.result - c.loop-phase.first) (drop c.loop-phase.first calls)) c.as_slice.ensures) (omega arith)
          c.loop-phase.invariant.ran c.in_ok-start.ensures c.in_ok-more.ensures.from gone (omega (arith, grows, before, after)) c.in_ok-add_replies.ensures c.in_ok-push.ensures.items c.in_ok-push-2.ensures.items;
      first = c.phase_end-next.ensures ∙ ap (λ k. calls_before c.args.script.now.cuts (length c.args.script.now.calls) k) (let next : suc c.loop-phase.phase ≡ c.loop-phase.phase + 1 = omega arith in next);
    }

pub returns : goal.returns
returns g c =
    subst (λ k. HaveRunPhases (table_of c.args.map.now) c.args.script.now k c.loop-phase.pass c.loop-phase.replies.items c.loop-phase.starts.items c.loop-phase.pieces.items)
    (let end : c.loop-phase.phase ≡ suc (length c.args.script.now.cuts) = omega arith in end) c.loop-phase.invariant.ran
