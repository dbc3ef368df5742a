use Rattle.std.proofs.Common.{None, Some}
use Rattle.record_check.proofs.OfCalls.{calls_read, one_cpu_read}
use Rattle.record_check.proofs.Verdicts.{all_run, step_flaw, steps_read}
use Rattle.record_check.proofs.check.check_steps.Goals as goal

pub step_flaw-requires-clause-calls : goal.step_flaw-requires-clause-calls
step_flaw-requires-clause-calls c =
    calls_read c.args.script.now c.args.kept.now c.requires.script c.requires.shaped c.as_slice-histories.result.now c.len.result c.as_slice-histories.ensures c.len.ensures

pub step_flaw-requires-clause-one_cpu : goal.step_flaw-requires-clause-one_cpu
step_flaw-requires-clause-one_cpu c =
    one_cpu_read c.args.script.now c.args.kept.now c.requires.script c.requires.shaped c.requires.record c.as_slice-histories.result.now c.as_slice-histories.ensures

pub returns-in-Some : goal.returns-in-Some
returns-in-Some c =
    let told = steps_read c.args.script.now c.args.kept.now c.as_slice-histories.result.now c.in_ok-ticket.field-0 (Some c.in-Some.ticket) c.as_slice-histories.ensures c.in-Some.is
    (c.in_ok-ticket.ensures.first, c.in_ok-ticket.ensures.judged) in
    step_flaw c.args.script.now c.args.kept.now c.requires.script c.requires.record c.in-Some.ticket told.0 told.1

pub returns-in-None : goal.returns-in-None
returns-in-None c =
    let told = steps_read c.args.script.now c.args.kept.now c.as_slice-histories.result.now c.in_ok-ticket.field-0 None c.as_slice-histories.ensures c.in-None.is
    (c.in_ok-ticket.ensures.first, c.in_ok-ticket.ensures.judged) in
    all_run c.args.script.now c.args.kept.now c.requires.script c.requires.record told.0
