use Rattle.std.proofs.Common.{None, Some}
use Rattle.record_check.proofs.Verdicts.{names_read, of_run, ticket_flaw, tickets_read}
use Rattle.record_check.proofs.check.check_tickets.Goals as goal

pub ticket_flaw-requires-clause-named : goal.ticket_flaw-requires-clause-named
ticket_flaw-requires-clause-named c =
    names_read c.args.script.now c.args.kept.now c.requires.shaped c.requires.strands c.as_slice.result.now c.as_slice-2.result.now c.as_slice.ensures c.as_slice-2.ensures

pub check_steps-requires-clause-record : goal.check_steps-requires-clause-record
check_steps-requires-clause-record c =
    of_run c.args.script.now c.args.kept.now c.requires.script c.requires.shaped c.requires.legal c.requires.phases c.requires.strands c.requires.calls c.requires.finals
    (tickets_read c.args.script.now c.args.kept.now c.as_slice.result.now c.as_slice-2.result.now c.in_ok-flaw.flaw None c.as_slice.ensures c.as_slice-2.ensures c.in-None.is c.in_ok-flaw.ensures)

pub returns-in-Some : goal.returns-in-Some
returns-in-Some c =
    let told =
    tickets_read c.args.script.now c.args.kept.now c.as_slice.result.now c.as_slice-2.result.now c.in_ok-flaw.flaw (Some c.in-Some.place) c.as_slice.ensures c.as_slice-2.ensures c.in-Some.is c.in_ok-flaw.ensures in
    ticket_flaw c.args.script.now c.args.kept.now c.requires.script c.requires.shaped c.requires.legal c.requires.phases c.requires.strands c.requires.calls c.requires.finals c.in-Some.place told.0 told.1
