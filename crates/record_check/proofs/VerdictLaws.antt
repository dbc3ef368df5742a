-- The laws of verdicts.
use Rattle.std.proofs.Common.{refl, sym, subst}
use Rattle.map_report.specs.declared.record.RunRecord.{RunRecord}
use Rattle.core_runs.proofs.ScriptRuns.{serial_record_runs}
use Rattle.serial_laws.proofs.AnyRecord.{any_is_record}
use Rattle.record_flaws.specs.declared.verdict.Flaw.TheVariants as flaws
use Rattle.record_flaws.specs.declared.verdict.Said.TheVariants.{Judged, Unread}
use Rattle.record_flaws.specs.declared.verdict.Verdict.TheVariants.{Yes, No}
use Rattle.record_parts.proofs.OwnCalls.{records_have_their_strands}
use Rattle.record_parts.proofs.PhaseLaws.{phases_are_judged, records_have_their_phases}
use Rattle.record_parts.proofs.StrandLaws.{strands_are_judged}
use Rattle.record_reading.proofs.Suits.{one_record}
use Rattle.call_check.proofs.RecordCalls.{last_spares, right_at}
use Rattle.record_order.proofs.Law.{where_none_is_wrong}
use Rattle.record_order.proofs.Named.{whole_records}
use Rattle.map_types.specs.declared.kind.DomainId.{DomainId}
use Rattle.replay_words.specs.Replays.{IsFirstFlaw}
use Rattle.record_check.proofs.Laws.{flaw_refutes_record}
use Rattle.record_check.specs.VerdictLaws.{RecordsFailAtSteps, ReportsAreJudged, SerialIsRight}
use Rattle.record_check.specs.Verdicts.{IsVerdict}

pub serial_is_right : SerialIsRight
serial_is_right script Yes formed is = refl
serial_is_right script (No flaw) formed is = absurd (is.1 (any_is_record script formed, serial_record_runs script formed))

pub reports_are_judged : ReportsAreJudged
reports_are_judged script kept (Judged verdict) formed shaped (other, well, same, is) =
    (verdict, refl, subst (λ (r : RunRecord). IsVerdict script r verdict) (one_record script formed other kept well shaped same) is)
reports_are_judged script kept (Unread line) formed shaped fault = absurd (fault.no_record kept shaped refl)

pub records_fail_at_steps : RecordsFailAtSteps
records_fail_at_steps script kept (flaws.History lock index) formed record_is shaped (turn, refuted) =
    absurd (
    flaw_refutes_record script kept turn.place index
    (record {
      history = turn.history;
      there = turn.there;
      before = turn.before;
      first = subst (λ (l : DomainId). IsFirstFlaw script.shape l turn.history.entries index) (sym turn.lock_is) turn.first;
    }) record_is
    )
records_fail_at_steps script kept (flaws.Phase phase) formed record_is shaped ((legal, first), refuted) =
    absurd (first.1 ((phases_are_judged script kept formed.phases shaped.phases).1 (records_have_their_phases script kept record_is) phase))
records_fail_at_steps script kept (flaws.Strand index) formed record_is shaped ((legal, phases, first), refuted) =
    absurd (first.1 ((strands_are_judged script kept shaped.strands).1 (records_have_their_strands script kept formed shaped record_is) index))
records_fail_at_steps script kept (flaws.Call number) formed record_is shaped ((legal, phases, strands, (place, is_number, first)), refuted) =
    absurd (first.1 (right_at script kept formed shaped record_is place first.0))
records_fail_at_steps script kept flaws.Finals formed record_is shaped ((legal, phases, strands, calls, wrong), refuted) =
    absurd (wrong (record { contents = record_is.contents; whole = record { spares = λ cpu _. last_spares script kept formed shaped record_is cpu; finals = record_is.finals } }))
records_fail_at_steps script kept (flaws.Ticket lock index) formed record_is shaped ((legal, phases, strands, calls, finals, first), refuted) =
    absurd (
    (where_none_is_wrong script.shape kept.histories kept.strands (whole_records script kept record_is)).1 record_is.tickets
    (record { lock = lock; index = index }) first.stands first.wrong
    )
records_fail_at_steps script kept (flaws.Step ticket) formed record_is shaped is = (ticket, refl)
