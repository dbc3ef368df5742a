use Rattle.std.proofs.Common.{refl, subst}
use Rattle.record_check.specs.declared.stop.HistoryStop.{HistoryStop}
use Rattle.record_check.specs.Replayed.{StopsIn}
use Rattle.record_check.proofs.Verdicts.{history_flaw}
use Rattle.record_check.proofs.check.check_record.Goals as goal

pub returns-in-Err-NotAllowed : goal.returns-in-Err-NotAllowed
returns-in-Err-NotAllowed c =
    history_flaw c.args.script.now c.args.kept.now c.as_slice.result.now _ c.in-Err-NotAllowed.history c.in-Err-NotAllowed.index c.index-as_slice-history.result c.as_slice.ensures
    c.in-Err-NotAllowed.history-is refl c.in-Err-NotAllowed.index-is
    (subst (λ (stop : HistoryStop). StopsIn c.args.script.now.shape c.args.kept.now.histories stop) c.in-Err-NotAllowed.field-0-is c.in-Err-NotAllowed.ensures)
