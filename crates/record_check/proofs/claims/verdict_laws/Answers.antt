use Rattle.record_check.proofs.OneVerdict.{one_verdict}
use Rattle.record_check.proofs.VerdictLaws.{records_fail_at_steps, reports_are_judged, serial_is_right}
use Rattle.record_check.proofs.claims.verdict_laws.Goals as goal

pub returns : goal.returns
returns c = record { serial = serial_is_right; steps = records_fail_at_steps; one = one_verdict; reports = reports_are_judged }
