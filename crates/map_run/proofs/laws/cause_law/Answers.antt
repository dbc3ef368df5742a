use Rattle.record_check.specs.Said.{IsSaid}
use Rattle.run_ends.specs.SourceReads.{Rose}
use Rattle.run_endings.proofs.Causes.{fault_has_cause, read_fault_has_cause, write_fault_has_cause}
use Rattle.run_records.specs.Copies.{IsCopyOf}
use Rattle.map_run.specs.Finish.{RanAs}
use Rattle.map_run.proofs.laws.cause_law.Goals as goal

pub returns : goal.returns
returns c = record {
  fault = λ words left rest read read_then before after write write_then finish is. fault_has_cause IsCopyOf RanAs IsSaid words left rest (Rose read read_then) before after (Rose write write_then) finish is;
  stopped = λ words left rest read read_then before after write write_then finish is.
      (read_fault_has_cause IsCopyOf RanAs IsSaid words left rest (Rose read read_then) before after (Rose write write_then) finish is, write_fault_has_cause IsCopyOf RanAs IsSaid words left rest (Rose read read_then) before after (Rose write write_then) finish is);
}
