use Rattle.call_check.proofs.MakesRecord.{makes_record}
use Rattle.call_check.proofs.RecordCalls.{last_spares, right_at}
use Rattle.call_check.proofs.laws.call_laws.Goals as goal

pub returns-clause-calls : goal.returns-clause-calls
returns-clause-calls c = right_at

pub returns-clause-spares : goal.returns-clause-spares
returns-clause-spares c = last_spares

pub returns-clause-records : goal.returns-clause-records
returns-clause-records c = makes_record
