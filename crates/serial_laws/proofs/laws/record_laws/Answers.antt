use Rattle.serial_laws.proofs.AnyRecord.{any_is_record, any_starts_rise}
use Rattle.serial_laws.proofs.laws.record_laws.Goals as goal

pub returns-clause-record : goal.returns-clause-record
returns-clause-record c script is = any_is_record script is

pub returns-clause-starts : goal.returns-clause-starts
returns-clause-starts c script is = any_starts_rise script is
