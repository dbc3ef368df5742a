use Rattle.serial_laws.proofs.SerialLaws.{serial_laws, suited_laws}
use Rattle.serial_laws.proofs.laws.serial_laws.Goals as goal

pub returns-clause-suited : goal.returns-clause-suited
returns-clause-suited c script is = suited_laws script is

pub returns-clause-run : goal.returns-clause-run
returns-clause-run c script is = serial_laws script is
