use Rattle.std.proofs.Common.{refl}
use Rattle.std.specs.Fmt.{digits}
use Rattle.copy_report.proofs.laws.row_laws.Goals as goal

pub returns-clause-tells_all : goal.returns-clause-tells_all
unfolding digits
returns-clause-tells_all c = refl

pub returns-clause-tells_stop : goal.returns-clause-tells_stop
unfolding digits
returns-clause-tells_stop c = refl
