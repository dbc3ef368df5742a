use Rattle.map_run.proofs.CopiesKept.{keeps_copies}
use Rattle.map_run.proofs.laws.copy_law.Goals as goal

pub returns : goal.returns
returns c = keeps_copies
