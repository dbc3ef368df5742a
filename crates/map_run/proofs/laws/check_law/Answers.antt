use Rattle.map_run.proofs.Judged.{ends_with_yes}
use Rattle.map_run.proofs.laws.check_law.Goals as goal

pub returns : goal.returns
returns c = ends_with_yes
