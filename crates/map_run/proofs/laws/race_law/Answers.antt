use Rattle.map_run.proofs.OneOrder.{races_pass}
use Rattle.map_run.proofs.laws.race_law.Goals as goal

pub returns : goal.returns
returns c = races_pass c.verdict_laws.ensures.reports
