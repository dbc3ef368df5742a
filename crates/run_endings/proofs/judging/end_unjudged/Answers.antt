use Rattle.run_endings.specs.Divided.{script_part}
use Rattle.run_endings.proofs.Reports.{checking, early_by_script}
use Rattle.run_endings.proofs.judging.end_unjudged.Goals as goal

pub returns : goal.returns
returns g c = λ input divided reading. early_by_script input divided (c.end_without_script.ensures checking (script_part input) reading)
