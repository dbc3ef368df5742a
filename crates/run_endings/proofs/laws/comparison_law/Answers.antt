use Rattle.run_endings.proofs.Comparisons.{writes_comparison}
use Rattle.run_endings.proofs.laws.comparison_law.Goals as goal

pub returns : goal.returns
returns c = λ words script kept copy good compare. writes_comparison words script kept copy good compare
