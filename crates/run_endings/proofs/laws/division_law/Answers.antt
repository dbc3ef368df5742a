use Rattle.run_endings.proofs.Divisions.{divides_at_the_end, divides_there}
use Rattle.run_endings.proofs.laws.division_law.Goals as goal

pub returns : goal.returns
returns c = record { there = divides_there; end = divides_at_the_end }
