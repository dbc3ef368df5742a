use Rattle.map_run.proofs.Linearizable.{records_are_linearizable, serial_is_linearizable, yes_is_of_one_map}
use Rattle.map_run.proofs.laws.linear_law.Goals as goal

pub returns : goal.returns
returns c = record { records = records_are_linearizable; serial = serial_is_linearizable; judged = yes_is_of_one_map }
