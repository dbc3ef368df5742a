use Rattle.one_map.proofs.AnyRecord.{records_are_one_map}
use Rattle.one_map.proofs.laws.one_map_laws.Goals as goal

pub returns : goal.returns
returns c = record { calls = records_are_one_map }
