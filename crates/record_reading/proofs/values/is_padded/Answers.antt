use Rattle.map_types.proofs.CreationLemmas.{bounds_of_shape}
use Rattle.record_reading.proofs.values.is_padded.Goals as goal

pub are_padded-requires-clause-short : goal.are_padded-requires-clause-short
are_padded-requires-clause-short c = (bounds_of_shape c.args.shape.now c.requires.shape).value_bounded
