use Rattle.map_types.proofs.CreationLemmas.{bounds_of_shape}
use Rattle.evicting_traces.proofs.call_reader.read_call.Goals as goal

pub read_rest-requires-clause-shape : goal.read_rest-requires-clause-shape
read_rest-requires-clause-shape c = bounds_of_shape c.args.shape.now c.requires.shape
