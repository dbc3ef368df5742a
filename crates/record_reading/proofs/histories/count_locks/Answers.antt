use Rattle.std.proofs.Common.{arith}
use Rattle.map_types.proofs.CreationLemmas.{bounds_of_shape}
use Rattle.record_reading.proofs.histories.count_locks.Goals as goal

pub overflow_mul-result : goal.overflow_mul-result
overflow_mul-result c = let bounds = bounds_of_shape c.args.shape.now c.requires in omega arith

pub overflow_add-result : goal.overflow_add-result
overflow_add-result c = let bounds = bounds_of_shape c.args.shape.now c.requires in omega arith

pub overflow_add-result-2 : goal.overflow_add-result-2
overflow_add-result-2 c = let bounds = bounds_of_shape c.args.shape.now c.requires in omega arith
