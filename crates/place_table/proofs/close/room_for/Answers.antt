use Rattle.std.proofs.Common.{arith}
use Rattle.map_types.proofs.CreationLemmas.{bounds_of_shape}
use Rattle.place_table.proofs.close.room_for.Goals as goal

pub overflow_add-first_set : goal.overflow_add-first_set
overflow_add-first_set c = let bounds = bounds_of_shape c.args.shape.now c.requires.shape in omega arith

pub overflow_add-first_bucket : goal.overflow_add-first_bucket
overflow_add-first_bucket c = let bounds = bounds_of_shape c.args.shape.now c.requires.shape in omega arith

pub overflow_add-count : goal.overflow_add-count
overflow_add-count c = let bounds = bounds_of_shape c.args.shape.now c.requires.shape in omega arith

pub overflow_add-count-2 : goal.overflow_add-count-2
overflow_add-count-2 c = let bounds = bounds_of_shape c.args.shape.now c.requires.shape in omega arith
