use Rattle.std.proofs.Common.{arith}
use Rattle.map_types.proofs.CreationLemmas.{bounds_of_shape}
use Rattle.place_table.proofs.create.first_slots.Goals as goal

pub overflow_mul-first_bucket : goal.overflow_mul-first_bucket
overflow_mul-first_bucket c = let bounds = bounds_of_shape c.args.shape.now c.requires.shape in omega arith

pub overflow_add-first_bucket : goal.overflow_add-first_bucket
overflow_add-first_bucket c = let bounds = bounds_of_shape c.args.shape.now c.requires.shape in omega arith

pub overflow_add-first_freelist : goal.overflow_add-first_freelist
overflow_add-first_freelist c = let bounds = bounds_of_shape c.args.shape.now c.requires.shape in omega arith
