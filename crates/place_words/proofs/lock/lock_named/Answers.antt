use Rattle.std.proofs.Common.{arith}
use Rattle.map_types.proofs.CreationLemmas.{bounds_of_shape}
use Rattle.place_words.proofs.lock.lock_named.Goals as goal

pub overflow_add-sets : goal.overflow_add-sets
overflow_add-sets c = let bounds = bounds_of_shape c.args.shape.now c.requires in omega arith

pub overflow_add-buckets : goal.overflow_add-buckets
overflow_add-buckets c = let bounds = bounds_of_shape c.args.shape.now c.requires in omega arith

pub overflow_add-freelists : goal.overflow_add-freelists
overflow_add-freelists c = let bounds = bounds_of_shape c.args.shape.now c.requires in omega arith
