use Rattle.map_types.proofs.CreationLemmas.{bounds_of_shape}
use Rattle.map_types.proofs.values.value_len.Goals as goal

pub sys_value_len-requires-clause-few : goal.sys_value_len-requires-clause-few
sys_value_len-requires-clause-few c = (bounds_of_shape c.args.shape.now c.requires).cpus_bounded

pub sys_value_len-requires-clause-short : goal.sys_value_len-requires-clause-short
sys_value_len-requires-clause-short c = (bounds_of_shape c.args.shape.now c.requires).value_bounded
