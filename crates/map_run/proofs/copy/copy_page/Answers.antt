use Rattle.std.proofs.Common.{arith}
use Rattle.map_types.proofs.CreationLemmas.{bounds_of_shape}
use Rattle.map_batch.specs.Calls.{table_of}
use Rattle.map_run.proofs.copy.copy_page.Goals as goal

pub put_page-requires-clause-has_cpu : goal.put_page-requires-clause-has_cpu
put_page-requires-clause-has_cpu g c =
    let some = (bounds_of_shape (table_of c.args.target.now).shape c.requires.can.target_shape).some_cpu in
    c.requires.can.whole.all_cpus 0 (omega (arith, some))
