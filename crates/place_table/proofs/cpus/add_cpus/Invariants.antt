use Rattle.place_table.proofs.Flags.{AddedBelow}
use Rattle.place_table.proofs.cpus.add_cpus.Given as goal

abbrev pub invariant-loop-cpu : goal.invariant-loop-cpu
invariant-loop-cpu l = AddedBelow l.fn.cpus l.others l.cpu l.cpus
