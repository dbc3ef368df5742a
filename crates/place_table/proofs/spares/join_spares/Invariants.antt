use Rattle.place_table.proofs.JoinedSpares.{JoinedBelow}
use Rattle.place_table.proofs.spares.join_spares.Given as goal

abbrev pub invariant-loop-cpu : goal.invariant-loop-cpu
invariant-loop-cpu l = JoinedBelow l.fn.ours l.fn.theirs l.cpu l.ours l.theirs
