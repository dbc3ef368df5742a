use Rattle.evicting_traces.proofs.Grouping.{ArePassed}
use Rattle.evicting_traces.proofs.chase.first_group.Given as goal

abbrev pub invariant-loop-count : goal.invariant-loop-count
invariant-loop-count l = ArePassed l.seens l.count l.rest
