use Rattle.trace_check.proofs.Grouping.{ArePassed}
use Rattle.trace_check.proofs.group.bucket_group.Given as goal

abbrev pub invariant-loop-count : goal.invariant-loop-count
invariant-loop-count l = ArePassed l.turns l.count l.rest
