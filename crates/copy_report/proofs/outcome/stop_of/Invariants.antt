use Rattle.std.specs.Prelude.{◌≡◌, drop}
use Rattle.copy_report.specs.CopyText.{stop_of}
use Rattle.copy_report.proofs.outcome.stop_of.Given as goal

abbrev pub invariant-loop-put : goal.invariant-loop-put
invariant-loop-put l = stop_of (drop l.put-index l.puts) ≡ stop_of l.puts
