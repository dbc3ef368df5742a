use Rattle.std.specs.Prelude.{◌≡◌, take}
use Rattle.copy_report.specs.CopyText.{copied}
use Rattle.copy_report.proofs.outcome.copied.Given as goal

abbrev pub invariant-loop-put : goal.invariant-loop-put
invariant-loop-put l = l.total ≡ copied (take l.put-index l.puts)
