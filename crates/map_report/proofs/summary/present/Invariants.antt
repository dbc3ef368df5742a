use Rattle.std.specs.Prelude.{◌≡◌, take}
use Rattle.map_report.specs.Summary.{present}
use Rattle.map_report.proofs.summary.present.Given as goal

abbrev pub invariant-loop-bucket : goal.invariant-loop-bucket
invariant-loop-bucket l = l.total ≡ present (take l.bucket-index l.buckets)
