use Rattle.std.specs.Prelude.{◌≡◌, count_by, take}
use Rattle.map_report.specs.Summary.{names}
use Rattle.map_report.proofs.summary.count_of.Given as goal

abbrev pub invariant-loop-reply : goal.invariant-loop-reply
invariant-loop-reply l = l.count ≡ count_by (names l.error) (take l.reply-index l.replies)
