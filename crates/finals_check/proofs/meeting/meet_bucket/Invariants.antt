use Rattle.std.proofs.Common.{◌≡◌, drop, map}
use Rattle.map_types.specs.Stored.{Stored}
use Rattle.finals_check.specs.Marking.{met_after}
use Rattle.finals_check.proofs.meeting.meet_bucket.Given as goal

-- what is left
abbrev pub invariant-loop-kept : goal.invariant-loop-kept
invariant-loop-kept l = met_after l.met (map (λ (stored : Stored). stored.element) (drop l.kept-index l.bucket)) ≡ met_after l.fn.met (map (λ (stored : Stored). stored.element) l.bucket)
