use Rattle.std.proofs.Common.{◌≡◌, drop, map}
use Rattle.std.specs.List.{flat_map}
use Rattle.map_types.specs.Stored.{Stored}
use Rattle.finals_check.specs.Marking.{met_after}
use Rattle.finals_check.proofs.meeting.meet_buckets.Given as goal

-- what is left
abbrev pub invariant-loop-bucket : goal.invariant-loop-bucket
invariant-loop-bucket l = met_after l.met (flat_map (λ bucket. map (λ (stored : Stored). stored.element) bucket) (drop l.bucket-index l.buckets)) ≡ met_after l.fn.met (flat_map (λ bucket. map (λ (stored : Stored). stored.element) bucket) l.buckets)
