use Rattle.std.proofs.Common.{◌∙◌, List, map, ap, arith}
use Rattle.map_types.specs.Stored.{Stored}
use Rattle.finals_check.specs.Marking.{met_after}
use Rattle.finals_check.proofs.MetLists.{loop_more, loop_none}
use Rattle.finals_check.proofs.meeting.meet_buckets.Goals as goal

pub returns-then-not-meet_bucket : goal.returns-then-not-meet_bucket
returns-then-not-meet_bucket c = loop_none (λ (bucket : List Stored). map (λ (stored : Stored). stored.element) bucket) c.args.buckets.now c.loop-bucket.bucket-index c.bucket-item.result c.loop-bucket.met _ (omega arith) c.bucket-item.is (c.if-not-meet_bucket.ensures ∙ ap (λ (items : List Stored). met_after c.loop-bucket.met (map (λ (stored : Stored). stored.element) items)) c.as_slice.ensures) c.loop-bucket.invariant

pub loop-bucket-preserved : goal.loop-bucket-preserved
loop-bucket-preserved c = loop_more (λ (bucket : List Stored). map (λ (stored : Stored). stored.element) bucket) c.args.buckets.now c.loop-bucket.bucket-index c.bucket-item.result c.loop-bucket.met c.meet_bucket.new.met _ (omega arith) c.bucket-item.is (c.if-not-meet_bucket.ensures ∙ ap (λ (items : List Stored). met_after c.loop-bucket.met (map (λ (stored : Stored). stored.element) items)) c.as_slice.ensures) c.loop-bucket.invariant
