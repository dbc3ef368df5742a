use Rattle.record_replay.proofs.BucketHistory.{IsSoFar}
use Rattle.record_replay.proofs.bucket.replay_bucket.Given as goal

abbrev pub invariant-loop-i : goal.invariant-loop-i
invariant-loop-i l = IsSoFar l.shape l.entries l.i l.chain.bodies
