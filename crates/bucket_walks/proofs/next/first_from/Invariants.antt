use Rattle.std.proofs.Common.{◌≡◌}
use Rattle.bucket_walks.proofs.Past.{WalkedBefore}
use Rattle.bucket_walks.proofs.next.first_from.Given as goal

abbrev pub invariant-loop-bucket : goal.invariant-loop-bucket
invariant-loop-bucket g l = WalkedBefore l.table l.from l.bucket l.buckets l.fn.pass l.pass × (l.out ≡ l.fn.out)
