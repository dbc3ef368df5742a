use Rattle.bucket_walks.proofs.Wholes.{ReadBefore}
use Rattle.bucket_walks.proofs.read.read_from.Given as goal

abbrev pub invariant-loop-bucket : goal.invariant-loop-bucket
invariant-loop-bucket g l = ReadBefore l.table l.fn.out.limit l.from l.bucket l.buckets l.fn.pass l.pass l.out
