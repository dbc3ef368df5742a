use Rattle.std.proofs.Common.{◌≡◌, take}
use Rattle.bucket_walks.specs.BatchReads.{all_read}
use Rattle.bucket_walks.proofs.parts.copies_of.Given as goal

abbrev pub invariant-loop-place : goal.invariant-loop-place
invariant-loop-place l = l.copies.items ≡ all_read l.shape l.cpu (take l.place l.chain.bodies)
