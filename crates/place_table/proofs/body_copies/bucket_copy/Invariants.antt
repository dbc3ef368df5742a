use Rattle.std.proofs.Common.{◌≡◌, take}
use Rattle.place_table.proofs.body_copies.bucket_copy.Given as goal

-- the bodies so far
abbrev pub invariant-loop-place : goal.invariant-loop-place
invariant-loop-place l = l.bucket.items ≡ take l.place l.chain.bodies
