use Rattle.std.proofs.Common.{◌≡◌, map, take}
use Rattle.place_words.specs.Buckets.{as_read}
use Rattle.record_replay.proofs.walks.are_read.Given as goal

abbrev pub invariant-loop-place : goal.invariant-loop-place
invariant-loop-place l = take l.place l.all ≡ map (as_read l.shape l.cpu) (take l.place l.bodies)
