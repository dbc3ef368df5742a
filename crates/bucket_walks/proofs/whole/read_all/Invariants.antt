use Rattle.std.proofs.Common.{◌≡◌, map, take}
use Rattle.place_words.specs.Walks.{pair_of}
use Rattle.bucket_walks.specs.BatchReads.{all_read, with_pairs}
use Rattle.bucket_walks.proofs.whole.read_all.Given as goal

abbrev pub invariant-loop-place : goal.invariant-loop-place
invariant-loop-place l = l.out ≡ with_pairs l.fn.out (map pair_of (all_read l.shape l.cpu (take l.place l.chain.bodies)))
