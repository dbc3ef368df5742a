use Rattle.std.proofs.Common.{◌≡◌, map, take}
use Rattle.place_words.specs.Handing.{handed}
use Rattle.bucket_walks.specs.BatchReads.{all_read, with_pairs}
use Rattle.elem_walk.proofs.walk.copy_all.Given as goal

abbrev pub invariant-loop-place : goal.invariant-loop-place
invariant-loop-place l = l.over ≡ with_pairs l.fn.over (map (handed l.shape l.cpu) (all_read l.shape l.cpu (take l.place l.chain.bodies)))
