use Rattle.std.proofs.Common.{◌≡◌, ◌++◌, take}
use Rattle.place_words.specs.Sizes.{AreSized}
use Rattle.record_check.proofs.chains.are_same.Given as goal

-- the elements so far are the same, and these are left
abbrev pub invariant-loop-place : goal.invariant-loop-place
invariant-loop-place l = record {
  so_far : take l.place l.kept ++ l.left.bodies ≡ l.initial.left.bodies;
  sized : AreSized l.shape l.left.bodies;
}
