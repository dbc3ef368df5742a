use Rattle.std.proofs.Common.{◌≡◌, ◌≤◌, length, drop, All}
use Rattle.place_words.specs.Bodies.{numbers}
use Rattle.place_table.proofs.create.freelist_of.Given as goal
use Rattle.map_types.specs.Stored.{IsSized}

abbrev pub invariant-loop-left : goal.invariant-loop-left
invariant-loop-left l = record {
  few : l.left ≤ length l.elements;
  numbers : numbers l.freelist.bodies ≡ drop l.left l.elements;
  sized : All (IsSized l.shape) l.freelist.bodies;
  room : l.freelist.room ≡ l.shape.elements;
}

abbrev pub decreases-loop-left : goal.decreases-loop-left
decreases-loop-left l = l.left
