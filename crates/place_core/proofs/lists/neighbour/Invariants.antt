use Rattle.std.proofs.Common.{◌≡◌, drop}
use Rattle.map_types.specs.ElementLists.{before_from, neighbour}
use Rattle.place_core.proofs.lists.neighbour.Given as goal

abbrev pub invariant-loop-x : goal.invariant-loop-x
invariant-loop-x l = neighbour l.element l.elements ≡ before_from l.last l.element (drop l.x-index l.elements)
