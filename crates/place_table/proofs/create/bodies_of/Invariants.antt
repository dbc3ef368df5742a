use Rattle.std.proofs.Common.{◌≡◌, length, take}
use Rattle.place_table.specs.Opening.{AreBodiesOf}
use Rattle.place_table.proofs.create.bodies_of.Given as goal

abbrev pub invariant-loop-cpu : goal.invariant-loop-cpu
invariant-loop-cpu l = record { long : length l.bodies ≡ 16; are : AreBodiesOf l.shape (take l.cpu l.elements) l.bodies }
