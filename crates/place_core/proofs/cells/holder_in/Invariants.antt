use Rattle.std.proofs.Common.{◌≡◌, drop}
use Rattle.place_core.specs.CoreView.{holder_in}
use Rattle.place_core.proofs.cells.holder_in.Given as goal

abbrev pub invariant-loop-taken : goal.invariant-loop-taken
invariant-loop-taken l = holder_in l.number l.held ≡ holder_in l.number (drop l.taken-index l.held)
