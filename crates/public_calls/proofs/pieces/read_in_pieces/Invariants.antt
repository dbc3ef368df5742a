use Rattle.std.proofs.Common.{length}
use Rattle.public_calls.proofs.InPieces.{Taken}
use Rattle.public_calls.proofs.pieces.read_in_pieces.Given as goal

abbrev pub invariant-loop-rest : goal.invariant-loop-rest
invariant-loop-rest l = Taken l.fn.form l.reader l.text l.rest

abbrev pub decreases-loop-rest : goal.decreases-loop-rest
decreases-loop-rest l = length l.rest
