use Rattle.std.proofs.Common.{◌≡◌, ◌++◌, drop}
use Rattle.run_records.specs.Parts.{cut_strands, left_at}
use Rattle.run_records.proofs.pieces.cut_strands.Given as goal

-- what is cut so far, and what the pieces that are left make of the strands from the place on
abbrev pub invariant-loop-piece : goal.invariant-loop-piece
invariant-loop-piece l = l.parts.items ++ cut_strands l.cpus (drop l.piece-index l.pieces) (left_at l.place l.strands) ≡ cut_strands l.cpus l.pieces l.strands
