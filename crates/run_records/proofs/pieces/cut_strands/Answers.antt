use Rattle.std.proofs.Common.{◌++◌, arith}
use Rattle.run_records.specs.Parts.{cut_strands, left_at}
use Rattle.run_records.proofs.Cutting.{left_none, cut_more, cut_done}
use Rattle.run_records.proofs.pieces.cut_strands.Goals as goal

pub loop-piece-init : goal.loop-piece-init
loop-piece-init c = λ i. c.in_ok-parts.ensures.items i ++ cut_strands c.args.cpus c.args.pieces.now (left_none c.args.strands.now i)

pub loop-piece-preserved : goal.loop-piece-preserved
loop-piece-preserved c =
    cut_more c.args.cpus c.args.pieces.now c.loop-piece.piece-index _ c.args.strands.now (left_at c.loop-piece.place c.args.strands.now) (left_at c.behind-place.result c.args.strands.now) c.in_ok-part_at.field-0 c.loop-piece.parts.items c.push.new.self.items (omega arith)
    c.in_ok-part_at.ensures c.behind-place.ensures c.in_ok-push.ensures.items c.loop-piece.invariant

pub returns : goal.returns
returns c =
    cut_done c.args.cpus c.args.pieces.now c.loop-piece.piece-index c.args.strands.now (left_at c.loop-piece.place c.args.strands.now) c.loop-piece.parts.items (omega arith) c.loop-piece.invariant
