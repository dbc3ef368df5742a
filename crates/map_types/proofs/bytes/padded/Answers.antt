use Rattle.std.proofs.Common.{arith}
use Rattle.map_types.proofs.ByteLemmas.{front_taken}
use Rattle.map_types.proofs.bytes.padded.Goals as goal

pub returns-then-len-eq16 : goal.returns-then-len-eq16
returns-then-len-eq16 c = front_taken c.args.source.now _ _ 16 c.if-len-eq16.true c.copy_from_slice.ensures.after

pub returns-then-len-eq8 : goal.returns-then-len-eq8
returns-then-len-eq8 c = front_taken c.args.source.now _ _ 8 c.if-len-eq8.true c.copy_from_slice-then-len-eq8.ensures.after
