use Rattle.std.proofs.Common.{◌∙◌, arith}
use Rattle.workload_gen.proofs.ByteLemmas.{written_over}
use Rattle.workload_gen.proofs.bytes.little_endian.Goals as goal

pub returns : goal.returns
returns c =
    c.write_at.ensures
    ∙ written_over c.args.number c.args.size c.min-count.result c.to_le_bytes-low.result c.in_ok-bytes.bytes (omega arith) c.min-count.ensures c.to_le_bytes-low.ensures c.in_ok-bytes.ensures
