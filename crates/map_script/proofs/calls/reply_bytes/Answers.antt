use Rattle.std.proofs.Common.{◌≡◌, ◌*◌, ◌+◌, min, ap₂, arith}
use Rattle.map_types.specs.declared.kind.Side.TheVariants.{Sys}
use Rattle.map_types.specs.ValueLen.{value_len_of}
use Rattle.map_script.proofs.ReplyRoom.{batch_bounded, each_bounded}
use Rattle.map_script.proofs.calls.reply_bytes.Goals as goal

pub overflow_mul-result : goal.overflow_mul-result
overflow_mul-result c =
    let shape = c.args.shape.now in
    let bytes : c.from-in-BatchRead-3.result * (c.from-in-BatchRead.result + c.from-in-BatchRead-2.result) ≡ min c.in-BatchRead.count shape.elements * (shape.key_size + value_len_of shape Sys) = ap₂ ◌*◌ (omega arith) (omega (arith, c.value_len-in-BatchRead.ensures)) in
    omega (arith, batch_bounded shape c.in-BatchRead.count c.requires)

pub overflow_mul-result-in-Each : goal.overflow_mul-result-in-Each
overflow_mul-result-in-Each c =
    let shape = c.args.shape.now in
    let bytes : c.from-in-Each-3.result * (c.from-in-Each.result + c.from-in-Each-2.result) ≡ shape.elements * (shape.key_size + shape.value_size) = ap₂ ◌*◌ (omega arith) (omega arith) in
    omega (arith, each_bounded shape c.requires)
