use Rattle.std.proofs.Common.{arith}
use Rattle.map_script.proofs.ReplyRoom.{reply_bounded}
use Rattle.map_script.proofs.calls.add_line.Goals as goal

pub overflow_add-room : goal.overflow_add-room
overflow_add-room c = omega (arith, reply_bounded c.args.shape.now c.in-Call.call.verb c.requires.shape, c.reply_bytes.ensures, c.requires.fits)
